-- Lines whose numbers fit 32 bits.
use Rattle.std.specs.Prelude.{ℤ, pos, neg_ℤ, ◌^◌, Bool, false, ◌&&◌, int_le, int_lt}
use Rattle.ray_slabs.specs.Vector.{Vector, displacement}
use Rattle.broad_index.specs.declared.query.Query.{Query}
use Rattle.broad_index.specs.declared.query.Query.TheVariants.{Region, Spot, Along, Between, Swept}

-- from -2^31 to 2^31 - 1
abbrev pub fits_i32 : ℤ → Bool
fits_i32 part = int_le (neg_ℤ (pos (2 ^ 31))) part && int_lt part (pos (2 ^ 31))

-- each part of p does
abbrev pub is_narrow_vector : Vector → Bool
is_narrow_vector p = fits_i32 p.x && fits_i32 p.y && fits_i32 p.z

-- a ray whose start and direction fit, or a segment whose start and displacement do
abbrev pub is_narrow : Query → Bool
is_narrow (Region region) = false
is_narrow (Spot at) = false
is_narrow (Along ray) = is_narrow_vector ray.from && is_narrow_vector ray.dir
is_narrow (Between seg) = is_narrow_vector seg.a && is_narrow_vector (displacement seg.a seg.b)
is_narrow (Swept cast) = false
