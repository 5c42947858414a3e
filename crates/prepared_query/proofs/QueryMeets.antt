-- What a query meets of a box it meets of each box that encloses it.
use Rattle.std.proofs.Common.{◌≡◌, Bool, true, false, refl, sym, ◌∙◌}
use Rattle.fixed_box.specs.declared.point.Point.{Point}
use Rattle.fixed_box.specs.Bounds.{Bounds, meets, holds, encloses}
use Rattle.box_cast.specs.Cast.{in_cast}
use Rattle.ray_slabs.specs.Crossing.{in_ray, in_seg}
use Rattle.ray_slabs.specs.Vector.{Vector}
use Rattle.ray_slabs.specs.WideBounds.{WideBounds, widened_box, encloses as wide_encloses}
use Rattle.broad_index.specs.declared.query.Query.{Query}
use Rattle.broad_index.specs.declared.query.Query.TheVariants.{Region, Spot, Along, Between, Swept}
use Rattle.broad_index.specs.Found.{query_meets}

pub record Laws : Type 0 where
  pub either_way : (a b : Bounds) → meets a b ≡ meets b a
  pub met : (outer inner other : Bounds) → encloses outer inner ≡ true → meets inner other ≡ true → meets outer other ≡ true
  pub held : (outer inner : Bounds) (at : Point) → encloses outer inner ≡ true → holds inner at ≡ true → holds outer at ≡ true
  pub on_ray : (from dir : Vector) (outer inner : WideBounds) → wide_encloses outer inner ≡ true → in_ray from dir inner ≡ true → in_ray from dir outer ≡ true
  pub on_cast : (c : Bounds) (v : Point) (outer inner : Bounds) → encloses outer inner ≡ true → in_cast c v inner ≡ true → in_cast c v outer ≡ true
  pub on_seg : (a b : Vector) (outer inner : WideBounds) → wide_encloses outer inner ≡ true → in_seg a b inner ≡ true → in_seg a b outer ≡ true

pub enclosed : Laws → (query : Query) (outer inner : Bounds) → encloses outer inner ≡ true → query_meets query inner ≡ true → query_meets query outer ≡ true
enclosed w (Region region) outer inner e h = w.either_way region outer ∙ w.met outer inner region e (w.either_way inner region ∙ h)
enclosed w (Spot at) outer inner e h = w.held outer inner at e h
enclosed w (Along ray) outer inner e h = w.on_ray ray.from ray.dir (widened_box outer) (widened_box inner) e h
enclosed w (Between seg) outer inner e h = w.on_seg seg.a seg.b (widened_box outer) (widened_box inner) e h
enclosed w (Swept cast) outer inner e h = w.on_cast cast.body cast.by outer inner e h

pub missed : (a b : Bool) → (b ≡ true → a ≡ true) → a ≡ false → b ≡ false
missed a true up out = sym (up refl) ∙ out
missed a false up out = refl
