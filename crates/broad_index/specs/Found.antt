-- Definitions: the boxes of a map that meet a query.
use Rattle.std.specs.Prelude.{ℕ, Bool, List, map, filter}
use Rattle.std.specs.Ordering.{nat_cmp}
use Rattle.std.specs.FinMap.{FinMap, entries}
use Rattle.fixed_box.specs.Bounds.{Bounds, meets, holds}
use Rattle.ray_slabs.specs.Crossing.{in_ray, in_seg}
use Rattle.ray_slabs.specs.WideBounds.{widened_box}
use Rattle.box_cast.specs.Cast.{in_cast}
use Rattle.broad_index.specs.declared.query.Query.{Query}
use Rattle.broad_index.specs.declared.query.Query.TheVariants.{Region, Spot, Along, Between, Swept}
use Rattle.broad_index.specs.declared.query.QKind.{QKind}
use Rattle.broad_index.specs.declared.query.QKind.TheVariants as kind

-- A region meets boxes that overlap it, a spot those that hold it, a ray and a segment those that some point of theirs is in, a cast those that its box
-- meets somewhere on its way.
abbrev pub query_meets : Query → Bounds → Bool
query_meets (Region region) body = meets region body
query_meets (Spot at) body = holds body at
query_meets (Along ray) body = in_ray ray.from ray.dir (widened_box body)
query_meets (Between seg) body = in_seg seg.a seg.b (widened_box body)
query_meets (Swept cast) body = in_cast cast.body cast.by body

-- the variant of the same name
abbrev pub kind_of : Query → QKind
kind_of (Region region) = kind.Region
kind_of (Spot at) = kind.Spot
kind_of (Along ray) = kind.Along
kind_of (Between seg) = kind.Between
kind_of (Swept cast) = kind.Swept

-- the slots of entries whose boxes meet a query, in their order
abbrev pub found_of : List (ℕ × Bounds) → Query → List ℕ
found_of es query = map (λ e. e.0) (filter (λ e. query_meets query e.1) es)

-- the present slots whose entries pass a test, rising
abbrev pub listed : (ℕ × Bounds → Bool) → FinMap nat_cmp Bounds → List ℕ
listed p bodies = map (λ e. e.0) (filter p (entries bodies))

-- All present slots whose boxes meet the query, rising.
abbrev pub found : FinMap nat_cmp Bounds → Query → List ℕ
found bodies query = found_of (entries bodies) query
