-- Definitions: three lists of endpoints, one for each axis, and on how many of them two slots overlap.
use Rattle.std.specs.Prelude.{ℕ, ◌+◌, ◌*◌, Bool, false, if◌then◌else◌, ◌&&◌, ◌||◌, ◌==◌, List, [], ◌∷◌}
use Rattle.endpoint_list.specs.NodeList.{has}
use Rattle.sweep_prune.specs.declared.axis.Axis.{Axis}
use Rattle.sweep_prune.specs.declared.axis.Axis.TheVariants.{X, Y, Z}
use Rattle.sweep_prune.specs.declared.lists.Lists.{Lists}

-- the list of an axis
abbrev pub on : Axis → Lists → List ℕ
on X ls = ls.x
on Y ls = ls.y
on Z ls = ls.z

-- the lists with another one on an axis
abbrev pub with_on : Axis → List ℕ → Lists → Lists
with_on X l ls = record { x = l; y = ls.y; z = ls.z }
with_on Y l ls = record { x = ls.x; y = l; z = ls.z }
with_on Z l ls = record { x = ls.x; y = ls.y; z = l }

-- whether v comes after u
abbrev pub stands_before : List ℕ → ℕ → ℕ → Bool
stands_before [] u v = false
stands_before (x ∷ xs) u v = (x == u && has v xs) || stands_before xs u v

-- whether each slot's minimum node stands before the other's maximum node
abbrev pub overlap_in : List ℕ → ℕ → ℕ → Bool
overlap_in xs a b = stands_before xs (2 * a) (2 * b + 1) && stands_before xs (2 * b) (2 * a + 1)

abbrev pub one_if : Bool → ℕ
one_if b = if b then 1 else 0

-- the number of lists in which two slots overlap
abbrev pub places : Lists → ℕ → ℕ → ℕ
places ls a b = one_if (overlap_in ls.x a b) + one_if (overlap_in ls.y a b) + one_if (overlap_in ls.z a b)
