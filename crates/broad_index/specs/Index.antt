-- Definitions: a plain index, as clauses see it.
use Rattle.std.specs.Prelude.{ℕ, Bool, List, refl}
use Rattle.std.specs.Ordering.{nat_cmp}
use Rattle.std.specs.FinMap.{FinMap, code, from_sorted}
use Rattle.std.specs.Coded.{Coded, code_by, coded×, coded_ℕ, coded_bool}
use Rattle.fixed_box.specs.Bounds.{Bounds, coded_bounds}

-- the present slots with their boxes, and the mark of want of memory
pub record Indexed : Type 0 where
  pub bodies : FinMap nat_cmp Bounds
  pub spent : Bool

abbrev pub coded_index : Coded Indexed
coded_index =
    code_by (FinMap nat_cmp Bounds × Bool) (coded× (code coded_ℕ coded_bounds) coded_bool) (λ i. (i.bodies, i.spent))
    (λ t. record { bodies = t.0; spent = t.1 }) (λ _. refl)

-- the map of entries in order of their slots
abbrev pub bodies_of : List (ℕ × Bounds) → FinMap nat_cmp Bounds
bodies_of es = from_sorted es
