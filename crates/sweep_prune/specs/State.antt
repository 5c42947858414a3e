-- Definitions: a sweep, as clauses see it.
use Rattle.std.specs.Prelude.{ℕ, Bool, refl}
use Rattle.std.specs.Ordering.{nat_cmp}
use Rattle.std.specs.FinMap.{FinMap, code}
use Rattle.std.specs.Coded.{Coded, code_by, coded×, coded_ℕ, coded_bool}
use Rattle.fixed_box.specs.Bounds.{Bounds, coded_bounds}

-- the present slots with their boxes, the mark of want of memory, and the number of exchanges
pub record SapState : Type 0 where
  pub bodies : FinMap nat_cmp Bounds
  pub spent : Bool
  pub exchanges : ℕ

abbrev pub coded_sap : Coded SapState
coded_sap =
    code_by (FinMap nat_cmp Bounds × (Bool × ℕ)) (coded× (code coded_ℕ coded_bounds) (coded× coded_bool coded_ℕ))
    (λ s. (s.bodies, (s.spent, s.exchanges))) (λ t. record { bodies = t.0; spent = t.1.0; exchanges = t.1.1 }) (λ _. refl)
