-- The sum of what searches cost.
use Rattle.std.proofs.Common.{◌≡◌, ℕ, List, map, ap, ◌∙◌, Option, Some, None, IfSome}
use Rattle.std.specs.List.{sum}
use Rattle.work_pieces.specs.Each.{Each}
use Rattle.work_pieces.specs.EachLaws.{Each-map}

-- the numbers beside what was found add up to the costs, where those are told
pub summed : {V : Type 0} (P : ℕ → V × ℕ → Type 0) (costs : Option (ℕ → ℕ)) (slots : List ℕ) (found : List (V × ℕ)) (total : ℕ)
    → ((slot : ℕ) (y : V × ℕ) → P slot y → IfSome costs (λ cost. y.1 ≡ cost slot)) → Each P slots found → total ≡ sum (map (λ y. y.1) found)
    → IfSome costs (λ cost. total ≡ sum (map cost slots))
summed P None slots found total tells h e = tt
summed P (Some cost) slots found total tells h e = e ∙ ap sum (Each-map P cost (λ y. y.1) slots found tells h)
