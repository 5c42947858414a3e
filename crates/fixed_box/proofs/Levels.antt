-- The first number of a range that passes a test.
use Rattle.std.proofs.Common.{◌≡◌, ℕ, zero, suc, ◌+◌, ◌<◌, ◌≤◌, Bool, true, false, cond, nat_lt, Some, ap, ◌∙◌, inl, inr, arith, unwrap_or}
use Rattle.std.specs.List.{find, range_with_len}
use Rattle.std.proofs.lemmas.Bool.{cases_eq}
use Rattle.std.proofs.lemmas.Bool.Decides.{nat_tests}
use Rattle.fixed_box.specs.Bounds.{cell_side, level_for}

find_in_range : (p : ℕ → Bool) (n a l : ℕ) → p l ≡ true → ((k : ℕ) → k < l → p k ≡ false) → a ≤ l → l < a + n → find p (range_with_len a n) ≡ Some l
find_in_range p zero a l passes fails low high = absurd (omega arith)
find_in_range p (suc n) a l passes fails low high =
    elim (cases_eq a l) [
      | inl same ↦ ap (λ t. cond t (Some a) (find p (range_with_len (a + 1) n))) (ap p same ∙ passes) ∙ ap Some same
      | inr other ↦ ap (λ t. cond t (Some a) (find p (range_with_len (a + 1) n))) (fails a (omega arith))
          ∙ find_in_range p n (a + 1) l passes fails (omega arith) (omega arith)
    ]

pub least_level : (side l : ℕ) → l ≤ 10 → side < cell_side l → ((k : ℕ) → k < l → cell_side k ≤ side) → level_for side ≡ l
least_level side l few fits short =
    ap (λ o. unwrap_or o 10)
    (find_in_range (λ level. nat_lt side (cell_side level)) 11 0 l (let below : side < cell_side l = fits in grind (arith, nat_tests))
    (λ k lt. let above : cell_side k ≤ side = short k lt in grind (arith, nat_tests)) (omega arith) (omega arith))
