-- Serves proofs alone: a box has one of eleven levels, a slot has one box, and numbers that compare as equal are one.
use Rattle.std.proofs.Common.{◌≡◌, ℕ, zero, suc, ◌+◌, ◌<◌, ◌≤◌, Bool, true, false, cond, Option, None, Some, is_some, refl, sym, ap, arith}
use Rattle.std.specs.Prelude.{find, unwrap_or, nat_lt}
use Rattle.std.specs.List.{range_with_len}
use Rattle.std.proofs.lemmas.Bool.{true≢false, false≢true}
use Rattle.std.specs.Ordering.{nat_cmp, eq_by_cmp, is_eq}
use Rattle.std.specs.declared.cmp.Ordering.TheVariants.{Less, Equal, Greater}
use Rattle.std.specs.Cmp.{ranked}
use Rattle.fixed_box.specs.Bounds.{Bounds, cell_side, level_of, longest_side}

low_find : (p : ℕ → Bool) (n m : ℕ) → n + m ≤ 11 → unwrap_or (find p (range_with_len n m)) 10 < 11
low_find p n zero h = omega arith
low_find p n (suc m) h = elim (p n) as
    (λ b. unwrap_or (cond b (Some n) (find p (range_with_len (n + 1) m))) 10 < 11) [ true ↦ omega arith | false ↦ low_find p (n + 1) m (omega arith) ]

pub low_level : (b : Bounds) → level_of b < 11
low_level b = low_find (λ level. nat_lt (longest_side b) (cell_side level)) 0 11 (omega arith)

pub some_is : {x y : Bounds} → ◌≡◌ {A = Option Bounds} (Some x) (Some y) → x ≡ y
some_is e = cc

pub none_some : (x : Bounds) → ◌≡◌ {A = Option Bounds} None (Some x) → ⊥
none_some x e = true≢false (ap is_some (sym e))

pub tie_is : (x y : ℕ) → eq_by_cmp nat_cmp x y ≡ true → x ≡ y
tie_is x y h = elim (nat_cmp x y) as
    (λ r. r ≡ nat_cmp x y → is_eq r ≡ true → x ≡ y) [
      | Less ↦ λ _ h. absurd (false≢true h)
      | Equal ↦ λ e _. ranked x y Equal e
      | Greater ↦
          λ _ h. absurd (false≢true h)
    ] refl h
