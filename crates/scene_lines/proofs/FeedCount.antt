-- The bytes up to the first line feed hold no other.
use Rattle.std.proofs.Common.{◌≡◌, ℕ, ◌+◌, ◌≤◌, true, false, cond, not, List, [], ◌∷◌, take, arith, subst, sym, refl}
use Rattle.std.specs.List.{count_by}
use Rattle.std.proofs.Math.Seq.{take-append-add}
use Rattle.std.proofs.lemmas.List.Sums.{count_by-le-length, sum_by-cons}
use Rattle.scene_lines.specs.SceneLines.{is_feed, length_ahead}

feeds_cons : (b : ℕ) (bs : List ℕ) → count_by is_feed (b ∷ bs) ≡ cond {A = ℕ} (is_feed b) 1 0 + count_by is_feed bs
feeds_cons b bs = sum_by-cons (λ x. cond {A = ℕ} (is_feed x) 1 0) b bs

pub one_feed : (bytes : List ℕ) → count_by is_feed (take (length_ahead bytes + 1) bytes) ≤ 1
one_feed [] = omega arith
one_feed (b ∷ bs) =
    elim (is_feed b) as (λ t. is_feed b ≡ t → count_by is_feed (take (cond (not t) (1 + length_ahead bs) 0 + 1) (b ∷ bs)) ≤ 1) [
      | true ↦ λ _. omega (arith, count_by-le-length is_feed (b ∷ []))
      | false ↦ λ e.
          let rest : count_by is_feed (take (length_ahead bs + 1) bs) ≤ 1 = one_feed bs in
          let first : count_by is_feed (b ∷ take (length_ahead bs + 1) bs) ≡ cond {A = ℕ} false 1 0 + count_by is_feed (take (length_ahead bs + 1) bs) =
          subst (λ t. count_by is_feed (b ∷ take (length_ahead bs + 1) bs) ≡ cond {A = ℕ} t 1 0 + count_by is_feed (take (length_ahead bs + 1) bs)) e
          (feeds_cons b (take (length_ahead bs + 1) bs)) in
          let short : count_by is_feed (b ∷ take (length_ahead bs + 1) bs) ≤ 1 = omega (arith, rest, first) in
          let cut : take (1 + (length_ahead bs + 1)) (b ∷ bs) ≡ b ∷ take (length_ahead bs + 1) bs = take-append-add (b ∷ []) bs (length_ahead bs + 1) in
          let same : 1 + (length_ahead bs + 1) ≡ 1 + length_ahead bs + 1 = omega arith in
          subst (λ n. count_by is_feed (take n (b ∷ bs)) ≤ 1) same (subst (λ xs. count_by is_feed xs ≤ 1) (sym cut) short)
    ] refl
