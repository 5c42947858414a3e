-- Serves proofs alone: repeats of a rising list dropped in place, where each number is written whether it is kept or not.
use mir.Val.{bool_byte}
use lib.Dec.{eqb}
use Rattle.std.proofs.Common.{◌≡◌, ℕ, zero, suc, ◌+◌, ◌<◌, ◌≤◌, Bool, true, false, cond, not, List, []}
use Rattle.std.proofs.Common.{◌∷◌, ◌++◌, append_assoc, drop, length, get_or, set, take}
use Rattle.std.proofs.Common.{refl, sym, ap, subst, ◌∙◌, arith}
use Rattle.std.specs.List.{dedup, dedup_from}
use Rattle.std.proofs.lemmas.Bool.{eqb-true}
use Rattle.std.proofs.lemmas.List.{length-set, take-set-le, drop-set-lt, get_or-set_same, drop_more, take_more}

-- ys began as xs. The distinct ones of the first i stand in the first k places of ys and at k, where the last of them is.
pub record DedupsInPlace (xs ys : List ℕ) (k i last : ℕ) : Type 0 where
  pub left : take k ys ++ dedup_from eqb last (drop i ys) ≡ dedup eqb xs
  pub here : get_or ys k last ≡ last
  pub behind : k < i
  pub within : i ≤ length ys
  pub long : length ys ≡ length xs

pub begins : (xs : List ℕ) (x : ℕ) → 0 < length xs → x ≡ get_or xs 0 x → DedupsInPlace xs xs 0 1 x
begins [] x lt is = absurd (omega arith)
begins (y ∷ ys) x lt is = record {
  left = ap (λ z. dedup_from eqb z ys) is;
  here = sym is;
  behind = omega arith;
  within = omega arith;
  long = refl;
}

module _ (xs ys : List ℕ) (k i last x : ℕ) where
  rest : i < length ys → x ≡ get_or ys i x → drop i ys ≡ x ∷ drop (i + 1) ys
  rest lt is = drop_more ys i x lt ∙ ap (λ y. y ∷ drop (i + 1) ys) (sym is)

  repeated : DedupsInPlace xs ys k i last → i < length ys → x ≡ get_or ys i x → eqb x last ≡ true → DedupsInPlace xs (set ys k x) k (i + 1) x
  repeated h lt is e = record {
    left = ap (λ l. l ++ dedup_from eqb x (drop (i + 1) (set ys k x))) (take-set-le k ys k x (omega arith))
        ∙ ap (λ l. take k ys ++ dedup_from eqb x l) (drop-set-lt (i + 1) ys k x (let b = h.behind in omega arith))
        ∙ ap (λ z. take k ys ++ dedup_from eqb z (drop (i + 1) ys)) (eqb-true x last e)
        ∙ ap (λ b. take k ys ++ cond b (dedup_from eqb last (drop (i + 1) ys)) (last ∷ dedup_from eqb x (drop (i + 1) ys))) (sym e)
        ∙ ap (λ l. take k ys ++ dedup_from eqb last l) (sym (rest lt is)) ∙ h.left;
    here = get_or-set_same ys k x x (let b = h.behind in omega arith);
    behind = let b = h.behind in omega arith;
    within = let e : length (set ys k x) ≡ length ys = length-set ys k x in omega arith;
    long = length-set ys k x ∙ h.long;
  }

  distinct : DedupsInPlace xs ys k i last → i < length ys → x ≡ get_or ys i x → eqb x last ≡ false → DedupsInPlace xs (set ys (k + 1) x) (k + 1) (i + 1) x
  distinct h lt is e = record {
    left = ap (λ l. l ++ dedup_from eqb x (drop (i + 1) (set ys (k + 1) x))) (take-set-le (k + 1) ys (k + 1) x (omega arith))
        ∙ ap (λ l. take (k + 1) ys ++ dedup_from eqb x l) (drop-set-lt (i + 1) ys (k + 1) x (let b = h.behind in omega arith))
        ∙ ap (λ l. l ++ dedup_from eqb x (drop (i + 1) ys)) (take_more ys k last (let b = h.behind in omega arith) ∙ ap (λ z. take k ys ++ z ∷ []) h.here)
        ∙ append_assoc (take k ys) (last ∷ []) (dedup_from eqb x (drop (i + 1) ys))
        ∙ ap (λ b. take k ys ++ cond b (dedup_from eqb last (drop (i + 1) ys)) (last ∷ dedup_from eqb x (drop (i + 1) ys))) (sym e)
        ∙ ap (λ l. take k ys ++ dedup_from eqb last l) (sym (rest lt is)) ∙ h.left;
    here = get_or-set_same ys (k + 1) x x (let b = h.behind in omega arith);
    behind = let b = h.behind in omega arith;
    within = let e : length (set ys (k + 1) x) ≡ length ys = length-set ys (k + 1) x in omega arith;
    long = length-set ys (k + 1) x ∙ h.long;
  }

  by_test : (b : Bool) → DedupsInPlace xs ys k i last → i < length ys → x ≡ get_or ys i x → eqb x last ≡ not b
      → DedupsInPlace xs (set ys (k + bool_byte b) x) (k + bool_byte b) (i + 1) x
  by_test true h lt is e = distinct h lt is e
  by_test false h lt is e =
      let same : k ≡ k + 0 = omega arith in
      subst (λ m. DedupsInPlace xs (set ys m x) m (i + 1) x) same (repeated h lt is e)

  pub goes_on : (b : Bool) (n : ℕ) → DedupsInPlace xs ys k i last → i < length ys → x ≡ get_or ys i x → eqb x last ≡ not b → n ≡ bool_byte b
      → DedupsInPlace xs (set ys (k + n) x) (k + n) (i + 1) x
  goes_on b n h lt is e one = subst (λ m. DedupsInPlace xs (set ys (k + m) x) (k + m) (i + 1) x) (sym one) (by_test b h lt is e)

pub ends : (xs ys : List ℕ) (k i last : ℕ) → DedupsInPlace xs ys k i last → length ys ≤ i → take (k + 1) ys ≡ dedup eqb xs
ends xs ys k i last h le =
    take_more ys k last (let b = h.behind in let w = h.within in omega arith) ∙ ap (λ z. take k ys ++ z ∷ []) h.here
    ∙ ap (λ l. take k ys ++ dedup_from eqb last l) (sym (past i ys le)) ∙ h.left
  where
    past : (n : ℕ) (l : List ℕ) → length l ≤ n → drop n l ≡ []
    past zero [] e = refl
    past (suc n) [] e = refl
    past zero (y ∷ l) e = absurd (omega arith)
    past (suc n) (y ∷ l) e = past n l (omega arith)
