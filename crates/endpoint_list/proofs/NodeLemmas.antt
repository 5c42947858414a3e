-- Nodes that are none of a list, distinct nodes and nodes below a number, as a list is joined, cut and changed.
use Rattle.std.proofs.Common.{◌≡◌, ℕ, ◌<◌, ◌≤◌, List, [], ◌∷◌, ◌++◌, refl, sym, arith, false, true, eq-eqb, ne_eqb, inl, inr}
use Rattle.std.proofs.lemmas.Bool.{cases_eq}
use Rattle.endpoint_list.specs.declared.TheConstants.{NODES}
use Rattle.endpoint_list.specs.NodeList.{has, IsDistinct, IsNodeList}
use Rattle.slot_lists.specs.Links.{Fresh, Distinct, Below}
use Rattle.slot_lists.specs.LinkLaws.{Fresh-append}
use Rattle.endpoint_list.specs.Links.{AreLinked}

pub Distinct-push : (xs : List ℕ) (y : ℕ) → Distinct xs → Fresh y xs → Distinct (xs ++ y ∷ [])
Distinct-push [] y d f = (tt, tt)
Distinct-push (x ∷ xs) y d f = (Fresh-append x xs (y ∷ []) d.0 ((λ e. f.0 (sym e)), tt), Distinct-push xs y d.1 f.1)

pub Below-push : (n : ℕ) (xs : List ℕ) (y : ℕ) → Below n xs → y < n → Below n (xs ++ y ∷ [])
Below-push n [] y b l = (l, tt)
Below-push n (x ∷ xs) y b l = (b.0, Below-push n xs y b.1 l)

pub Below-Fresh : (n : ℕ) (xs : List ℕ) → Below n xs → Fresh n xs
Below-Fresh n [] b = tt
Below-Fresh n (x ∷ xs) b = ((λ e. absurd (omega arith)), Below-Fresh n xs b.1)

pub Fresh-swap : (k a b : ℕ) (xs ys : List ℕ) → Fresh k (xs ++ a ∷ b ∷ ys) → Fresh k (xs ++ b ∷ a ∷ ys)
Fresh-swap k a b [] ys f = (f.1.0, (f.0, f.1.1))
Fresh-swap k a b (x ∷ xs) ys f = (f.0, Fresh-swap k a b xs ys f.1)

pub Distinct-swap : (xs : List ℕ) (a b : ℕ) (ys : List ℕ) → Distinct (xs ++ a ∷ b ∷ ys) → Distinct (xs ++ b ∷ a ∷ ys)
Distinct-swap [] a b ys d = (((λ e. d.0.0 (sym e)), d.1.0), (d.0.1, d.1.1))
Distinct-swap (x ∷ xs) a b ys d = (Fresh-swap x a b xs ys d.0, Distinct-swap xs a b ys d.1)

pub Below-swap : (n : ℕ) (xs : List ℕ) (a b : ℕ) (ys : List ℕ) → Below n (xs ++ a ∷ b ∷ ys) → Below n (xs ++ b ∷ a ∷ ys)
Below-swap n [] a b ys l = (l.1.0, (l.0, l.1.1))
Below-swap n (x ∷ xs) a b ys l = (l.0, Below-swap n xs a b ys l.1)

pub Below-without : (n : ℕ) (xs : List ℕ) (k : ℕ) (ys : List ℕ) → Below n (xs ++ k ∷ ys) → Below n (xs ++ ys)
Below-without n [] k ys b = b.1
Below-without n (x ∷ xs) k ys b = (b.0, Below-without n xs k ys b.1)

-- ---- the same in the words of clauses

pub fresh_has : (k : ℕ) (xs : List ℕ) → Fresh k xs → has k xs ≡ false
fresh_has k [] f = refl
fresh_has k (x ∷ xs) f = rw (ne_eqb x k (λ e. f.0 (sym e)), fresh_has k xs f.1) refl

pub has_fresh : (k : ℕ) (xs : List ℕ) → has k xs ≡ false → Fresh k xs
has_fresh k [] h = tt
has_fresh k (x ∷ xs) h =
    elim (cases_eq x k) [
      | inl e ↦ absurd (let t : has k (x ∷ xs) ≡ true = rw (eq-eqb x k e) refl in cc)
      | inr n ↦ ((λ e. n (sym e)), has_fresh k xs (rw (ne_eqb x k n) at h))
    ]

pub has_below : (k n : ℕ) (xs : List ℕ) → Below n xs → has k xs ≡ true → k < n
has_below k n [] b h = absurd (cc)
has_below k n (x ∷ xs) b h =
    elim (cases_eq x k) [
      | inl e ↦ omega (arith, b.0)
      | inr o ↦ has_below k n xs b.1 (rw (ne_eqb x k o) at h)
    ]

pub distinct_has : (xs : List ℕ) → Distinct xs → IsDistinct xs
distinct_has [] d = tt
distinct_has (x ∷ xs) d = (fresh_has x xs d.0, distinct_has xs d.1)

pub node_list : (N P xs : List ℕ) → AreLinked N P xs → IsNodeList xs
node_list N P xs k = record { distinct = distinct_has xs k.distinct; small = λ node h. has_below node NODES xs k.below h }

pub has_past : (k n : ℕ) (xs : List ℕ) → Below n xs → n ≤ k → has k xs ≡ false
has_past k n [] b le = refl
has_past k n (x ∷ xs) b le = rw (ne_eqb x k (λ e. absurd (omega (arith, b.0))), has_past k n xs b.1 le) refl
