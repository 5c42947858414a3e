-- Serves proofs alone: where a list of nodes is cut at one that it has, and at its first one.
use Rattle.std.proofs.Common.{Some, unwrap_or, ◌≡◌, ℕ, List, [], ◌∷◌, ◌++◌, eqb, ◌||◌, ap, refl, true, false, eq-eqb, ne_eqb, inl, inr}
use Rattle.std.proofs.lemmas.Bool.{cases_eq}
use Rattle.endpoint_list.specs.NodeList.{has, first_of}

pub has_split : (k : ℕ) (xs : List ℕ) → has k xs ≡ true → (ys : List ℕ) × (zs : List ℕ) × (xs ≡ ys ++ k ∷ zs)
has_split k [] h = absurd (cc)
has_split k (x ∷ xs) h =
    elim (cases_eq x k) [
      | inl e ↦ ([], xs, ap (λ n. n ∷ xs) e)
      | inr o ↦
          let rest = has_split k xs (rw (ne_eqb x k o) at h) in
          (x ∷ rest.0, rest.1, ap (λ ns. x ∷ ns) rest.2)
    ]

pub first_split : (k : ℕ) (xs : List ℕ) → first_of xs ≡ Some k → (rest : List ℕ) × (xs ≡ k ∷ rest)
first_split k [] e = absurd (cc)
first_split k (x ∷ xs) e = (xs, ap (λ o. unwrap_or o 0 ∷ xs) e)

pub has_middle : (k : ℕ) (ys zs : List ℕ) → has k (ys ++ k ∷ zs) ≡ true
has_middle k [] zs = rw (eq-eqb k k refl) refl
has_middle k (y ∷ ys) zs = rw (has_middle k ys zs) (elim (eqb y k) as (λ b. (b || true) ≡ true) [ true ↦ refl | false ↦ refl ])
