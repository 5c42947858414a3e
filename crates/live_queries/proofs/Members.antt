-- The members of a list, one by one.
use Rattle.std.proofs.Common.{◌≡◌, ◌⊎◌, zero, suc, Bool, true, false, cond, List, [], ◌∷◌, map, filter, refl, sym, ap, ◌∙◌, subst, arith, inl, inr}
use Rattle.std.specs.List.{Contains}
use Rattle.std.proofs.lemmas.Bool.{cases_Bool}

module _ {X : Type 0} where
  pub here : (x : X) (xs : List X) → Contains (x ∷ xs) x
  here x xs = (0, omega arith, refl)

  pub there : (y : X) (xs : List X) (x : X) → Contains xs x → Contains (y ∷ xs) x
  there y xs x (k, l, e) = (suc k, omega arith, e)

  pub head_or_later : (y : X) (xs : List X) (x : X) → Contains (y ∷ xs) x → (y ≡ x) ⊎ Contains xs x
  head_or_later y xs x (zero, l, e) = inl e
  head_or_later y xs x (suc k, l, e) = inr (k, omega arith, e)

  pub nothing : (x : X) → Contains [] x → ⊥
  nothing x (k, l, e) = omega arith

  pub passes : (p : X → Bool) (xs : List X) (x : X) → Contains xs x → p x ≡ true → Contains (filter p xs) x
  passes p [] x c t = absurd (nothing x c)
  passes p (y ∷ xs) x c t = elim (head_or_later y xs x c) as (λ _. Contains (filter p (y ∷ xs)) x) [
    | inl s ↦ subst (λ b. Contains (cond b (y ∷ filter p xs) (filter p xs)) x) (sym (ap p s ∙ t)) (subst (λ o. Contains (o ∷ filter p xs) x) (sym s) (here x (filter p xs)))
    | inr r ↦
        let rest : Contains (filter p xs) x = passes p xs x r t in
        elim (p y) as (λ b. Contains (cond b (y ∷ filter p xs) (filter p xs)) x) [
          | true ↦ there y (filter p xs) x rest
          | false ↦ rest
        ]
  ]

  pub passed : (p : X → Bool) (xs : List X) (x : X) → Contains (filter p xs) x → Contains xs x × (p x ≡ true)
  passed p [] x c = absurd (nothing x c)
  passed p (y ∷ xs) x c = elim (cases_Bool (p y)) as (λ _. Contains (y ∷ xs) x × (p x ≡ true)) [
    | inl t ↦
        elim (head_or_later y (filter p xs) x (subst (λ b. Contains (cond b (y ∷ filter p xs) (filter p xs)) x) t c)) as
        (λ _. Contains (y ∷ xs) x × (p x ≡ true)) [
          | inl s ↦ (subst (Contains (y ∷ xs)) s (here y xs), sym (ap p s) ∙ t)
          | inr r ↦ let rest : Contains xs x × (p x ≡ true) = passed p xs x r in (there y xs x rest.0, rest.1)
        ]
    | inr f ↦
        let rest : Contains xs x × (p x ≡ true) = passed p xs x (subst (λ b. Contains (cond b (y ∷ filter p xs) (filter p xs)) x) f c) in
        (there y xs x rest.0, rest.1)
  ]

pub mapped : {X Y : Type 0} (f : X → Y) (xs : List X) (x : X) → Contains xs x → Contains (map f xs) (f x)
mapped f [] x c = absurd (nothing x c)
mapped f (y ∷ xs) x c = elim (head_or_later y xs x c) as (λ _. Contains (map f (y ∷ xs)) (f x)) [
  | inl s ↦ subst (λ o. Contains (map f (y ∷ xs)) (f o)) s (here (f y) (map f xs))
  | inr r ↦ there (f y) (map f xs) (f x) (mapped f xs x r)
]
