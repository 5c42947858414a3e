-- Entries that stay those of a map while it changes.
use Rattle.std.proofs.Common.{◌≡◌, ℕ, zero, suc, ◌<◌, Bool, true, false, cond, not, ◌||◌, ◌==◌, List, [], ◌∷◌, ◌++◌, map, length, get_or, Option, Some, None}
use Rattle.std.proofs.Common.{is_some, refl, sym, ap, ◌∙◌, arith, inl, inr, subst}
use Rattle.std.specs.List.{list_any, Contains}
use Rattle.std.specs.List.Sorted.{IsPermutation}
use Rattle.std.specs.Ordering.{nat_cmp}
use Rattle.std.specs.FinMap.{FinMap, get, contains_key, empty, insert, remove, from_entries, get-empty, get-insert, get-remove}
use Rattle.std.proofs.lemmas.Bool.{eq-eqb, eqb-true, cases_Bool, false≢true}
use Rattle.std.specs.Cmp.{first_so, second_so}
use Rattle.std.proofs.lemmas.Cmp.{nat_cmp_total}
use Rattle.std.proofs.lemmas.List.Elements.{Contains-push, Contains-push_cases, Contains-append_left}
use Rattle.std.proofs.lemmas.List.Folds.{list_any_at}
use Rattle.std.proofs.lemmas.List.Sorted.{Contains-permutation, IsPermutation-sym, IsPermutation-to_front}
use Rattle.fixed_box.specs.Bounds.{Bounds}
use Rattle.broad_index.specs.Members.{has_slot}
use Rattle.broad_index.specs.Held.{Holds, apart}
use Rattle.fixed_box.proofs.Numbers.{eq_cmp}

pub holds_none : Holds empty []
holds_none = record { present = λ k b c. absurd (no_place c.0 c.1); whole = λ k b e. none k b (sym (get-empty nat_cmp k) ∙ e) }
  where
    no_place : (i : ℕ) → i < 0 → ⊥
    no_place i l = absurd (omega arith)

    none : (k : ℕ) (b : Bounds) → None ≡ Some b → Contains {X = ℕ × Bounds} [] (k, b)
    none k b e = cc

module _ (bodies : FinMap nat_cmp Bounds) where
  pub holds_moved : (es fs : List (ℕ × Bounds)) → IsPermutation es fs → Holds bodies es → Holds bodies fs
  holds_moved es fs moved h = record {
    present = λ k b c. h.present k b (Contains-permutation fs es (k, b) (IsPermutation-sym es fs moved) c);
    whole = λ k b e. Contains-permutation es fs (k, b) moved (h.whole k b e);
  }

  pub after_insert : (k j : ℕ) (v : Bounds) → get (insert bodies k v) j ≡ cond (j == k) (Some v) (get bodies j)
  after_insert k j v = get-insert nat_cmp_total bodies k v j ∙ ap (λ b. cond b (Some v) (get bodies j)) (eq_cmp j k)

  pub after_remove : (k j : ℕ) → get (remove bodies k) j ≡ cond (j == k) None (get bodies j)
  after_remove k j = get-remove nat_cmp_total bodies k j ∙ ap (λ b. cond b None (get bodies j)) (eq_cmp j k)

  pub holds_pushed : (es : List (ℕ × Bounds)) (k : ℕ) (v : Bounds) → Holds bodies es → contains_key bodies k ≡ false
      → Holds (insert bodies k v) (es ++ (k, v) ∷ [])
  holds_pushed es k v h absent = record { present = there; whole = back }
    where
      there : (j : ℕ) (b : Bounds) → Contains (es ++ (k, v) ∷ []) (j, b) → get (insert bodies k v) j ≡ Some b
      there j b c = elim (Contains-push_cases es (k, v) (j, b) c) as (λ _. get (insert bodies k v) j ≡ Some b) [
        | inl old ↦
            let is : get bodies j ≡ Some b = h.present j b old in
            after_insert k j v ∙ elim (cases_Bool (j == k)) as (λ _. cond (j == k) (Some v) (get bodies j) ≡ Some b) [
              | inl t ↦ absurd (false≢true (sym absent ∙ ap (contains_key bodies) (sym (eqb-true j k t)) ∙ ap is_some is))
              | inr f ↦ ap (λ x. cond x (Some v) (get bodies j)) f ∙ is
            ]
        | inr new ↦ after_insert k j v ∙ ap (λ x. cond x (Some v) (get bodies j)) (eq-eqb j k (sym (ap (λ e. e.0) new))) ∙ ap (λ e. Some e.1) new
      ]

      back : (j : ℕ) (b : Bounds) → get (insert bodies k v) j ≡ Some b → Contains (es ++ (k, v) ∷ []) (j, b)
      back j b e = elim (cases_Bool (j == k)) as (λ _. Contains (es ++ (k, v) ∷ []) (j, b)) [
        | inl t ↦
            let same : Some v ≡ Some b = sym (after_insert k j v ∙ ap (λ x. cond x (Some v) (get bodies j)) t) ∙ e in
            let vb : v ≡ b = cc in
            subst (λ x. Contains (es ++ (k, v) ∷ []) x) (ap (λ x. (x, v)) (sym (eqb-true j k t)) ∙ ap (λ x. (j, x)) vb) (Contains-push es (k, v))
        | inr f ↦ Contains-append_left es ((k, v) ∷ []) (j, b) (h.whole j b (sym (after_insert k j v ∙ ap (λ x. cond x (Some v) (get bodies j)) f) ∙ e))
      ]

  pub holds_dropped : (es : List (ℕ × Bounds)) (k : ℕ) (v : Bounds) → Holds bodies ((k, v) ∷ es) → has_slot (map (λ e. e.0) es) k ≡ false
      → Holds (remove bodies k) es
  holds_dropped es k v h gone = record { present = there; whole = back }
    where
      any_map : (fs : List (ℕ × Bounds)) → has_slot (map (λ e. e.0) fs) k ≡ list_any (λ e. k == e.0) fs
      any_map [] = refl
      any_map (e ∷ fs) = ap (λ b. (k == e.0) || b) (any_map fs)

      there : (j : ℕ) (b : Bounds) → Contains es (j, b) → get (remove bodies k) j ≡ Some b
      there j b c = after_remove k j ∙ elim (cases_Bool (j == k)) as (λ _. cond (j == k) None (get bodies j) ≡ Some b) [
        | inl t ↦
            absurd
            (false≢true (sym gone ∙ any_map es ∙ list_any_at (λ e. k == e.0) es c.0 (j, b) c.1 (ap (λ x. k == x.0) c.2 ∙ eq-eqb k j (sym (eqb-true j k t)))))
        | inr f ↦ ap (λ x. cond x None (get bodies j)) f ∙ h.present j b (suc c.0, (let l = c.1 in omega arith), c.2)
      ]

      later : (j : ℕ) (b : Bounds) (i : ℕ) → i < length ((k, v) ∷ es) → get_or ((k, v) ∷ es) i (j, b) ≡ (j, b) → (j == k) ≡ false → Contains es (j, b)
      later j b zero l e f = absurd (false≢true (sym f ∙ eq-eqb j k (sym (ap (λ x. x.0) e))))
      later j b (suc i) l e f = (i, omega arith, e)

      back : (j : ℕ) (b : Bounds) → get (remove bodies k) j ≡ Some b → Contains es (j, b)
      back j b e = elim (cases_Bool (j == k)) as (λ _. Contains es (j, b)) [
        | inl t ↦ let no : None ≡ Some b = sym (after_remove k j ∙ ap (λ x. cond x None (get bodies j)) t) ∙ e in cc
        | inr f ↦
            let c = h.whole j b (sym (after_remove k j ∙ ap (λ x. cond x None (get bodies j)) f) ∙ e) in
            later j b c.0 c.1 c.2 f
      ]

-- the map of entries in any order
abbrev made : List (ℕ × Bounds) → FinMap nat_cmp Bounds
made es = from_entries es

pub holds_apart : (es : List (ℕ × Bounds)) → apart es ≡ true → Holds (made es) es
holds_apart [] h = holds_none
holds_apart (e ∷ es) h =
    let rest : Holds (made es) es = holds_apart es (second_so _ _ h) in
    holds_moved (insert (made es) e.0 e.1) (es ++ e ∷ []) (e ∷ es) (IsPermutation-to_front es e) (holds_pushed (made es) es e.0 e.1 rest (new rest))
  where
    any_map : (fs : List (ℕ × Bounds)) (k : ℕ) → has_slot (map (λ e. e.0) fs) k ≡ list_any (λ e. k == e.0) fs
    any_map [] k = refl
    any_map (f ∷ fs) k = ap (λ b. (k == f.0) || b) (any_map fs k)

    turned : (b : Bool) → not b ≡ true → b ≡ false
    turned true h = cc
    turned false h = refl

    there : (bodies : FinMap nat_cmp Bounds) → Holds bodies es → (o : Option Bounds) → get bodies e.0 ≡ o → has_slot (map (λ e. e.0) es) e.0 ≡ false
        → is_some o ≡ false
    there bodies r None is none = refl
    there bodies r (Some b) is none =
        absurd
        (false≢true (sym none ∙ any_map es e.0
        ∙ (let c = r.whole e.0 b is in list_any_at (λ f. e.0 == f.0) es c.0 (e.0, b) c.1 (ap (λ x. e.0 == x.0) c.2 ∙ eq-eqb e.0 e.0 refl))))

    new : Holds (made es) es → contains_key (made es) e.0 ≡ false
    new r = there (made es) r (get (made es) e.0) refl (turned (has_slot (map (λ e. e.0) es) e.0) (first_so _ _ h))
