-- The pairs of two lists of boxes are the same whichever of the lists is searched for.
use Rattle.std.proofs.Common.{◌≡◌, ◌≢◌, ℕ, Bool, true, false, not, cond, ◌&&◌, ◌||◌, ◌==◌, List, [], ◌∷◌, ◌++◌}
use Rattle.std.proofs.Common.{map, append_assoc, refl, sym, ap, ◌∙◌, arith, ⊎_elim}
use Rattle.std.specs.List.{filter}
use Rattle.std.proofs.lemmas.Bool.{cases_eq, eq-eqb}
use Rattle.std.proofs.lemmas.Bool.Decides.{nat_tests}
use Rattle.std.proofs.lemmas.List.Folds.{list_any-append}
use Rattle.fixed_box.specs.Bounds.{Bounds, meets}
use Rattle.broad_index.specs.declared.pair.Pair.{Pair}
use Rattle.broad_index.specs.Members.{has_pair, same_pair}
use Rattle.broad_index.specs.Touched.{ordered, ordered_pairs}
use Rattle.tree_search.specs.Crossed.{others_met, crossed}
use Rattle.fixed_box.proofs.Numbers.{eqb_other}

pub crossed_append : (es xs ys : List (ℕ × Bounds)) → crossed es (xs ++ ys) ≡ crossed es xs ++ crossed es ys
crossed_append es [] ys = refl
crossed_append es (x ∷ xs) ys =
    ap (λ l. ordered_pairs x.0 (others_met es x) ++ l) (crossed_append es xs ys)
    ∙ sym (append_assoc (ordered_pairs x.0 (others_met es x)) (crossed es xs) (crossed es ys))

or_four : (a b c d : Bool) → ((a || b) || (c || d)) ≡ ((a || c) || (b || d))
or_four true b c d = refl
or_four false true true d = refl
or_four false true false d = refl
or_four false false c d = refl

-- two entries meet, and are those of a pair
abbrev pub hit : Pair → ℕ × Bounds → ℕ × Bounds → Bool
hit p x e = meets x.1 e.1 && (not (e.0 == x.0) && same_pair p (ordered x.0 e.0))

abbrev pub any_row : Pair → ℕ × Bounds → List (ℕ × Bounds) → Bool
any_row p x [] = false
any_row p x (e ∷ es) = hit p x e || any_row p x es

abbrev pub any_cross : Pair → List (ℕ × Bounds) → List (ℕ × Bounds) → Bool
any_cross p [] es = false
any_cross p (x ∷ xs) es = any_row p x es || any_cross p xs es

ordered_either : (a b : ℕ) → a ≢ b → ordered a b ≡ ordered b a
ordered_either a b ne = grind (arith, nat_tests)

module _ (p : Pair) where
  row_is : (x : ℕ × Bounds) (es : List (ℕ × Bounds)) → has_pair (ordered_pairs x.0 (others_met es x)) p ≡ any_row p x es
  row_is x [] = refl
  row_is x (e ∷ es) =
      let rest = row_is x es in
      let more : List (ℕ × Bounds) = filter (λ (y : ℕ × Bounds). meets x.1 y.1) es in
      let others : List ℕ = filter (λ s. not (s == x.0)) (map (λ (y : ℕ × Bounds). y.0) more) in
      elim (meets x.1 e.1) as
      (λ m. has_pair (ordered_pairs x.0 (filter (λ s. not (s == x.0)) (map (λ (y : ℕ × Bounds). y.0) (cond m (e ∷ more) more)))) p
      ≡ ((m && (not (e.0 == x.0) && same_pair p (ordered x.0 e.0))) || any_row p x es)) [
        | true ↦ elim (e.0 == x.0) as
            (λ b. has_pair (map (ordered x.0) (cond (not b) (e.0 ∷ others) others)) p
            ≡ ((true && (not b && same_pair p (ordered x.0 e.0))) || any_row p x es)) [
              | true ↦ rest
              | false ↦ ap (λ b. same_pair p (ordered x.0 e.0) || b) rest
            ]
        | false ↦ rest
      ]

  pub crossed_has : (es xs : List (ℕ × Bounds)) → has_pair (crossed es xs) p ≡ any_cross p xs es
  crossed_has es [] = refl
  crossed_has es (x ∷ xs) =
      list_any-append (same_pair p) (ordered_pairs x.0 (others_met es x)) (crossed es xs)
      ∙ ap (λ b. b || has_pair (crossed es xs) p) (row_is x es)
      ∙ ap (λ b. any_row p x es || b) (crossed_has es xs)

  cross_none : (xs : List (ℕ × Bounds)) → any_cross p xs [] ≡ false
  cross_none [] = refl
  cross_none (x ∷ xs) = cross_none xs

  module _ (either_way : (a b : Bounds) → meets a b ≡ meets b a) where
    hit_either : (x e : ℕ × Bounds) → hit p x e ≡ hit p e x
    hit_either x e =
        ap (λ m. m && (not (e.0 == x.0) && same_pair p (ordered x.0 e.0))) (either_way x.1 e.1)
        ∙ ap (λ b. meets e.1 x.1 && b) (⊎_elim
        (λ same. ap (λ b. not b && same_pair p (ordered x.0 e.0)) (eq-eqb e.0 x.0 same)
        ∙ sym (ap (λ b. not b && same_pair p (ordered e.0 x.0)) (eq-eqb x.0 e.0 (sym same))))
        (λ ne. ap (λ b. not b && same_pair p (ordered x.0 e.0)) (eqb_other e.0 x.0 ne)
        ∙ ap (same_pair p) (sym (ordered_either e.0 x.0 ne))
        ∙ sym (ap (λ b. not b && same_pair p (ordered e.0 x.0)) (eqb_other x.0 e.0 (λ s. ne (sym s)))))
        (cases_eq e.0 x.0))

    cross_more : (e : ℕ × Bounds) (xs es : List (ℕ × Bounds)) → any_cross p xs (e ∷ es) ≡ (any_row p e xs || any_cross p xs es)
    cross_more e [] es = refl
    cross_more e (x ∷ xs) es =
        ap (λ b. (hit p x e || any_row p x es) || b) (cross_more e xs es)
        ∙ or_four (hit p x e) (any_row p x es) (any_row p e xs) (any_cross p xs es)
        ∙ ap (λ b. (b || any_row p e xs) || (any_row p x es || any_cross p xs es)) (hit_either x e)

    cross_either : (xs es : List (ℕ × Bounds)) → any_cross p xs es ≡ any_cross p es xs
    cross_either xs [] = cross_none xs
    cross_either xs (e ∷ es) = cross_more e xs es ∙ ap (λ b. any_row p e xs || b) (cross_either xs es)

    pub crossed_either : (es xs : List (ℕ × Bounds)) → has_pair (crossed es xs) p ≡ has_pair (crossed xs es) p
    crossed_either es xs = crossed_has es xs ∙ cross_either xs es ∙ sym (crossed_has xs es)
