-- What is found among the entries of a map that stand in any order.
use Rattle.std.proofs.Common.{◌≡◌, ℕ, Bool, true, false, not, ◌&&◌, ◌||◌, ◌==◌, List, [], ◌∷◌}
use Rattle.std.proofs.Common.{Option, Some, None, refl, sym, ap, ◌∙◌}
use Rattle.std.specs.List.{list_any}
use Rattle.std.specs.Ordering.{nat_cmp}
use Rattle.std.specs.FinMap.{FinMap, get}
use Rattle.std.proofs.lemmas.Bool.{eq-eqb, eqb-true, and_parts, and_from}
use Rattle.std.proofs.lemmas.List.Folds.{Any-from_list_any, list_any_at}
use Rattle.fixed_box.specs.Bounds.{Bounds, meets}
use Rattle.broad_index.specs.declared.query.Query.{Query}
use Rattle.broad_index.specs.Found.{found_of, query_meets}
use Rattle.broad_index.specs.Members.{has_slot, both_meet, passes, meets_query, is_found, is_reached}
use Rattle.broad_index.specs.Reach.{reach_of}
use Rattle.broad_index.specs.Held.{Holds}
use Rattle.broad_index.proofs.MapMembers.{slots_where, has_cons}
use Rattle.fixed_box.proofs.Bools.{and_false}

-- slots of which a test holds, one after another
fused : (p : ℕ × Bounds → Bool) (k : ℕ) (es : List (ℕ × Bounds)) → has_slot (slots_where p es) k ≡ list_any (λ e. p e && (k == e.0)) es
fused p k [] = refl
fused p k (e ∷ es) = has_cons p k e es ∙ ap (λ b. (p e && (k == e.0)) || b) (fused p k es)

pub held_where : (bodies : FinMap nat_cmp Bounds) (es : List (ℕ × Bounds)) → Holds bodies es → (p : ℕ × Bounds → Bool) (k : ℕ)
    → has_slot (slots_where p es) k ≡ passes p k (get bodies k)
held_where bodies es held p k = fused p k es ∙ same_bool (list_any (λ e. p e && (k == e.0)) es) (passes p k (get bodies k)) there back
  where
    same_bool : (a b : Bool) → (a ≡ true → b ≡ true) → (b ≡ true → a ≡ true) → a ≡ b
    same_bool true b f g = sym (f refl)
    same_bool false true f g = g refl
    same_bool false false f g = refl

    there : list_any (λ e. p e && (k == e.0)) es ≡ true → passes p k (get bodies k) ≡ true
    there h =
        let found = Any-from_list_any (λ e. p e && (k == e.0)) es h in
        let e : ℕ × Bounds = found.1 in
        let good : (p e && (k == e.0)) ≡ true = found.4 in
        let parts = and_parts (p e) (k == e.0) good in
        let is : get bodies e.0 ≡ Some e.1 = held.present e.0 e.1 (found.0, found.2, found.3) in
        ap (λ x. passes p x (get bodies x)) (eqb-true k e.0 parts.1) ∙ ap (passes p e.0) is ∙ parts.0

    at_some : (o : Option Bounds) → get bodies k ≡ o → passes p k o ≡ true → list_any (λ e. p e && (k == e.0)) es ≡ true
    at_some None e h = cc
    at_some (Some b) e h =
        let c = held.whole k b e in
        list_any_at (λ e. p e && (k == e.0)) es c.0 (k, b) c.1 (ap (λ x. p x && (k == x.0)) c.2 ∙ and_from (p (k, b)) (k == k) h (eq-eqb k k refl))

    back : passes p k (get bodies k) ≡ true → list_any (λ e. p e && (k == e.0)) es ≡ true
    back h = at_some (get bodies k) refl h

pub held_found : (bodies : FinMap nat_cmp Bounds) (es : List (ℕ × Bounds)) → Holds bodies es → (query : Query) (k : ℕ)
    → has_slot (found_of es query) k ≡ is_found bodies query k
held_found bodies es held query k = held_where bodies es held (λ e. query_meets query e.1) k ∙ by_query (get bodies k)
  where
    by_query : (o : Option Bounds) → passes (λ e. query_meets query e.1) k o ≡ meets_query query o
    by_query None = refl
    by_query (Some b) = refl

pub held_reach : (bodies : FinMap nat_cmp Bounds) (es : List (ℕ × Bounds)) → Holds bodies es → (slot : ℕ) (body : Bounds) → get bodies slot ≡ Some body
    → (k : ℕ) → has_slot (reach_of slot (Some body) es) k ≡ is_reached bodies slot k
held_reach bodies es held slot body e k =
    held_where bodies es held (λ e. not (e.0 == slot) && meets body e.1) k ∙ by_other (get bodies k)
    ∙ ap (λ o. not (k == slot) && both_meet o (get bodies k)) (sym e)
  where
    by_other : (o : Option Bounds) → passes (λ e. not (e.0 == slot) && meets body e.1) k o ≡ (not (k == slot) && both_meet (Some body) o)
    by_other None = sym (and_false (not (k == slot)))
    by_other (Some b) = refl
