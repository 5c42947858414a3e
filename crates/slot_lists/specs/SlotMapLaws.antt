-- Serves proofs alone: a list with a value or none for each slot, as a map.
use Rattle.std.proofs.Common.{◌≡◌, ◌≢◌, ℕ, zero, suc, ◌+◌, ◌<◌, Bool, true, false, cond, T, ◌&&◌, List, []}
use Rattle.std.proofs.Common.{◌∷◌, length, get_or, set, Option, None, Some, refl, sym, ap, ◌∙◌, subst, arith, inl, inr}
use Rattle.std.specs.Ordering.{nat_cmp, is_lt, is_eq, eq_by_cmp}
use Rattle.std.specs.Cmp.{ranked}
use Rattle.std.specs.declared.cmp.Ordering.TheVariants.{Less, Equal, Greater}
use Rattle.std.specs.FinMap.{entries, entries-from_sorted, is_sorted, find, get, empty, insert}
use Rattle.std.specs.FinMap.{remove, get-insert, get-remove, get-from_sorted, get-empty, same_map, nat_cmp-IsAntisymmetric}
use Rattle.std.specs.FinMap.Entries.{below_all}
use Rattle.std.proofs.lemmas.Cmp.{nat_cmp_total}
use Rattle.std.proofs.lemmas.Bool.{cases_eq}
use Rattle.std.proofs.lemmas.List.{get_or-set_same, get_or-set_other}
use Rattle.slot_lists.specs.SlotMap.{entries_from, map_of}
use Rattle.fixed_box.proofs.Numbers.{less, equal, greater}

both_T : (a b : Bool) → T a → T b → T (a && b)
both_T true b h g = g
both_T false b h g = h

pub tie_same : (q i : ℕ) → q ≡ i → eq_by_cmp nat_cmp q i ≡ true
tie_same q i e = rw (equal q i e) refl

pub tie_other : (q i : ℕ) → q ≢ i → eq_by_cmp nat_cmp q i ≡ false
tie_other q i ne =
    elim (nat_cmp q i) as
    (λ r. r ≡ nat_cmp q i → is_eq r ≡ false) [ Less ↦ λ _. refl | Equal ↦ λ e. absurd (ne (ranked q i Equal e)) | Greater ↦ λ _. refl ] refl

module _ {X : Type 0} where
  below_from : (x n : ℕ) (xs : List (Option X)) → x < n → T (below_all nat_cmp x (entries_from n xs))
  below_from x n [] lt = tt
  below_from x n (None ∷ xs) lt = below_from x (n + 1) xs (omega arith)
  below_from x n (Some v ∷ xs) lt =
      both_T (is_lt (nat_cmp x n)) (below_all nat_cmp x (entries_from (n + 1) xs)) (rw (less x n lt) tt) (below_from x (n + 1) xs (omega arith))

  pub sorted_from : (n : ℕ) (xs : List (Option X)) → T (is_sorted nat_cmp (entries_from n xs))
  sorted_from n [] = tt
  sorted_from n (None ∷ xs) = sorted_from (n + 1) xs
  sorted_from n (Some v ∷ xs) =
      both_T (below_all nat_cmp n (entries_from (n + 1) xs)) (is_sorted nat_cmp (entries_from (n + 1) xs)) (below_from n (n + 1) xs (omega arith))
      (sorted_from (n + 1) xs)

  -- a slot below all
  find_below : (k n : ℕ) (xs : List (Option X)) → k < n → find nat_cmp k (entries_from n xs) ≡ None
  find_below k n [] lt = refl
  find_below k n (None ∷ xs) lt = find_below k (n + 1) xs (omega arith)
  find_below k n (Some v ∷ xs) lt = rw (less k n lt) (find_below k (n + 1) xs (omega arith))

  find_from : (k n : ℕ) (xs : List (Option X)) → find nat_cmp (n + k) (entries_from n xs) ≡ get_or xs k None
  find_from k n [] = refl
  find_from zero n (None ∷ xs) = find_below (n + 0) (n + 1) xs (omega arith)
  find_from (suc k) n (None ∷ xs) = let e : n + suc k ≡ (n + 1) + k =
      omega arith in subst (λ z. find nat_cmp z (entries_from (n + 1) xs) ≡ get_or xs k None) (sym e) (find_from k (n + 1) xs)
  find_from zero n (Some v ∷ xs) = rw (equal (n + 0) n (omega arith)) refl
  find_from (suc k) n (Some v ∷ xs) = let e : n + suc k ≡ (n + 1) + k =
      omega arith in
      rw (greater (n + suc k) n (omega arith)) (subst (λ z. find nat_cmp z (entries_from (n + 1) xs) ≡ get_or xs k None) (sym e) (find_from k (n + 1) xs))

  pub entries_of_map : (xs : List (Option X)) → entries (map_of xs) ≡ entries_from 0 xs
  entries_of_map xs = entries-from_sorted nat_cmp (entries_from 0 xs) (sorted_from 0 xs)

  -- what a slot has
  pub get_map : (xs : List (Option X)) (k : ℕ) → get (map_of xs) k ≡ get_or xs k None
  get_map xs k =
      get-from_sorted nat_cmp (entries_from 0 xs) k (sorted_from 0 xs)
      ∙ subst (λ z. find nat_cmp z (entries_from 0 xs) ≡ get_or xs k None) (let e : 0 + k ≡ k = omega arith in e) (find_from k 0 xs)

  -- a write is an insertion, and a wiping a removal
  pub map_put : (xs : List (Option X)) (i : ℕ) (v : X) → i < length xs → map_of (set xs i (Some v)) ≡ insert (map_of xs) i v
  map_put xs i v l = same_map nat_cmp_total nat_cmp-IsAntisymmetric (map_of (set xs i (Some v))) (insert (map_of xs) i v) (λ q.
      get_map (set xs i (Some v)) q ∙ elim (cases_eq q i) as (λ _. get_or (set xs i (Some v)) q None ≡ get (insert (map_of xs) i v) q) [
        | inl e ↦ subst (λ z. get_or (set xs i (Some v)) z None ≡ get (insert (map_of xs) i v) z) (sym e)
            (get_or-set_same xs i (Some v) None l
            ∙ sym (get-insert nat_cmp_total (map_of xs) i v i ∙ ap (λ b. cond b (Some v) (get (map_of xs) i)) (tie_same i i refl)))
        | inr ne ↦ get_or-set_other xs i q (Some v) None ne
            ∙ sym (get-insert nat_cmp_total (map_of xs) i v q ∙ ap (λ b. cond b (Some v) (get (map_of xs) q)) (tie_other q i ne) ∙ get_map xs q)
      ])

  pub map_take : (xs : List (Option X)) (i : ℕ) → i < length xs → map_of (set xs i None) ≡ remove (map_of xs) i
  map_take xs i l = same_map nat_cmp_total nat_cmp-IsAntisymmetric (map_of (set xs i None)) (remove (map_of xs) i) (λ q.
      get_map (set xs i None) q ∙ elim (cases_eq q i) as (λ _. get_or (set xs i None) q None ≡ get (remove (map_of xs) i) q) [
        | inl e ↦ subst (λ z. get_or (set xs i None) z None ≡ get (remove (map_of xs) i) z) (sym e)
            (get_or-set_same xs i None None l ∙ sym (get-remove nat_cmp_total (map_of xs) i i ∙ ap (λ b. cond b None (get (map_of xs) i)) (tie_same i i refl)))
        | inr ne ↦ get_or-set_other xs i q None None ne
            ∙ sym (get-remove nat_cmp_total (map_of xs) i q ∙ ap (λ b. cond b None (get (map_of xs) q)) (tie_other q i ne) ∙ get_map xs q)
      ])

  pub map_blank : (xs : List (Option X)) → ((k : ℕ) → get_or xs k None ≡ None) → map_of xs ≡ empty {R = nat_cmp}
  map_blank xs none = same_map nat_cmp_total nat_cmp-IsAntisymmetric (map_of xs) (empty {R = nat_cmp}) (λ q. get_map xs q ∙ none q ∙ sym (get-empty nat_cmp q))
