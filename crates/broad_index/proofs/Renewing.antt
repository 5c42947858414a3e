-- Kept pairs while the map changes.
use Rattle.std.proofs.Common.{◌≡◌, ℕ, Bool, true, false, cond, not, ◌&&◌, ◌||◌, ◌==◌, nat_lt, List, map, Option, Some, None, is_some, slice_index_or, refl}
use Rattle.std.proofs.Common.{sym, ap, ◌∙◌}
use Rattle.std.specs.List.{All}
use Rattle.std.specs.Ordering.{nat_cmp}
use Rattle.std.specs.FinMap.{FinMap, get, insert, remove, contains_key}
use Rattle.fixed_box.specs.Bounds.{Bounds}
use Rattle.broad_index.specs.declared.pair.Pair.{Pair}
use Rattle.broad_index.specs.Members.{has_pair, has_slot, both_meet, is_near, is_reached}
use Rattle.broad_index.specs.Touched.{gathered_with, stays, Renewed}
use Rattle.fixed_box.proofs.Bools.{and_false}
use Rattle.broad_index.proofs.Holding.{after_insert, after_remove}
use Rattle.broad_index.proofs.Touching.{touched_members}

module _ (bodies : FinMap nat_cmp Bounds) where
  pub near_elsewhere : (k : ℕ) (v : Bounds) (p : Pair) → (p.a == k) ≡ false → (p.b == k) ≡ false → is_near (insert bodies k v) p ≡ is_near bodies p
  near_elsewhere k v p a b =
      ap (λ o. nat_lt p.a p.b && both_meet o (get (insert bodies k v) p.b)) (after_insert bodies k p.a v ∙ ap (λ x. cond x (Some v) (get bodies p.a)) a)
      ∙ ap (λ o. nat_lt p.a p.b && both_meet (get bodies p.a) o) (after_insert bodies k p.b v ∙ ap (λ x. cond x (Some v) (get bodies p.b)) b)

  pub near_without : (k : ℕ) (p : Pair) → (p.a == k) ≡ false → (p.b == k) ≡ false → is_near (remove bodies k) p ≡ is_near bodies p
  near_without k p a b =
      ap (λ o. nat_lt p.a p.b && both_meet o (get (remove bodies k) p.b)) (after_remove bodies k p.a ∙ ap (λ x. cond x None (get bodies p.a)) a)
      ∙ ap (λ o. nat_lt p.a p.b && both_meet (get bodies p.a) o) (after_remove bodies k p.b ∙ ap (λ x. cond x None (get bodies p.b)) b)

  pub renewing : (marks : List Bool) (kept : List Pair) (rs : List (ℕ × List ℕ)) → All (λ r. (k : ℕ) → has_slot r.1 k ≡ is_reached bodies r.0 k) rs
      → ((k : ℕ) → contains_key bodies k ≡ true → slice_index_or marks k false ≡ has_slot (map (λ r. r.0) rs) k)
      → ((p : Pair) → stays marks p ≡ true → has_pair kept p ≡ is_near bodies p) → Renewed bodies marks kept (gathered_with rs)
  renewing marks kept rs each marked right =
      record { kept_is = right; found_is = λ p. touched_members bodies rs each p ∙ by_near p (get bodies p.a) (get bodies p.b) refl refl }
    where
      turned : (a b : Bool) → (a || b) ≡ not (not a && not b)
      turned true b = refl
      turned false true = refl
      turned false false = refl

      both_none : (o : Option Bounds) → both_meet o None ≡ false
      both_none None = refl
      both_none (Some b) = refl

      nothing : (p : Pair) → both_meet (get bodies p.a) (get bodies p.b) ≡ false
          → (is_near bodies p && (has_slot (map (λ r. r.0) rs) p.a || has_slot (map (λ r. r.0) rs) p.b)) ≡ (is_near bodies p && not (stays marks p))
      nothing p e =
          let no : is_near bodies p ≡ false = ap (λ b. nat_lt p.a p.b && b) e ∙ and_false (nat_lt p.a p.b) in
          ap (λ b. b && (has_slot (map (λ r. r.0) rs) p.a || has_slot (map (λ r. r.0) rs) p.b)) no ∙ sym (ap (λ b. b && not (stays marks p)) no)

      by_near : (p : Pair) (o q : Option Bounds) → get bodies p.a ≡ o → get bodies p.b ≡ q
          → (is_near bodies p && (has_slot (map (λ r. r.0) rs) p.a || has_slot (map (λ r. r.0) rs) p.b)) ≡ (is_near bodies p && not (stays marks p))
      by_near p None q e f = nothing p (ap (λ o. both_meet o (get bodies p.b)) e)
      by_near p (Some a) None e f = nothing p (ap (λ q. both_meet (get bodies p.a) q) f ∙ both_none (get bodies p.a))
      by_near p (Some a) (Some b) e f =
          ap (λ m. is_near bodies p && (m || has_slot (map (λ r. r.0) rs) p.b)) (sym (marked p.a (ap is_some e)))
          ∙ ap (λ m. is_near bodies p && (slice_index_or marks p.a false || m)) (sym (marked p.b (ap is_some f)))
          ∙ ap (λ m. is_near bodies p && m) (turned (slice_index_or marks p.a false) (slice_index_or marks p.b false))
