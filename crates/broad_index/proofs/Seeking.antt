-- Searches of slots by a seeker: each gives what its slot reaches.
use Rattle.std.proofs.Common.{◌≡◌, ℕ, Bool, List, [], ◌∷◌, map, get_or, refl, sym, ap, subst}
use Rattle.std.specs.List.{zip, All}
use Rattle.std.specs.Ordering.{nat_cmp}
use Rattle.std.specs.FinMap.{FinMap}
use Rattle.std.proofs.lemmas.List.Elements.{All-map}
use Rattle.fixed_box.specs.Bounds.{Bounds}
use Rattle.broad_index.specs.Reach.{reach}
use Rattle.broad_index.specs.declared.pair.Pair.{Pair}
use Rattle.broad_index.specs.Members.{has_slot, is_reached}
use Rattle.broad_index.specs.Touched.{gathered_with, AreKept, AreMarked, Renewed}
use Rattle.broad_index.proofs.MapMembers.{reach_members}
use Rattle.broad_index.proofs.Renewing.{renewing}

-- each slot beside what is made of it
beside : {X : Type 0} (f : ℕ → X) (slots : List ℕ) → zip slots (map f slots) ≡ map (λ s. (s, f s)) slots
beside f [] = refl
beside f (s ∷ slots) = ap (λ rs. (s, f s) ∷ rs) (beside f slots)

firsts : {X : Type 0} (f : ℕ → X) (slots : List ℕ) → map (λ r. r.0) (zip slots (map f slots)) ≡ slots
firsts f [] = refl
firsts f (s ∷ slots) = ap (λ ss. s ∷ ss) (firsts f slots)

module _ {X : Type 0} (P : ℕ × X → Type 0) (f : ℕ → X) where
  all_beside : ((s : ℕ) → P (s, f s)) → (slots : List ℕ) → All P (zip slots (map f slots))
  all_beside h slots = subst (All P) (sym (beside f slots)) (All-map P (λ s. (s, f s)) slots (λ k d _. h (get_or slots k d)))

module _ (bodies : FinMap nat_cmp Bounds) where
  pub marked_sought : (marks : List Bool) (kept : List Pair) (slots : List ℕ) → AreMarked bodies marks slots → AreKept bodies marks kept
      → Renewed bodies marks kept (gathered_with (zip slots (map (reach bodies) slots)))
  marked_sought marks kept slots marked right =
      renewing bodies marks kept (zip slots (map (reach bodies) slots))
      (all_beside (λ r. (k : ℕ) → has_slot r.1 k ≡ is_reached bodies r.0 k) (reach bodies) (reach_members bodies) slots)
      (subst (AreMarked bodies marks) (sym (firsts (reach bodies) slots)) marked) right
