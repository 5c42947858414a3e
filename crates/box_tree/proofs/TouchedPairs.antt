-- What is found for the touched slots renews the kept pairs.
use Rattle.std.proofs.Common.{◌≡◌, ℕ, zero, suc, ◌+◌, ◌<◌, Bool, true, false, cond, ◌&&◌, ◌||◌, ◌==◌, Option, None, Some, List, [], ◌∷◌, ◌++◌}
use Rattle.std.proofs.Common.{length, map, get_or, refl, sym, ap, ◌∙◌, subst, arith}
use Rattle.std.specs.FinMap.{get}
use Rattle.std.specs.List.{cons_option, sum}
use Rattle.std.proofs.lemmas.List.Sums.{sum_by-cons}
use Rattle.box_tree.specs.Boxes.{visits_for}
use Rattle.std.proofs.lemmas.Bool.{eq-eqb}
use Rattle.fixed_box.specs.Bounds.{Bounds}
use Rattle.slot_lists.specs.SlotMap.{map_of}
use Rattle.broad_index.specs.declared.pair.Pair.{Pair}
use Rattle.broad_index.specs.Members.{has_slot}
use Rattle.broad_index.specs.Touched.{ordered_pairs, gathered_with, AreKept, AreMarked, Renewed}
use Rattle.tree_nodes.specs.Tree.{Tree, Leaf, leaves}
use Rattle.tree_search.specs.Exact.{entry_of, exact, exact_in}
use Rattle.tree_search.specs.Crossed.{touched_of, crossed, all_visits_in, AreOf}
use Rattle.box_tree.specs.Searches.{with_box, boxed, reached_by, reached_in, searches}
use Rattle.box_tree.specs.Ties.{HaveLeaves}
use Rattle.box_tree.proofs.LeafTies.{some_there}
use Rattle.box_tree.proofs.Searching.{ReachLaw, RenewingLaw, has_marked, all_reached, searched_slots, exact_held}

module _ (bodies : List (Option Bounds)) where
  entry_own : (s : ℕ) (p : Option Bounds) (es : List (ℕ × Bounds)) → get_or bodies s None ≡ p → AreOf bodies es → AreOf bodies (entry_of s p ++ es)
  entry_own s None es e own = own
  entry_own s (Some b) es e own = (e, own)

  exact_own : (xs : List Leaf) → AreOf bodies (exact bodies xs)
  exact_own [] = tt
  exact_own (x ∷ xs) = entry_own x.slot (get_or bodies x.slot None) (exact bodies xs) refl (exact_own xs)

  pub exact_in_own : (o : Option Tree) → AreOf bodies (exact_in bodies o)
  exact_in_own None = tt
  exact_in_own (Some t) = exact_own (leaves t)

  pub touched_own : (marks : List Bool) (es : List (ℕ × Bounds)) → AreOf bodies es → AreOf bodies (touched_of marks es)
  touched_own marks [] own = tt
  touched_own marks (e ∷ es) own =
      elim (get_or marks e.0 false) as (λ m. AreOf bodies (cond m (e ∷ touched_of marks es) (touched_of marks es))) [
        | true ↦ (own.0, touched_own marks es own.1)
        | false ↦ touched_own marks es own.1
      ]

  box_own : (s : ℕ) (p : Option Bounds) (es : List (ℕ × Bounds)) → get_or bodies s None ≡ p → AreOf bodies es
      → AreOf bodies (cons_option (with_box s p) es)
  box_own s None es e own = own
  box_own s (Some b) es e own = (e, own)

  pub boxed_own : (slots : List ℕ) → AreOf bodies (boxed bodies slots)
  boxed_own [] = tt
  boxed_own (x ∷ xs) = box_own x (get_or bodies x None) (boxed bodies xs) refl (boxed_own xs)

  -- entries are the boxes of their slots
  pub own_boxed : (es : List (ℕ × Bounds)) → AreOf bodies es → boxed bodies (map (λ (e : ℕ × Bounds). e.0) es) ≡ es
  own_boxed [] own = refl
  own_boxed (e ∷ es) own =
      ap (λ p. cons_option (with_box e.0 p) (boxed bodies (map (λ (x : ℕ × Bounds). x.0) es))) own.0 ∙ ap (λ xs. e ∷ xs) (own_boxed es own.1)

  crossed_entry : (o : Option Tree) (k : ℕ) (p : Option Bounds) (rest : List (ℕ × Bounds))
      → crossed (exact_in bodies o) (cons_option (with_box k p) rest) ≡ ordered_pairs k (reached_by bodies o k p) ++ crossed (exact_in bodies o) rest
  crossed_entry o k None rest = refl
  crossed_entry o k (Some b) rest = refl

  -- pairs with the boxes of slots are those of searches for the slots
  pub crossed_boxed : (o : Option Tree) (slots : List ℕ) → crossed (exact_in bodies o) (boxed bodies slots) ≡ gathered_with (searches bodies o slots)
  crossed_boxed o [] = refl
  crossed_boxed o (x ∷ xs) =
      crossed_entry o x (get_or bodies x None) (boxed bodies xs)
      ∙ ap (λ ps. ordered_pairs x (reached_in bodies o x) ++ ps) (crossed_boxed o xs)

  visits_entry : (o : Option Tree) (k : ℕ) (p : Option Bounds) (rest : List (ℕ × Bounds))
      → all_visits_in o (cons_option (with_box k p) rest) ≡ visits_for o p + all_visits_in o rest
  visits_entry o k None rest = omega arith
  visits_entry o k (Some b) rest = refl

  -- and look at as many nodes
  pub visits_boxed : (o : Option Tree) (slots : List ℕ) → all_visits_in o (boxed bodies slots) ≡ sum (map (λ k. visits_for o (get_or bodies k None)) slots)
  visits_boxed o [] = refl
  visits_boxed o (x ∷ xs) =
      visits_entry o x (get_or bodies x None) (boxed bodies xs)
      ∙ ap (λ n. visits_for o (get_or bodies x None) + n) (visits_boxed o xs)
      ∙ sym (sum_by-cons (λ (n : ℕ). n) (visits_for o (get_or bodies x None)) (map (λ k. visits_for o (get_or bodies k None)) xs))

has_first : (es : List (ℕ × Bounds)) (k : ℕ) (b : Bounds) (i : ℕ) → i < length es → get_or es i (k, b) ≡ (k, b)
    → has_slot (map (λ (e : ℕ × Bounds). e.0) es) k ≡ true
has_first [] k b i l e = absurd (omega arith)
has_first (x ∷ es) k b zero l e =
    ap (λ t. t || has_slot (map (λ (e : ℕ × Bounds). e.0) es) k) (eq-eqb k x.0 (sym (ap (λ (y : ℕ × Bounds). y.0) e)))
has_first (x ∷ es) k b (suc i) l e =
    ap (λ t. (k == x.0) || t) (has_first es k b i (omega arith) e) ∙ or_true (k == x.0)
  where
    or_true : (b : Bool) → (b || true) ≡ true
    or_true true = refl
    or_true false = refl

module _ (o : Option Tree) (bodies fats : List (Option Bounds)) (s : HaveLeaves o bodies fats) (marks : List Bool) where
  abbrev touched : List (ℕ × Bounds)
  touched = touched_of marks (exact_in bodies o)

  pub touched_marked : AreMarked (map_of bodies) marks (map (λ (e : ℕ × Bounds). e.0) touched)
  touched_marked k h =
      let b = some_there (get (map_of bodies) k) h in
      let c = (exact_held o bodies fats s).whole k b.0 b.1 in
      sym (has_marked (λ j. get_or marks j false) (exact_in bodies o) k
      ∙ ap (λ t. get_or marks k false && t) (has_first (exact_in bodies o) k b.0 c.0 c.1 c.2) ∙ and_yes (get_or marks k false))
    where
      and_yes : (b : Bool) → (b && true) ≡ b
      and_yes true = refl
      and_yes false = refl

  pub renewed_of : ReachLaw → RenewingLaw → (slots : List ℕ) → AreMarked (map_of bodies) marks slots → (old : List Pair) → AreKept (map_of bodies) marks old
      → Renewed (map_of bodies) marks old (gathered_with (searches bodies o slots))
  renewed_of law renewing slots marked old are =
      renewing (map_of bodies) marks old (searches bodies o slots) (all_reached o bodies fats s law slots)
      (subst (AreMarked (map_of bodies) marks) (sym (searched_slots bodies o slots)) marked) are
