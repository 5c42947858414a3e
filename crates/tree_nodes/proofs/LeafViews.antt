-- A leaf is what its number shows.
use Rattle.std.proofs.Common.{◌≡◌, ℕ, zero, suc, ◌+◌, ◌<◌, ◌≤◌, true, false, cond, eqb, Option, None, Some, List, [], ◌∷◌, refl, sym, ap}
use Rattle.std.proofs.Common.{slice_index_or, subst, arith, ⊎_elim}
use Rattle.std.specs.List.{Contains}
use Rattle.std.specs.List.Sorted.{IsPermutation}
use Rattle.std.proofs.lemmas.List.Sorted.{Contains-permutation}
use Rattle.std.proofs.lemmas.List.Elements.{Contains-append_cases}
use Rattle.std.proofs.lemmas.Bool.Decides.{nat_tests}
use Rattle.slab.specs.Slab.{Slab}
use Rattle.fixed_box.specs.Bounds.{Bounds}
use Rattle.tree_nodes.specs.declared.node_view.NodeView.{NodeView}
use Rattle.tree_nodes.specs.declared.node_view.NodeView.TheVariants.{Leaf}
use Rattle.tree_nodes.specs.Path.{Leads, ToSearch, ToMove}
use Rattle.tree_nodes.specs.Stored.{Sound}
use Rattle.tree_nodes.specs.Tree.{Tree, tip, fork, top, count_of, one, leaves, view_at, view_in, height, Leaf as LeafOf, IsLeafOf}
use Rattle.tree_nodes.proofs.Frames.{one_same}

same_one : (n k : ℕ) → eqb n k ≡ true → one n k ≡ 1
same_one n k e = rw e refl

pub other_one : (n k : ℕ) → one n k ≡ 0 → eqb n k ≡ false
other_one n k z = elim (eqb n k) as (λ b. eqb n k ≡ b → b ≡ false) [ true ↦ λ e. let o = same_one n k e in absurd (omega arith) | false ↦ λ e. refl ] refl

pub only_one : (x y : LeafOf) → Contains (y ∷ []) x → y ≡ x
only_one x y h = at h.0 h.1 h.2
  where
    at : (k : ℕ) → k < 1 → slice_index_or (y ∷ []) k x ≡ x → y ≡ x
    at zero lt e = e
    at (suc k) lt e = absurd (omega arith)

-- a leaf's number is used
pub leaf_counted : (t : Tree) (x : LeafOf) → Contains (leaves t) x → 1 ≤ count_of t x.node
leaf_counted (tip n s b) x h =
    let e = only_one x (record { node = n; slot = s; fat = b }) h in
    let m : n ≡ x.node = ap (λ (l : LeafOf). l.node) e in
    let o : one n n ≡ 1 = one_same n in
    subst (λ k. 1 ≤ one n k) m (omega arith)
leaf_counted (fork n h k l r) x c =
    ⊎_elim (λ a. let u = leaf_counted l x a in omega arith) (λ a. let u = leaf_counted r x a in omega arith) (Contains-append_cases (leaves l) (leaves r) x c)

-- a number that is not used shows nothing
pub not_viewed : (t : Tree) (k : ℕ) → count_of t k ≡ 0 → view_at t k ≡ None
not_viewed (tip n s b) k z = let e = other_one n k z in rw e refl
not_viewed (fork n h j l r) k z =
    let e = other_one n k (omega arith) in
    let a = not_viewed l k (omega arith) in
    let b = not_viewed r k (omega arith) in
    rw (e, a, b) refl

-- a leaf is what its number shows
pub leaf_viewed : (t : Tree) (x : LeafOf) → ((k : ℕ) → count_of t k ≤ 1) → Contains (leaves t) x → view_at t x.node ≡ Some (Leaf x.slot x.fat)
leaf_viewed (tip n s b) x apart h =
    let e = only_one x (record { node = n; slot = s; fat = b }) h in
    let i : eqb n n ≡ true = grind (arith, nat_tests) in
    subst (λ (y : LeafOf). cond (eqb n y.node) (Some (Leaf s b)) None ≡ Some (Leaf y.slot y.fat)) e (rw i refl)
leaf_viewed (fork n hu k l r) x apart h = ⊎_elim
    (λ a.
    let u = leaf_counted l x a in
    let w : one n x.node + (count_of l x.node + count_of r x.node) ≤ 1 = apart x.node in
    let e = other_one n x.node (omega arith) in
    let i = leaf_viewed l x (λ k. let w : one n k + (count_of l k + count_of r k) ≤ 1 = apart k in omega arith) a in
    rw (e, i) refl)
    (λ a.
    let u = leaf_counted r x a in
    let w : one n x.node + (count_of l x.node + count_of r x.node) ≤ 1 = apart x.node in
    let e = other_one n x.node (omega arith) in
    let z = not_viewed l x.node (omega arith) in
    let i = leaf_viewed r x (λ k. let w : one n k + (count_of l k + count_of r k) ≤ 1 = apart k in omega arith) a in
    rw (e, z, i) refl)
    (Contains-append_cases (leaves l) (leaves r) x h)

-- the leaf that goes is the one that its number shows
pub same_leaf : (t : Tree) (x : LeafOf) (us : List LeafOf) (node s : ℕ) (b : Bounds) → ((k : ℕ) → count_of t k ≤ 1) → x.node ≡ node
    → IsPermutation (x ∷ us) (leaves t) → view_at t node ≡ Some (Leaf s b) → IsPermutation (record { node = node; slot = s; fat = b } ∷ us) (leaves t)
same_leaf t x us node s b apart is p e =
    let i = leaf_viewed t x apart (Contains-permutation (x ∷ us) (leaves t) x p (0, omega arith, refl)) in
    let j : view_at t node ≡ Some (Leaf x.slot x.fat) = subst (λ k. view_at t k ≡ Some (Leaf x.slot x.fat)) is i in
    let a : x.slot ≡ s = cc in
    let c : x.fat ≡ b = cc in
    subst (λ f. IsPermutation (record { node = node; slot = s; fat = f } ∷ us) (leaves t)) c
    (subst (λ q. IsPermutation (record { node = node; slot = q; fat = x.fat } ∷ us) (leaves t)) a
    (subst (λ k. IsPermutation (record { node = k; slot = x.slot; fat = x.fat } ∷ us) (leaves t)) is p))

pub ready_to_search : (slab : Slab NodeView) (at : ℕ) (t : Tree) → at ≡ top t → Sound slab t → height t ≤ 18 → ToSearch slab at t
ready_to_search slab at t e s l = record { kept = record { holds = s.holds; is_at = sym e }; balanced = s.is_tree.balanced; low = l }

pub shows : (o : Option Tree) (t : Tree) (node : ℕ) → o ≡ Some t → IsLeafOf o node → (s : ℕ) × (b : Bounds) × (view_at t node ≡ Some (Leaf s b))
shows o t node e h = (h.0, h.1, subst (λ x. view_in x node ≡ Some (Leaf h.0 h.1)) e h.2)

pub ready_to_move : (slab : Slab NodeView) (at node : ℕ) (path : List ℕ) (t : Tree) → at ≡ top t → Sound slab t → height t ≤ 18 → Leads t path node
    → ToMove slab at node path t
ready_to_move slab at node path t e s l w =
    record { kept = record { holds = s.holds; is_at = sym e }; balanced = s.is_tree.balanced; low = omega arith; apart = s.is_tree.apart; leads = w }
