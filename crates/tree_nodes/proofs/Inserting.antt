-- A leaf goes into a slab and its tree.
use Rattle.std.proofs.Common.{◌≡◌, ◌≢◌, ℕ, zero, suc, ◌+◌, ◌*◌, ◌/◌, ◌<◌, ◌≤◌, max, Option, None, Some, IsSome, List, [], ◌∷◌, length}
use Rattle.std.proofs.Common.{length-append, refl, sym, ap, ◌∙◌, subst, arith, ⊎_elim, All}
use Rattle.std.specs.List.{sum_by}
use Rattle.std.proofs.lemmas.List.Sorted.{length_permutation, sum_by_pushed}
use Rattle.std.proofs.lemmas.List.Sums.{sum_by-cons}
use Rattle.slab.specs.Slab.{Slab, get, slab_len, Updates}
use Rattle.fixed_box.specs.Bounds.{Bounds}
use Rattle.fixed_box.specs.declared.TheConstants.{SLOTS}
use Rattle.tree_nodes.specs.declared.node_view.NodeView.{NodeView}
use Rattle.tree_nodes.specs.declared.node_view.NodeView.TheVariants.{Leaf}
use Rattle.tree_nodes.specs.Insertion.{ToInsert, Inserted}
use Rattle.tree_nodes.specs.Stored.{size, Holds, tree_at, tree_of, tree_under, below_node, inner_of, Sound, SoundIn}
use Rattle.tree_nodes.specs.Tree.{Tree, tip, fork, top, count_of, one, height, Balanced, leaves, leaves_in, Leaf as LeafOf}
use Rattle.tree_nodes.proofs.Frames.{one_same, one_cases, frame}
use Rattle.tree_nodes.proofs.Heights.{low}

pub one_other : (n k : ℕ) → n ≢ k → one n k ≡ 0
one_other n k ne = ⊎_elim (λ e. absurd (ne e)) (λ e. e) (one_cases n k)

-- a number that the slab doesn't hold is not used
pub fresh : (slab : Slab NodeView) (t : Tree) (k : ℕ) → Holds slab t → get slab k ≡ None → count_of t k ≡ 0
fresh slab (tip n s b) k h e = ⊎_elim (λ same. let g : get slab n ≡ None = ap (get slab) same ∙ e in cc) (λ z. z) (one_cases n k)
fresh slab (fork n hu j l r) k h e =
    let a : count_of l k ≡ 0 = fresh slab l k h.1 e in
    let b : count_of r k ≡ 0 = fresh slab r k h.2 e in
    let c : one n k ≡ 0 = ⊎_elim (λ same. let g : get slab n ≡ None = ap (get slab) same ∙ e in let h0 = h.0 in cc) (λ z. z) (one_cases n k) in
    omega arith

-- a tree has one inner node fewer than it has leaves
pub size_leaves : (t : Tree) → size t + 1 ≡ length (leaves t) + length (leaves t)
size_leaves (tip n s b) = refl
size_leaves (fork n hu k l r) = let a = size_leaves l in let b = size_leaves r in rw length-append (omega arith)

-- the view under_root fuel
pub tree_found : (fuel : ℕ) (slab : Slab NodeView) (t : Tree) → Holds slab t → Balanced t → height t < fuel → tree_at fuel slab (top t) ≡ Some t
tree_found zero slab t h b lt = absurd (omega arith)
tree_found (suc fuel) slab (tip n s b) h bal lt = ap (below_node (tree_at fuel slab) n) h
tree_found (suc fuel) slab (fork n hu k l r) h bal lt =
    let e : k ≡ 1 + max (height l) (height r) = bal.0.height_is in
    let a = tree_found fuel slab l h.1 bal.1 (grind (arith)) in
    let b = tree_found fuel slab r h.2 bal.2 (grind (arith)) in
    ap (below_node (tree_at fuel slab) n) h.0 ∙ ap (λ x. inner_of n hu k x (tree_at fuel slab (top r))) a ∙ ap (λ x. inner_of n hu k (Some l) x) b

pub kept_tree : (slab : Slab NodeView) (n : ℕ) (t : Tree) → n ≡ top t → Sound slab t → tree_of slab (Some n) ≡ Some t
unfolding tree_under
kept_tree slab n t e s = ap (tree_at 19 slab) e ∙ tree_found 19 slab t s.holds s.is_tree.balanced (let l : height t ≤ 18 = s.is_tree.low in omega arith)

pub kept_sound : (slab : Slab NodeView) (n : ℕ) (t : Tree) → n ≡ top t → Sound slab t → SoundIn slab (Some n) (tree_of slab (Some n))
kept_sound slab n t e s = subst (SoundIn slab (Some n)) (sym (kept_tree slab n t e s)) (e, s)

none_of : (xs : List LeafOf) (slot : ℕ) → All (λ x. x.slot ≢ slot) xs → sum_by (λ x. one x.slot slot) xs ≡ 0
none_of [] slot h = refl
none_of (x ∷ xs) slot h =
    let a : one x.slot slot ≡ 0 = one_other x.slot slot (h 0 x (omega arith)) in
    let b : sum_by (λ x. one x.slot slot) xs ≡ 0 = none_of xs slot (λ k d l. h (suc k) d (omega arith)) in
    rw sum_by-cons (omega arith)

-- the first leaf
pub first_sound : (old new : Slab NodeView) (leaf slot : ℕ) (fat : Bounds) → slab_len old ≡ 0 → Updates old new leaf (Some (Leaf slot fat))
    → slab_len new ≡ slab_len old + 1 → Sound new (tip leaf slot fat)
first_sound old new leaf slot fat none u len = record {
  holds = u.changed;
  counted = omega arith;
  is_tree = record {
    apart = λ k. ⊎_elim (λ e. let o : one leaf k ≡ 1 = subst (λ x. one leaf x ≡ 1) e (one_same leaf) in omega arith) (λ e. omega arith) (one_cases leaf k);
    slots = λ k. ⊎_elim (λ e. let o : one slot k ≡ 1 = subst (λ x. one slot x ≡ 1) e (one_same slot) in omega arith) (λ e. omega arith) (one_cases slot k);
    balanced = tt;
    few = omega arith;
    low = low (tip leaf slot fat) tt (omega arith);
  };
}

pub ready_to_insert : (old mid new : Slab NodeView) (at leaf new_parent slot : ℕ) (fat : Bounds) (v : NodeView) (t : Tree) → Sound old t → top t ≡ at
    → get old leaf ≡ None → Updates old mid leaf (Some (Leaf slot fat)) → get mid new_parent ≡ None → Updates mid new new_parent (Some v)
    → ToInsert new at leaf new_parent slot fat t
ready_to_insert old mid new at leaf new_parent slot fat v t s is none u gone w =
    let f1 : count_of t leaf ≡ 0 = fresh old t leaf s.holds none in
    let h1 : Holds mid t = frame old mid leaf u.others t f1 s.holds in
    let f2 : count_of t new_parent ≡ 0 = fresh mid t new_parent h1 gone in
    let c = u.changed in
    let ne : leaf ≢ new_parent = λ e. let g : get mid leaf ≡ None = ap (get mid) e ∙ gone in cc in
    let l : height t ≤ 18 = s.is_tree.low in
    record {
      kept = record { holds = frame mid new new_parent w.others t f2 h1; is_at = is };
      balanced = s.is_tree.balanced;
      low = omega arith;
      leaf_there = w.others leaf ne ∙ u.changed;
      room = subst IsSome (sym w.changed) refl;
      apart = λ k. ⊎_elim
          (λ e. let a : count_of t k ≡ 0 = subst (λ x. count_of t x ≡ 0) e f1 in let b : one new_parent k ≡ 0 =
          subst (λ x. one new_parent x ≡ 0) e (one_other new_parent leaf (λ q. ne (sym q))) in
          let o : one leaf k ≡ 1 = subst (λ x. one leaf x ≡ 1) e (one_same leaf) in omega arith)
          (λ z. ⊎_elim (λ e. let a : count_of t k ≡ 0 = subst (λ x. count_of t x ≡ 0) e f2 in let o : one new_parent k ≡ 1 =
          subst (λ x. one new_parent x ≡ 1) e (one_same new_parent) in omega arith)
          (λ y. let a = s.is_tree.apart k in omega arith) (one_cases new_parent k)) (one_cases leaf k);
    }

pub inserted_sound : (old ready new : Slab NodeView) (at leaf new_parent result slot : ℕ) (fat : Bounds) (t u : Tree) → Sound old t
    → length (leaves t) < 8192 → All (λ x. x.slot ≢ slot) (leaves t) → ToInsert ready at leaf new_parent slot fat t
    → Inserted new result leaf new_parent slot fat t u
    → slab_len new ≡ slab_len old + 2 → Sound new u
inserted_sound old ready new at leaf new_parent result slot fat t u s few absent r g len =
    let many : length (leaves u) ≡ suc (length (leaves t)) = length_permutation (record { node = leaf; slot = slot; fat = fat } ∷ leaves t)
    (leaves u) g.leaves_are in
    let c = s.counted in
    let a = size_leaves t in
    let b = size_leaves u in
    record {
      holds = g.kept.holds;
      counted = omega arith;
      is_tree = record {
        apart = λ k. let w = g.counts_are k in let p = r.apart k in omega arith;
        slots = λ k.
            let sums : sum_by (λ x. one x.slot k) (leaves u) ≡ one slot k + sum_by (λ x. one x.slot k) (leaves t) =
            sum_by_pushed (λ (x : LeafOf). one x.slot k) (record { node = leaf; slot = slot; fat = fat }) (leaves t) (leaves u) g.leaves_are in
            let before = s.is_tree.slots k in
            ⊎_elim (λ e. let z : sum_by (λ x. one x.slot k) (leaves t) ≡ 0 =
            subst (λ y. sum_by (λ x. one x.slot y) (leaves t) ≡ 0) e (none_of (leaves t) slot absent) in let o : one slot k ≡ 1 =
            subst (λ x. one slot x ≡ 1) e (one_same slot) in omega arith)
            (λ z. omega arith) (one_cases slot k);
        balanced = g.good.balanced;
        few = omega arith;
        low = low u g.good.balanced (omega arith);
      };
    }

pub halved : (nodes n : ℕ) → 2 * n ≤ nodes + 1 → nodes ≤ 2 * n → (nodes + 1) / 2 ≡ n
halved nodes n low high = omega (arith, low, high)

-- how many leaves there are, from the number of nodes
pub leaves_counted : (slab : Slab NodeView) (root : Option ℕ) (t : Option Tree) → SoundIn slab root t
    → (2 * length (leaves_in t) ≤ slab_len slab + 1) × (slab_len slab ≤ 2 * length (leaves_in t)) × (length (leaves_in t) ≤ SLOTS)
leaves_counted slab None None s = let e : slab_len slab ≡ 0 = s in (omega arith, omega arith, omega arith)
leaves_counted slab None (Some t) s = absurd s.0
leaves_counted slab (Some n) None s = absurd s
leaves_counted slab (Some n) (Some t) s =
    let e = s.1.counted in
    let z = size_leaves t in
    (omega arith, omega arith, s.1.is_tree.few)

-- a sound slab has room for inner_of more nodes below 8,192 leaves
pub room_two : (slab : Slab NodeView) (root : Option ℕ) (t : Option Tree) → SoundIn slab root t → length (leaves_in t) < 8192 → slab_len slab + 2 ≤ 16383
room_two slab None None s few = let e : slab_len slab ≡ 0 = s in omega arith
room_two slab None (Some t) s few = absurd s.0
room_two slab (Some n) None s few = absurd s
room_two slab (Some n) (Some t) s few = let e = s.1.counted in let z = size_leaves t in omega arith
