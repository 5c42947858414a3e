-- A leaf and its parent go from a slab and its tree.
use Rattle.std.proofs.Common.{◌≡◌, ◌≢◌, ℕ, suc, ◌+◌, ◌≤◌, Option, None, Some, IsSome, List, [], ◌∷◌, length, refl, sym, subst, arith, ⊎_elim}
use Rattle.std.specs.List.{sum_by}
use Rattle.std.specs.List.Sorted.{IsPermutation}
use Rattle.std.proofs.lemmas.List.Sorted.{IsPermutation-refl, length_permutation, sum_by_pushed}
use Rattle.slab.specs.Slab.{Slab, get, slab_len, Updates}
use Rattle.tree_nodes.specs.declared.node_view.NodeView.{NodeView}
use Rattle.tree_nodes.specs.Path.{ToRemove, Removed, Leads}
use Rattle.tree_nodes.specs.Stored.{Holds, Sound}
use Rattle.tree_nodes.specs.Tree.{Tree, tip, fork, top, count_of, one, height, leaves, Leaf as LeafOf}
use Rattle.tree_nodes.proofs.Frames.{one_same, frame}
use Rattle.tree_nodes.proofs.Heights.{low}
use Rattle.tree_nodes.proofs.Inserting.{size_leaves, fresh}

-- a tree's own numbers are held
pub held : (slab : Slab NodeView) (t : Tree) (k : ℕ) → Holds slab t → 1 ≤ count_of t k → IsSome (get slab k)
held slab t k h used = some_or (get slab k) (λ e. let z = fresh_zero t h e in absurd (omega arith))
  where
    some_or : (o : Option NodeView) → (o ≡ None → ⊥) → IsSome o
    some_or None f = absurd (f refl)
    some_or (Some v) f = refl

    fresh_zero : (t : Tree) → Holds slab t → get slab k ≡ None → count_of t k ≡ 0
    fresh_zero t h e = fresh slab t k h e

-- a path ends at a leaf
pub end_counted : (t : Tree) (ps : List ℕ) (node : ℕ) → Leads t ps node → 1 ≤ count_of t node
end_counted (tip n s b) [] node w = let e : one n node ≡ 1 = subst (λ k. one n k ≡ 1) w (one_same n) in omega arith
end_counted (tip n s b) (p ∷ ps) node w = absurd w
end_counted (fork n h k l r) [] node w = absurd w
end_counted (fork n h k l r) (p ∷ ps) node w =
    ⊎_elim (λ x. let a = end_counted l ps node x.1 in omega arith) (λ x. let a = end_counted r ps node x.1 in omega arith) w

-- a path of no step
pub only : (slab : Slab NodeView) (t : Tree) (node : ℕ) (ps : List ℕ) → ps ≡ [] → Leads t ps node → Sound slab t
    → (x : LeafOf) × (x.node ≡ node) × IsPermutation (x ∷ []) (leaves t) × (slab_len slab ≡ 1)
only slab (tip n s b) node ps e w sound =
    (record { node = n; slot = s; fat = b }, subst (λ q. Leads (tip n s b) q node) e w, IsPermutation-refl _, sound.counted)
only slab (fork n h k l r) node ps e w sound = absurd (subst (λ q. Leads (fork n h k l r) q node) e w)

pub ready_to_remove : (slab : Slab NodeView) (root node next : ℕ) (rest path : List ℕ) (t : Tree) → root ≡ top t → Sound slab t → Leads t path node
    → path ≡ next ∷ rest → ToRemove slab root node next rest t
ready_to_remove slab root node next rest path t is s leads e = record {
  kept = record { holds = s.holds; is_at = sym is };
  balanced = s.is_tree.balanced;
  low = let l : height t ≤ 18 = s.is_tree.low in omega arith;
  apart = s.is_tree.apart;
  leads = subst (λ q. Leads t q node) e leads;
}

-- what is left is sound
pub rest_sound : (old cut mid new : Slab NodeView) (root node freed : ℕ) (t u : Tree) → Sound old t → Removed cut root node freed t u
    → slab_len cut ≡ slab_len old → Updates cut mid node None → slab_len mid + 1 ≡ slab_len cut → Updates mid new freed None → slab_len new + 1 ≡ slab_len mid
    → Sound new u
rest_sound old cut mid new root node freed t u s p same a la b lb =
    let e1 : one node node ≡ 1 = one_same node in
    let e2 : one freed freed ≡ 1 = one_same freed in
    let f1 : count_of u node ≡ 0 = let w = p.counts_are node in let q = s.is_tree.apart node in omega arith in
    let f2 : count_of u freed ≡ 0 = let w = p.counts_are freed in let q = s.is_tree.apart freed in omega arith in
    let many : length (leaves t) ≡ suc (length (leaves u)) = length_permutation (p.leaf ∷ leaves u) (leaves t) p.leaves_are in
    let c = s.counted in
    let st = size_leaves t in
    let su = size_leaves u in
    let few = s.is_tree.few in
    record {
      holds = frame mid new freed b.others u f2 (frame cut mid node a.others u f1 p.kept.holds);
      counted = omega arith;
      is_tree = record {
        apart = λ k. let w = p.counts_are k in let q = s.is_tree.apart k in omega arith;
        slots = λ k. let w : sum_by (λ x. one x.slot k) (leaves t) ≡ one p.leaf.slot k + sum_by (λ x. one x.slot k) (leaves u) =
            sum_by_pushed (λ (x : LeafOf). one x.slot k) p.leaf (leaves u) (leaves t) p.leaves_are in let q = s.is_tree.slots k in omega arith;
        balanced = p.balanced;
        few = omega arith;
        low = low u p.balanced (omega arith);
      };
    }

-- both nodes that go are held
pub both_held : (old cut : Slab NodeView) (root node freed : ℕ) (t u : Tree) → Sound old t → Removed cut root node freed t u
    → IsSome (get old node) × IsSome (get old freed) × (freed ≢ node)
both_held old cut root node freed t u s p =
    let e1 : one node node ≡ 1 = one_same node in
    let e2 : one freed freed ≡ 1 = one_same freed in (
      held old t node s.holds (let w = p.counts_are node in omega arith),
      held old t freed s.holds (let w = p.counts_are freed in omega arith),
      λ e. let w = p.counts_are node in let q = s.is_tree.apart node in let o : one freed node ≡ 1 = subst (λ k. one freed k ≡ 1) e e2 in absurd (omega arith),
    )

pub still : (mid new : Slab NodeView) (node freed : ℕ) → IsSome (get mid freed) → Updates mid new node None → freed ≢ node → IsSome (get new freed)
still mid new node freed h u ne = subst IsSome (sym (u.others freed ne)) h
