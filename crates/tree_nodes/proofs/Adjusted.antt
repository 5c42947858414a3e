-- A node is rebalanced, where a leaf came or went below it.
use Rattle.std.proofs.Common.{ℕ, max, refl}
use Rattle.std.proofs.lemmas.List.Sorted.{IsPermutation-refl}
use Rattle.slab.specs.Slab.{Slab}
use Rattle.tree_nodes.specs.declared.node_view.NodeView.{NodeView}
use Rattle.tree_nodes.specs.Parts.{SameLeaves}
use Rattle.tree_nodes.specs.Rotation.{rebalanced, BalancedNear, ToAdjust, ToRebalance}
use Rattle.tree_nodes.specs.Stored.{StandsAt}
use Rattle.tree_nodes.specs.Tree.{Tree, height, leaves}
use Rattle.tree_nodes.proofs.Balance.{rebalanced_balanced}

-- the rebalanced tree has its own leaves
rebalanced_same : (old new : Slab NodeView) (at left right result : ℕ) (l r : Tree) → ToAdjust old at left right l r
    → StandsAt new result (rebalanced at l r) → SameLeaves new result (rebalanced at l r) (rebalanced at l r)
rebalanced_same old new at left right result l r j k =
    let g : BalancedNear (rebalanced at l r) (max (height l) (height r)) =
    rebalanced_balanced at l r j.near.left_balanced j.near.right_balanced j.left_low j.right_low in
    record {
      kept = k;
      balanced = g.balanced;
      height_is = refl;
      counts_are = λ _. refl;
      leaves_are = IsPermutation-refl (leaves (rebalanced at l r));
    }

pub adjusted : (old new : Slab NodeView) (at left right result : ℕ) (l r : Tree) → ToAdjust old at left right l r
    → (ToRebalance old at left right l r → StandsAt new result (rebalanced at l r)) → (u : Tree) × SameLeaves new result (rebalanced at l r) u
adjusted old new at left right result l r j there = (rebalanced at l r, rebalanced_same old new at left right result l r j (there j.near))
