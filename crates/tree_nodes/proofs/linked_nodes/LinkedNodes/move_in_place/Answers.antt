-- The leaf is a node of the tree that the slab keeps.
use Rattle.std.proofs.Common.{◌≡◌, ap, ◌∙◌, sym, subst, Some, option_map}
use Rattle.tree_nodes.specs.Moved.{with_fat}
use Rattle.tree_nodes.specs.Stored.{Sound, SoundIn, tree_of}
use Rattle.tree_nodes.specs.Tree.{Tree, top, IsLeafOf}
use Rattle.tree_nodes.proofs.Heights.{under_root}
use Rattle.tree_nodes.proofs.Inserting.{kept_sound, kept_tree}
use Rattle.tree_nodes.proofs.LeafViews.{shows}
use Rattle.tree_nodes.proofs.MovedTrees.{moved_top}
use Rattle.tree_nodes.proofs.ResizedTrees.{viewed_counted, sound_resized}
use Rattle.tree_nodes.specs.declared.node_view.NodeView.TheVariants.{Leaf}
use Rattle.tree_nodes.proofs.linked_nodes.LinkedNodes.move_in_place.Goals.{Then-resize}
use Rattle.tree_nodes.proofs.linked_nodes.LinkedNodes.move_in_place.Goals as goal

pub resize-requires : goal.resize-requires
resize-requires c =
    let u = under_root c.args.self.now c.in-Some.at _ (subst (λ r. SoundIn c.args.self.now r (tree_of c.args.self.now r)) c.in-Some.is c.requires.sound) in
    let s = shows _ u.0 c.args.node (ap (tree_of c.args.self.now) c.in-Some.is ∙ u.1) c.requires.leaf in
    (u.0, u.3, sym u.2, viewed_counted u.0 c.args.node (Leaf s.0 s.1) s.2)

pub move_from_root-requires : goal.move_from_root-requires
move_from_root-requires c =
    let old = c.args.self.now in
    let at = c.in-Some.at in
    let same = sym (c.resize.ensures.refused c.if-resize.false) in record {
      sound = subst (λ s. SoundIn s (Some at) (tree_of s (Some at))) same (subst (λ r. SoundIn old r (tree_of old r)) c.in-Some.is c.requires.sound);
      leaf = subst (λ s. IsLeafOf (tree_of s (Some at)) c.args.node) same
          (subst (λ r. IsLeafOf (tree_of old r) c.args.node) c.in-Some.is c.requires.leaf);
    }

done : (c : Then-resize) → (t : Tree) × (tree_of c.args.self.now c.args.root ≡ Some t) ×
    (c.in-Some.at ≡ top (with_fat c.args.node c.args.fat.now t)) × Sound c.resize.new.self (with_fat c.args.node c.args.fat.now t)
done c =
    let u = under_root c.args.self.now c.in-Some.at _ (subst (λ r. SoundIn c.args.self.now r (tree_of c.args.self.now r)) c.in-Some.is c.requires.sound) in
    let is = ap (tree_of c.args.self.now) c.in-Some.is ∙ u.1 in
    let s = shows _ u.0 c.args.node is c.requires.leaf in
    let held = c.resize.ensures.resized u.0 u.3 (sym u.2) (viewed_counted u.0 c.args.node (Leaf s.0 s.1) s.2) c.if-resize.true in (
      u.0,
      is,
      u.2 ∙ sym (moved_top c.args.node c.args.fat.now u.0),
      sound_resized c.args.self.now c.resize.new.self c.args.node s.0 c.args.fat.now s.1 u.0 u.3 s.2 held c.resize.ensures.keys.len,
    )

pub returns-then-resize-clause-sound : goal.returns-then-resize-clause-sound
returns-then-resize-clause-sound c =
    let d = done c in
    subst (λ r. SoundIn c.resize.new.self r (tree_of c.resize.new.self r)) (sym c.in-Some.is)
    (kept_sound c.resize.new.self c.in-Some.at (with_fat c.args.node c.args.fat.now d.0) d.2 d.3)

pub returns-then-resize-clause-moved : goal.returns-then-resize-clause-moved
returns-then-resize-clause-moved c =
    let d = done c in
    ap (tree_of c.resize.new.self) c.in-Some.is ∙ kept_tree c.resize.new.self c.in-Some.at (with_fat c.args.node c.args.fat.now d.0) d.2 d.3 ∙ sym
    (ap (option_map (with_fat c.args.node c.args.fat.now)) d.1)
