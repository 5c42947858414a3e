-- The path to the leaf leads down the tree that the slab keeps.
use Rattle.std.proofs.Common.{◌≡◌, ap, ◌∙◌, sym, subst, Some, option_map}
use Rattle.tree_nodes.specs.Moved.{with_fat}
use Rattle.tree_nodes.specs.Stored.{Sound, SoundIn, tree_of}
use Rattle.tree_nodes.specs.Tree.{Tree, top}
use Rattle.tree_nodes.proofs.Heights.{under_root}
use Rattle.tree_nodes.proofs.Inserting.{kept_sound, kept_tree}
use Rattle.tree_nodes.proofs.LeafMoves.{sound_moved}
use Rattle.tree_nodes.proofs.LeafViews.{ready_to_search, shows, ready_to_move}
use Rattle.tree_nodes.proofs.linked_nodes.LinkedNodes.move_from_root.Goals.{Joined-path}
use Rattle.tree_nodes.proofs.linked_nodes.LinkedNodes.move_from_root.Goals as goal

pub path_to-requires-clause-tree : goal.path_to-requires-clause-tree
path_to-requires-clause-tree c =
    let u = under_root c.args.self.now c.in-Some.at _ (subst (λ r. SoundIn c.args.self.now r (tree_of c.args.self.now r)) c.in-Some.is c.requires.sound) in
    let is = ap (tree_of c.args.self.now) c.in-Some.is ∙ u.1 in
    let s = shows _ u.0 c.args.node is c.requires.leaf in
    (u.0, ready_to_search c.args.self.now c.in-Some.at u.0 u.2 u.3 u.4, s.0, s.1, s.2)

pub move_below-requires : goal.move_below-requires
move_below-requires c =
    let u = under_root c.args.self.now c.in-Some.at _ (subst (λ r. SoundIn c.args.self.now r (tree_of c.args.self.now r)) c.in-Some.is c.requires.sound) in
    let is = ap (tree_of c.args.self.now) c.in-Some.is ∙ u.1 in
    let s = shows _ u.0 c.args.node is c.requires.leaf in (
      c.args.node,
      u.0,
      ready_to_move c.args.self.now c.in-Some.at c.args.node c.as_slice.result.now u.0 u.2 u.3 u.4
          (rw c.as_slice.ensures (c.path_to.ensures u.0 s.0 s.1 (ready_to_search c.args.self.now c.in-Some.at u.0 u.2 u.3 u.4) s.2)),
    )

done : (c : Joined-path) → (t : Tree) × (tree_of c.args.self.now c.args.root ≡ Some t) ×
    (c.in-Some.at ≡ top (with_fat c.args.node c.args.fat.now t)) × Sound c.move_below.new.self (with_fat c.args.node c.args.fat.now t)
done c =
    let u = under_root c.args.self.now c.in-Some.at _ (subst (λ r. SoundIn c.args.self.now r (tree_of c.args.self.now r)) c.in-Some.is c.requires.sound) in
    let is = ap (tree_of c.args.self.now) c.in-Some.is ∙ u.1 in
    let s = shows _ u.0 c.args.node is c.requires.leaf in
    let led = ready_to_move c.args.self.now c.in-Some.at c.args.node c.as_slice.result.now u.0 u.2 u.3 u.4
    (rw c.as_slice.ensures (c.path_to.ensures u.0 s.0 s.1 (ready_to_search c.args.self.now c.in-Some.at u.0 u.2 u.3 u.4) s.2)) in
    let k = c.move_below.ensures.there c.args.node u.0 led in
    (u.0, is, sym k.is_at, sound_moved c.args.self.now c.move_below.new.self c.args.node c.args.fat.now u.0 u.3 k.holds (c.move_below.ensures.writes c.args.node u.0 led).kept.len)

pub returns-clause-sound : goal.returns-clause-sound
returns-clause-sound c =
    let d = done c in
    subst (λ r. SoundIn c.move_below.new.self r (tree_of c.move_below.new.self r)) (sym c.in-Some.is)
    (kept_sound c.move_below.new.self c.in-Some.at (with_fat c.args.node c.args.fat.now d.0) d.2 d.3)

pub returns-clause-moved : goal.returns-clause-moved
returns-clause-moved c =
    let d = done c in
    ap (tree_of c.move_below.new.self) c.in-Some.is ∙ kept_tree c.move_below.new.self c.in-Some.at (with_fat c.args.node c.args.fat.now d.0) d.2 d.3 ∙ sym
    (ap (option_map (with_fat c.args.node c.args.fat.now)) d.1)
