-- The slot has a box, and a leaf with the margin around it.
use Rattle.std.proofs.Common.{◌<◌, ◌∙◌, sym, ap, subst, set, Some}
use Rattle.std.proofs.lemmas.List.{length-set}
use Rattle.std.specs.FinMap.{contains_key, insert}
use Rattle.fixed_box.specs.Bounds.{fattened}
use Rattle.slot_lists.specs.SlotMap.{map_of}
use Rattle.slot_lists.specs.SlotMapLaws.{map_put}
use Rattle.box_tree.specs.declared.TheConstants.{MARGIN}
use Rattle.box_tree.specs.Ties.{AreFat}
use Rattle.box_tree.proofs.Fats.{absent_fat, fat_put}
use Rattle.box_tree.proofs.tree_boxes.TreeBoxes.put.Goals as goal

pub add-requires-clause-absent : goal.add-requires-clause-absent
add-requires-clause-absent c =
    let s = c.self.inside in
    absent_fat s.leaves.fats s.bodies.items c.self.invariant.1 c.args.slot
    (ap (λ k. contains_key (map_of k.bodies) c.args.slot) c.self.view_is ∙ c.requires.absent)

pub invariant_of-self : goal.invariant_of-self
invariant_of-self c =
    let s = c.self.inside in (
      length-set s.bodies.items c.args.slot (Some c.args.body) ∙ c.self.invariant.0,
      subst (λ fs. AreFat fs (set s.bodies.items c.args.slot (Some c.args.body))) (sym c.add.ensures)
          (fat_put s.leaves.fats s.bodies.items c.self.invariant.1 c.args.slot
          (subst (λ n. c.args.slot < n) (sym c.self.invariant.0) c.requires.small)
          (subst (λ n. c.args.slot < n) (sym c.leaf_law.ensures.fats_len) c.requires.small) c.fatten.result c.args.body c.fatten.ensures.held),
    )

pub returns-clause-bodies : goal.returns-clause-bodies
returns-clause-bodies c =
    let s = c.self.inside in
    map_put s.bodies.items c.args.slot c.args.body (subst (λ n. c.args.slot < n) (sym c.self.invariant.0) c.requires.small)
    ∙ ap (λ k. insert (map_of k.bodies) c.args.slot c.args.body) c.self.view_is

pub returns-clause-fats : goal.returns-clause-fats
returns-clause-fats c =
    let s = c.self.inside in
    ap map_of (c.add.ensures ∙ ap (λ f. set s.leaves.fats c.args.slot (Some f)) c.fatten.ensures.corners)
    ∙ map_put s.leaves.fats c.args.slot (fattened c.args.body MARGIN)
    (subst (λ n. c.args.slot < n) (sym c.leaf_law.ensures.fats_len) c.requires.small)
    ∙ ap (λ k. insert (map_of k.fats) c.args.slot (fattened c.args.body MARGIN)) c.self.view_is
