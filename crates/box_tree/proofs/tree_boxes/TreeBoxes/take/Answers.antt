-- The slot's box goes, and its leaf.
use Rattle.std.proofs.Common.{◌<◌, ◌∙◌, arith, sym, ap, subst, set, None}
use Rattle.std.proofs.lemmas.List.{length-set}
use Rattle.std.specs.FinMap.{contains_key, remove}
use Rattle.slot_lists.specs.SlotMap.{map_of}
use Rattle.slot_lists.specs.SlotMapLaws.{map_take}
use Rattle.box_tree.specs.Ties.{AreFat}
use Rattle.box_tree.proofs.Fats.{present_fat, present_small, fat_taken}
use Rattle.box_tree.proofs.tree_boxes.TreeBoxes.take.Goals as goal

pub index_mut-requires : goal.index_mut-requires
index_mut-requires c =
    let s = c.self.inside in
    let l = present_small s.leaves.fats s.bodies.items c.self.invariant.1 c.args.slot c.self.invariant.0
    (ap (λ k. contains_key (map_of k.bodies) c.args.slot) c.self.view_is ∙ c.requires.present) in
    omega (arith, s.bodies.ok.0, c.self.invariant.0, l)

pub take-requires : goal.take-requires
take-requires c =
    let s = c.self.inside in
    present_fat s.leaves.fats s.bodies.items c.self.invariant.1 c.args.slot
    (ap (λ k. contains_key (map_of k.bodies) c.args.slot) c.self.view_is ∙ c.requires.present)

pub invariant_of-self : goal.invariant_of-self
invariant_of-self c =
    let s = c.self.inside in
    let l = present_small s.leaves.fats s.bodies.items c.self.invariant.1 c.args.slot c.self.invariant.0
    (ap (λ k. contains_key (map_of k.bodies) c.args.slot) c.self.view_is ∙ c.requires.present) in (
      length-set s.bodies.items c.args.slot None ∙ c.self.invariant.0,
      subst (λ fs. AreFat fs (set s.bodies.items c.args.slot None)) (sym c.take.ensures)
          (fat_taken s.leaves.fats s.bodies.items c.self.invariant.1 c.args.slot
          (subst (λ n. c.args.slot < n) (sym c.self.invariant.0) l)
          (subst (λ n. c.args.slot < n) (sym c.leaf_law.ensures.fats_len) l)),
    )

pub returns-clause-bodies : goal.returns-clause-bodies
returns-clause-bodies c =
    let s = c.self.inside in
    let l = present_small s.leaves.fats s.bodies.items c.self.invariant.1 c.args.slot c.self.invariant.0
    (ap (λ k. contains_key (map_of k.bodies) c.args.slot) c.self.view_is ∙ c.requires.present) in
    map_take s.bodies.items c.args.slot (subst (λ n. c.args.slot < n) (sym c.self.invariant.0) l)
    ∙ ap (λ k. remove (map_of k.bodies) c.args.slot) c.self.view_is

pub returns-clause-fats : goal.returns-clause-fats
returns-clause-fats c =
    let s = c.self.inside in
    let l = present_small s.leaves.fats s.bodies.items c.self.invariant.1 c.args.slot c.self.invariant.0
    (ap (λ k. contains_key (map_of k.bodies) c.args.slot) c.self.view_is ∙ c.requires.present) in
    ap map_of c.take.ensures
    ∙ map_take s.leaves.fats c.args.slot (subst (λ n. c.args.slot < n) (sym c.leaf_law.ensures.fats_len) l)
    ∙ ap (λ k. remove (map_of k.fats) c.args.slot) c.self.view_is

pub returns-clause-small : goal.returns-clause-small
returns-clause-small c =
    let s = c.self.inside in
    present_small s.leaves.fats s.bodies.items c.self.invariant.1 c.args.slot c.self.invariant.0
    (ap (λ k. contains_key (map_of k.bodies) c.args.slot) c.self.view_is ∙ c.requires.present)
