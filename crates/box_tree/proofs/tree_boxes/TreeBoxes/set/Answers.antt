-- The box moves inside its fat box, or has another one.
use Rattle.std.proofs.Common.{◌<◌, ◌∙◌, arith, sym, ap, subst, set, Some}
use Rattle.std.proofs.lemmas.List.{length-set}
use Rattle.std.specs.FinMap.{contains_key, insert}
use Rattle.slot_lists.specs.SlotMap.{map_of}
use Rattle.slot_lists.specs.SlotMapLaws.{map_put}
use Rattle.box_tree.specs.Boxes.{is_inside, shifted, told}
use Rattle.box_tree.specs.Ties.{AreFat}
use Rattle.box_tree.proofs.Changes.{inside_told, outside_told, inside_shifted, outside_shifted}
use Rattle.box_tree.proofs.Fats.{present_fat, present_small, fat_put, fat_inside}
use Rattle.box_tree.proofs.tree_boxes.TreeBoxes.set.Goals as goal

pub index_mut-requires : goal.index_mut-requires
index_mut-requires c =
    let s = c.self.inside in
    let l = present_small s.leaves.fats s.bodies.items c.self.invariant.1 c.args.slot c.self.invariant.0
    (ap (λ k. contains_key (map_of k.bodies) c.args.slot) c.self.view_is ∙ c.requires.present) in
    omega (arith, s.bodies.ok.0, c.self.invariant.0, l)

pub invariant_of-self : goal.invariant_of-self
invariant_of-self c =
    let s = c.self.inside in
    let l = present_small s.leaves.fats s.bodies.items c.self.invariant.1 c.args.slot c.self.invariant.0
    (ap (λ k. contains_key (map_of k.bodies) c.args.slot) c.self.view_is ∙ c.requires.present) in (
      length-set s.bodies.items c.args.slot (Some c.args.body) ∙ c.self.invariant.0,
      fat_inside s.leaves.fats s.bodies.items c.self.invariant.1 c.args.slot (subst (λ n. c.args.slot < n) (sym c.self.invariant.0) l)
          c.fat_of.result c.args.body c.fat_of.ensures (sym c.holds_box.ensures ∙ c.if-holds_box.true),
    )

pub returns-then-holds_box-clause-told : goal.returns-then-holds_box-clause-told
returns-then-holds_box-clause-told c =
    let s = c.self.inside in
    inside_told s.leaves.fats c.args.slot c.args.body
    (ap (λ o. is_inside o c.args.body) c.fat_of.ensures ∙ (sym c.holds_box.ensures ∙ c.if-holds_box.true))
    ∙ ap (λ k. told (map_of k.fats) c.args.slot c.args.body) c.self.view_is

pub returns-then-holds_box-clause-bodies : goal.returns-then-holds_box-clause-bodies
returns-then-holds_box-clause-bodies c =
    let s = c.self.inside in
    let l = present_small s.leaves.fats s.bodies.items c.self.invariant.1 c.args.slot c.self.invariant.0
    (ap (λ k. contains_key (map_of k.bodies) c.args.slot) c.self.view_is ∙ c.requires.present) in
    map_put s.bodies.items c.args.slot c.args.body (subst (λ n. c.args.slot < n) (sym c.self.invariant.0) l)
    ∙ ap (λ k. insert (map_of k.bodies) c.args.slot c.args.body) c.self.view_is

pub returns-then-holds_box-clause-fats : goal.returns-then-holds_box-clause-fats
returns-then-holds_box-clause-fats c =
    let s = c.self.inside in
    inside_shifted s.leaves.fats c.args.slot c.args.body
    (ap (λ o. is_inside o c.args.body) c.fat_of.ensures ∙ (sym c.holds_box.ensures ∙ c.if-holds_box.true))
    ∙ ap (λ k. shifted (map_of k.fats) c.args.slot c.args.body) c.self.view_is

pub returns-then-holds_box-clause-small : goal.returns-then-holds_box-clause-small
returns-then-holds_box-clause-small c =
    let s = c.self.inside in
    present_small s.leaves.fats s.bodies.items c.self.invariant.1 c.args.slot c.self.invariant.0
    (ap (λ k. contains_key (map_of k.bodies) c.args.slot) c.self.view_is ∙ c.requires.present)

pub fat_of-requires : goal.fat_of-requires
fat_of-requires c =
    let s = c.self.inside in
    present_fat s.leaves.fats s.bodies.items c.self.invariant.1 c.args.slot
    (ap (λ k. contains_key (map_of k.bodies) c.args.slot) c.self.view_is ∙ c.requires.present)

pub relink-requires : goal.relink-requires
relink-requires c =
    let s = c.self.inside in
    present_fat s.leaves.fats s.bodies.items c.self.invariant.1 c.args.slot
    (ap (λ k. contains_key (map_of k.bodies) c.args.slot) c.self.view_is ∙ c.requires.present)

pub invariant_of-self-2 : goal.invariant_of-self-2
invariant_of-self-2 c =
    let s = c.self.inside in
    let l = present_small s.leaves.fats s.bodies.items c.self.invariant.1 c.args.slot c.self.invariant.0
    (ap (λ k. contains_key (map_of k.bodies) c.args.slot) c.self.view_is ∙ c.requires.present) in (
      length-set s.bodies.items c.args.slot (Some c.args.body) ∙ c.self.invariant.0,
      subst (λ fs. AreFat fs (set s.bodies.items c.args.slot (Some c.args.body))) (sym c.relink.ensures)
          (fat_put s.leaves.fats s.bodies.items c.self.invariant.1 c.args.slot
          (subst (λ n. c.args.slot < n) (sym c.self.invariant.0) l)
          (subst (λ n. c.args.slot < n) (sym c.leaf_law.ensures.fats_len) l) c.fatten.result c.args.body c.fatten.ensures.held),
    )

pub returns-clause-told : goal.returns-clause-told
returns-clause-told c =
    let s = c.self.inside in
    outside_told s.leaves.fats c.args.slot c.args.body
    (ap (λ o. is_inside o c.args.body) c.fat_of.ensures ∙ (sym c.holds_box.ensures ∙ c.if-holds_box.false))
    ∙ ap (λ k. told (map_of k.fats) c.args.slot c.args.body) c.self.view_is

pub returns-clause-bodies : goal.returns-clause-bodies
returns-clause-bodies c =
    let s = c.self.inside in
    let l = present_small s.leaves.fats s.bodies.items c.self.invariant.1 c.args.slot c.self.invariant.0
    (ap (λ k. contains_key (map_of k.bodies) c.args.slot) c.self.view_is ∙ c.requires.present) in
    map_put s.bodies.items c.args.slot c.args.body (subst (λ n. c.args.slot < n) (sym c.self.invariant.0) l)
    ∙ ap (λ k. insert (map_of k.bodies) c.args.slot c.args.body) c.self.view_is

pub returns-clause-fats : goal.returns-clause-fats
returns-clause-fats c =
    let s = c.self.inside in
    let l = present_small s.leaves.fats s.bodies.items c.self.invariant.1 c.args.slot c.self.invariant.0
    (ap (λ k. contains_key (map_of k.bodies) c.args.slot) c.self.view_is ∙ c.requires.present) in
    ap map_of (c.relink.ensures ∙ ap (λ f. set s.leaves.fats c.args.slot (Some f)) c.fatten.ensures.corners)
    ∙ outside_shifted s.leaves.fats c.args.slot c.args.body
    (ap (λ o. is_inside o c.args.body) c.fat_of.ensures ∙ (sym c.holds_box.ensures ∙ c.if-holds_box.false))
    (subst (λ n. c.args.slot < n) (sym c.leaf_law.ensures.fats_len) l)
    ∙ ap (λ k. shifted (map_of k.fats) c.args.slot c.args.body) c.self.view_is

pub returns-clause-small : goal.returns-clause-small
returns-clause-small c =
    let s = c.self.inside in
    present_small s.leaves.fats s.bodies.items c.self.invariant.1 c.args.slot c.self.invariant.0
    (ap (λ k. contains_key (map_of k.bodies) c.args.slot) c.self.view_is ∙ c.requires.present)
