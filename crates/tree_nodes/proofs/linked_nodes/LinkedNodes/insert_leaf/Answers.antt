-- The slab has room for two nodes, and the tree takes the leaf in.
use Rattle.std.proofs.Common.{◌≡◌, ◌≢◌, ◌<◌, ◌∷◌, [], Some, length, sym, subst, ap, ◌∙◌, refl, arith, All}
use Rattle.std.specs.List.Sorted.{IsPermutation}
use Rattle.std.proofs.lemmas.List.Sorted.{IsPermutation-refl}
use Rattle.tree_nodes.specs.Insertion.{ToInsert, Inserted}
use Rattle.tree_nodes.specs.Stored.{SoundIn, Sound, tree_of}
use Rattle.tree_nodes.specs.Tree.{Tree, tip, leaves, leaves_in, Leaf as LeafOf}
use Rattle.tree_nodes.proofs.Heights.{under_root}
use Rattle.tree_nodes.proofs.Inserting.{room_two, first_sound, kept_sound, kept_tree, ready_to_insert, inserted_sound}
use Rattle.tree_nodes.proofs.linked_nodes.LinkedNodes.insert_leaf.Goals.{After-insert_reserved-new_parent, After-insert_below-top, In-None}
use Rattle.tree_nodes.proofs.linked_nodes.LinkedNodes.insert_leaf.Goals as goal

pub insert_reserved-leaf-requires : goal.insert_reserved-leaf-requires
insert_reserved-leaf-requires c = let r = room_two c.args.self.now c.args.root _ c.requires.sound c.requires.few in omega arith

pub insert_reserved-new_parent-requires : goal.insert_reserved-new_parent-requires
insert_reserved-new_parent-requires c = let r = room_two c.args.self.now c.args.root _ c.requires.sound c.requires.few in omega arith

-- the tree is there, and may take in the leaf
ready : (c : After-insert_reserved-new_parent) → (t : Tree) × (tree_of c.args.self.now c.args.root ≡ Some t) × Sound c.args.self.now t
    × ToInsert c.insert_reserved-new_parent.new.self c.in-Some.at c.insert_reserved-leaf.result c.insert_reserved-new_parent.result c.args.slot c.args.fat t
ready c =
    let w = under_root c.args.self.now c.in-Some.at _ (subst (λ r. SoundIn c.args.self.now r (tree_of c.args.self.now r)) c.in-Some.is c.requires.sound) in (
      w.0,
      ap (tree_of c.args.self.now) c.in-Some.is ∙ w.1,
      w.3,
      ready_to_insert c.args.self.now c.insert_reserved-leaf.new.self c.insert_reserved-new_parent.new.self c.in-Some.at c.insert_reserved-leaf.result
          c.insert_reserved-new_parent.result c.args.slot c.args.fat _ w.0 w.3 (sym w.2)
          c.insert_reserved-leaf.ensures.was_vacant c.insert_reserved-leaf.ensures.updates c.insert_reserved-new_parent.ensures.was_vacant
          c.insert_reserved-new_parent.ensures.updates,
    )

pub insert_below-top-requires : goal.insert_below-top-requires
insert_below-top-requires c =
    let r = ready (goal.at.insert_below-top-requires c).After-insert_reserved-new_parent in (c.args.slot, c.args.fat, r.0, r.3)

-- the tree with the leaf
taken : (c : After-insert_below-top) (t : Tree) → tree_of c.args.self.now c.args.root ≡ Some t → Sound c.args.self.now t
    → ToInsert c.insert_reserved-new_parent.new.self c.in-Some.at c.insert_reserved-leaf.result c.insert_reserved-new_parent.result c.args.slot c.args.fat t
    → (u : Tree) × Inserted c.insert_below-top.new.self c.insert_below-top.result.0 c.insert_reserved-leaf.result c.insert_reserved-new_parent.result
    c.args.slot c.args.fat t u × Sound c.insert_below-top.new.self u
taken c t is s r =
    let g = c.insert_below-top.ensures.there c.args.slot c.args.fat t r in (
      g.0,
      g.1,
      inserted_sound c.args.self.now c.insert_reserved-new_parent.new.self c.insert_below-top.new.self c.in-Some.at c.insert_reserved-leaf.result
          c.insert_reserved-new_parent.result c.insert_below-top.result.0 c.args.slot c.args.fat t g.0 s
          (subst (λ t. length (leaves_in t) < 8192) is c.requires.few) (subst (λ t. All (λ x. x.slot ≢ c.args.slot) (leaves_in t)) is c.requires.absent) r g.1
          (let a = (c.insert_below-top.ensures.writes c.args.slot c.args.fat t r).kept.len in let b = c.insert_reserved-leaf.ensures.len in let d = c.insert_reserved-new_parent.ensures.len in
          omega arith),
    )

pub returns-in-Some-clause-sound : goal.returns-in-Some-clause-sound
returns-in-Some-clause-sound c =
    let p = goal.at.returns-in-Some-clause-sound c in
    let r = ready p.After-insert_reserved-new_parent in
    let g = taken p.After-insert_below-top r.0 r.1 r.2 r.3 in
    kept_sound c.insert_below-top.new.self c.insert_below-top.result.0 g.0 (sym g.1.kept.is_at) g.2

pub returns-in-Some-clause-leaves : goal.returns-in-Some-clause-leaves
returns-in-Some-clause-leaves c =
    let p = goal.at.returns-in-Some-clause-leaves c in
    let r = ready p.After-insert_reserved-new_parent in
    let g = taken p.After-insert_below-top r.0 r.1 r.2 r.3 in
    let x : LeafOf = record { node = c.insert_reserved-leaf.result; slot = c.args.slot; fat = c.args.fat } in
    subst (λ t. IsPermutation (x ∷ leaves_in t) (leaves_in (tree_of c.insert_below-top.new.self (Some c.insert_below-top.result.0)))) (sym r.1)
    (subst (λ u. IsPermutation (x ∷ leaves r.0) (leaves_in u))
    (sym (kept_tree c.insert_below-top.new.self c.insert_below-top.result.0 g.0 (sym g.1.kept.is_at) g.2)) g.1.leaves_are)

first : (c : In-None) → Sound c.insert_reserved-leaf.new.self (tip c.insert_reserved-leaf.result c.args.slot c.args.fat)
first c =
    first_sound c.args.self.now c.insert_reserved-leaf.new.self c.insert_reserved-leaf.result c.args.slot c.args.fat
    (subst (λ r. SoundIn c.args.self.now r (tree_of c.args.self.now r)) c.in-None.is c.requires.sound)
    c.insert_reserved-leaf.ensures.updates c.insert_reserved-leaf.ensures.len

pub returns-in-None-clause-sound : goal.returns-in-None-clause-sound
returns-in-None-clause-sound c =
    kept_sound c.insert_reserved-leaf.new.self c.insert_reserved-leaf.result (tip c.insert_reserved-leaf.result c.args.slot c.args.fat) refl (first c)

pub returns-in-None-clause-leaves : goal.returns-in-None-clause-leaves
returns-in-None-clause-leaves c =
    let x : LeafOf = record { node = c.insert_reserved-leaf.result; slot = c.args.slot; fat = c.args.fat } in
    subst (λ t. IsPermutation (x ∷ leaves_in t) (leaves_in (tree_of c.insert_reserved-leaf.new.self (Some c.insert_reserved-leaf.result))))
    (sym (ap (tree_of c.args.self.now) c.in-None.is))
    (subst (λ u. IsPermutation (x ∷ []) (leaves_in u)) (sym (kept_tree c.insert_reserved-leaf.new.self c.insert_reserved-leaf.result
    (tip c.insert_reserved-leaf.result c.args.slot c.args.fat) refl (first c))) (IsPermutation-refl (x ∷ [])))
