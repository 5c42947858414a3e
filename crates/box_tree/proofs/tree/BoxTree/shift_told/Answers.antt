-- The slot is touched.
use Rattle.std.proofs.Common.{false, refl, subst, sym}
use Rattle.box_tree.specs.Whole.{Sound}
use Rattle.box_tree.proofs.Soundness.{sound_put, unlisted}
use Rattle.box_tree.proofs.tree.BoxTree.shift_told.Goals as goal

pub invariant_of-self : goal.invariant_of-self
invariant_of-self c =
    let s = c.self.inside in
    unlisted (subst (λ ms. Sound c.set-moved.new.self.bodies ms s.kept.items) (sym c.set.ensures.value)
    (sound_put s.boxes.bodies s.marks s.kept.items c.self.invariant.sound c.args.slot c.set-moved.ensures.small c.set.ensures.len
    c.set-moved.new.self.bodies c.keeping_laws.ensures.inserted c.args.body c.set-moved.ensures.bodies))
    (record { nodes = s.listing.nodes; fresh = false }) refl
