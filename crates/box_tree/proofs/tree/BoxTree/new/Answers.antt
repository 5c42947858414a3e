-- Nothing is there.
use Rattle.std.proofs.Common.{refl}
use Rattle.box_tree.proofs.Soundness.{sound_none, same_outset, unlisted}
use Rattle.box_tree.proofs.tree.BoxTree.new.Goals as goal

pub invariant_of-result : goal.invariant_of-result
invariant_of-result c =
    unlisted (sound_none c.in_ok-new.field-0.bodies c.in_ok-new-2.field-0 c.new-3.result.items c.in_ok-new.ensures.bodies c.new-3.ensures.items)
    c.new-4.result c.new-4.ensures

pub returns-clause-fresh : goal.returns-clause-fresh
returns-clause-fresh c = record { none = c.in_ok-new.ensures.bodies; sound = refl; uncounted = refl }

pub returns-clause-none : goal.returns-clause-none
returns-clause-none c =
    same_outset c.in_ok-new.ensures.bodies c.in_ok-new.ensures.fats c.in_ok-new.ensures.tree c.in_ok-new-2.ensures
