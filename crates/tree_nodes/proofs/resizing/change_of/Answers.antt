-- Boxes that compare as equal are the same.
use Rattle.std.proofs.Common.{◌∙◌, sym}
use Rattle.tree_nodes.proofs.BoxEquality.{equal_box}
use Rattle.tree_nodes.proofs.resizing.change_of.Goals as goal

pub returns-then-eq-clause-stays : goal.returns-then-eq-clause-stays
returns-then-eq-clause-stays c _ = equal_box c.args.raised.now c.args.hull.now (sym c.eq.ensures ∙ c.if-eq.true)
