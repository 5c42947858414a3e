-- Where none of the three is another, all are the same.
use Rattle.std.proofs.Common.{◌∙◌, sym}
use Rattle.tree_nodes.proofs.BoxEquality.{same_box}
use Rattle.tree_nodes.proofs.linked_nodes.LinkedNodes.is_other.Goals as goal

pub returns : goal.returns
returns c t p still = record {
  top_is = p.is_at ∙ c.if-top-at.false;
  bounds_is = sym (c.bounds_at.ensures t p.holds p.is_at) ∙ same_box c.bounds_at.result c.args.hull.now (sym c.ne.ensures ∙ still);
  height_is = sym (c.height_at.ensures t p.holds p.is_at) ∙ c.if-height_at-height.false;
}
