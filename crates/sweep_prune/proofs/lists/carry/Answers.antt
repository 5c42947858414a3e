-- The node is taken out and put where it belongs.
use Rattle.std.proofs.Common.{ap, ◌∙◌, subst}
use Rattle.endpoint_list.specs.NodeList.{has, IsDistinct}
use Rattle.sweep_prune.proofs.NodeLists.{distinct_without}
use Rattle.sweep_prune.proofs.lists.carry.Goals as goal

pub put_before-requires-clause-absent : goal.put_before-requires-clause-absent
put_before-requires-clause-absent c =
    let r = c.requires.cut in
    ap (has c.args.node) (c.unlink.ensures.unlinked r.0 r.1 r.4) ∙ (distinct_without c.args.node r.0 r.1 (subst IsDistinct r.4 c.requires.distinct)).0

pub push_last-requires-clause-absent : goal.push_last-requires-clause-absent
push_last-requires-clause-absent c =
    let r = c.requires.cut in
    ap (has c.args.node) (c.unlink.ensures.unlinked r.0 r.1 r.4) ∙ (distinct_without c.args.node r.0 r.1 (subst IsDistinct r.4 c.requires.distinct)).0
