-- No bit picks no slot, and a slot that is done has no pair.
use Rattle.std.proofs.Common.{◌++◌, ◌∙◌, ap, sym}
use Rattle.std.proofs.lemmas.List.{append-nil}
use Rattle.tree_search.specs.Group.{left_pairs}
use Rattle.tree_search.proofs.Preorders.{no_pairs}
use Rattle.tree_search.proofs.group.push_met.Goals as goal

pub returns-then-mask-eq0 : goal.returns-then-mask-eq0
returns-then-mask-eq0 c =
    sym (ap (λ ps. c.args.found.now.items ++ ps) (ap (λ m. left_pairs c.args.done.now c.args.slot m c.args.group.now) c.if-mask-eq0.true
    ∙ no_pairs c.args.done.now c.args.slot c.args.group.now) ∙ append-nil c.args.found.now.items)
