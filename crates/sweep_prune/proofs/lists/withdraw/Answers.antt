-- The maximum is still there once the minimum is taken out.
use Rattle.std.proofs.Common.{◌++◌, ◌*◌, ◌+◌, ap, ◌∙◌}
use Rattle.endpoint_list.specs.NodeList.{has}
use Rattle.endpoint_list.specs.NodeLaws.{has_split}
use Rattle.sweep_prune.proofs.QuitLemmas.{still_there, unlinked_both}
use Rattle.sweep_prune.proofs.lists.withdraw.Goals as goal

pub unlink-requires : goal.unlink-requires
unlink-requires c = has_split (2 * c.args.slot) c.args.list.now c.requires.min

pub unlink-requires-2 : goal.unlink-requires-2
unlink-requires-2 c =
    let a = has_split (2 * c.args.slot) c.args.list.now c.requires.min in
    let h = still_there c.args.slot c.args.list.now a.0 a.1 a.2 c.requires.max in
    has_split (2 * c.args.slot + 1) c.unlink.new.self (ap (has (2 * c.args.slot + 1)) (c.unlink.ensures.unlinked a.0 a.1 a.2) ∙ h)

pub returns : goal.returns
returns c =
    let a = has_split (2 * c.args.slot) c.args.list.now c.requires.min in
    let b = has_split (2 * c.args.slot + 1) (a.0 ++ a.1) (still_there c.args.slot c.args.list.now a.0 a.1 a.2 c.requires.max) in
    c.unlink-2.ensures.unlinked b.0 b.1 (c.unlink.ensures.unlinked a.0 a.1 a.2 ∙ b.2)
    ∙ unlinked_both c.args.slot c.args.list.now a.0 a.1 b.0 b.1 c.requires.distinct a.2 b.2
