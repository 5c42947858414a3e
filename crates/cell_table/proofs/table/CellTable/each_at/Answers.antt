-- The keys of a level are those of the map.
use Rattle.std.proofs.Common.{◌++◌, ◌==◌, ap, ◌∙◌}
use Rattle.std.proofs.lemmas.Result.{on_ok_weaker}
use Rattle.cell_table.specs.Cells.{slots_at}
use Rattle.cell_table.specs.Kept.{slots_from}
use Rattle.cell_table.proofs.KeptLemmas.{at_is}
use Rattle.cell_table.proofs.table.CellTable.each_at.Goals as goal

pub returns-else-is_err-clause-ok : goal.returns-else-is_err-clause-ok
returns-else-is_err-clause-ok c =
    on_ok_weaker c.push_level-pushed.result
    (λ h. h ∙ ap (λ l. c.args.out.now.items ++ slots_from (λ k. k.level == c.args.level) 0 l) c.deref.ensures.value
    ∙ ap (λ l. c.args.out.now.items ++ l) (at_is c.self.inside.keys.items c.args.level)
    ∙ ap (λ m. c.args.out.now.items ++ slots_at m c.args.level) c.self.view_is)
    c.push_level-pushed.ensures.ok
