-- A key that is taken and put is put at once, and one that is there already changes nothing.
use Rattle.std.proofs.Common.{ap, ◌∙◌}
use Rattle.std.specs.FinMap.{contains_key, insert}
use Rattle.grid_boxes.proofs.MapLemmas.{insert_again, insert_same, gone}
use Rattle.grid_boxes.proofs.grid_boxes.rekey.Goals as goal

pub put-requires-clause-absent : goal.put-requires-clause-absent
put-requires-clause-absent c = ap (λ m. contains_key m c.args.slot) c.take.ensures ∙ gone c.args.cells.now c.args.slot

pub returns : goal.returns
returns c = c.put.ensures ∙ ap (λ m. insert m c.args.slot c.args.key) c.take.ensures ∙ insert_again c.args.cells.now c.args.slot c.args.key

pub returns-then-is_kept : goal.returns-then-is_kept
returns-then-is_kept c = insert_same c.args.cells.now c.args.slot c.args.key (c.is_kept.ensures c.if-is_kept.true)
