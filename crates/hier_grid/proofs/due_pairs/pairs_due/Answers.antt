-- A box that isn't raised stands in its own cell, and its partners that it is to find do too.
use Rattle.std.proofs.Common.{◌≤◌, true, arith}
use Rattle.std.proofs.lemmas.Result.{on_ok_weaker}
use Rattle.fixed_box.specs.Bounds.{level_of}
use Rattle.hier_grid.specs.Search.{Finds, IsDue}
use Rattle.grid_cells.specs.Cells.{standing_cell}
use Rattle.hier_grid.proofs.DueLemmas.{due_stands}
use Rattle.hier_grid.proofs.due_pairs.pairs_due.Goals as goal

pub returns-else-level-copied : goal.returns-else-level-copied
returns-else-level-copied c =
    let own = c.args.own.now in
    let bodies = c.args.boxes.now.bodies in
    let floor = c.args.boxes.now.floor in
    let old = c.args.found.now.pairs.items in
    let new = c.pairs_of_standing.new.found.pairs.items in
    let low : floor ≤ level_of own.body = omega (arith, c.copied.ensures.floor, c.if-level-copied.false, c.level.ensures.value) in
    on_ok_weaker c.pairs_of_standing.result (λ (f : Finds bodies own true (IsDue (standing_cell floor) own.slot own.body) old new). record {
      sound = f.sound;
      more = f.more;
      found = λ q b e due m other any. f.found q b e (due_stands floor own.slot own.body q b low due) m other any;
    }) c.pairs_of_standing.ensures
