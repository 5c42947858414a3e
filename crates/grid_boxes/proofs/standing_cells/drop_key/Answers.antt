-- Where the slot has no key there is none to take.
use Rattle.std.proofs.Common.{◌≡◌, None, rules}
use Rattle.std.specs.FinMap.{get}
use Rattle.grid_boxes.proofs.MapLemmas.{remove_absent}
use Rattle.grid_boxes.proofs.standing_cells.drop_key.Goals as goal

pub returns-in-None : goal.returns-in-None
returns-in-None c =
    let there : get c.args.cells.now c.args.slot ≡ None = search rules in remove_absent c.args.cells.now c.args.slot there
