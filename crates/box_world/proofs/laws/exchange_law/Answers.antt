-- A change has few exchanges, and none where they aren't counted.
use Rattle.box_world.specs.World.{exchanges_of_add, exchanges_of_move}
use Rattle.live_table.specs.Table.{least_free}
use Rattle.box_world.proofs.Counted.{counted_few}
use Rattle.box_world.proofs.FoundBodies.{add_passes_few, move_passes_few}
use Rattle.box_world.proofs.laws.exchange_law.Goals as goal

pub returns-clause-added : goal.returns-clause-added
returns-clause-added c counts w body is =
    counted_few counts (exchanges_of_add w body) (add_passes_few c.exchange_laws.ensures.added w.table (least_free w.table) body is)

pub returns-clause-moved : goal.returns-clause-moved
returns-clause-moved c counts w handle body is =
    counted_few counts (exchanges_of_move w handle body) (move_passes_few c.exchange_laws.ensures.shifted w.table handle body is)
