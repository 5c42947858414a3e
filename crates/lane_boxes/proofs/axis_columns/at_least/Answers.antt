-- The lanes are those of the comparisons.
use Rattle.lane_boxes.proofs.Crossing.{at_least_is}
use Rattle.lane_boxes.proofs.axis_columns.at_least.Goals as goal

pub returns : goal.returns
returns c = at_least_is c.args.numbers.now c.args.at c.args.least c.requires.room c.requires.fit c.ranges.least
