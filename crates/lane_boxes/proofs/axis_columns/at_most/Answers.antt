-- The lanes are those of the comparisons.
use Rattle.lane_boxes.proofs.Crossing.{at_most_is}
use Rattle.lane_boxes.proofs.axis_columns.at_most.Goals as goal

pub returns : goal.returns
returns c = at_most_is c.args.numbers.now c.args.at c.args.most c.requires.room c.requires.fit c.ranges.most
