-- The lanes are those of the comparisons.
use Rattle.lane_boxes.proofs.Crossing.{least_is}
use Rattle.lane_boxes.proofs.packet.at_least.Goals as goal

pub returns : goal.returns
returns c = least_is c.args.lanes c.args.least c.requires.eight c.requires.fit c.ranges.least
