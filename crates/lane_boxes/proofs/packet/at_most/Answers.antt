-- The lanes are those of the comparisons.
use Rattle.lane_boxes.proofs.Crossing.{most_is}
use Rattle.lane_boxes.proofs.packet.at_most.Goals as goal

pub returns : goal.returns
returns c = most_is c.args.lanes c.args.most c.requires.eight c.requires.fit c.ranges.most
