-- No box before the packet meets the other one.
use Rattle.std.proofs.Common.{◌≡◌, ◌-◌, ◌*◌, ◌<◌, ◌^◌, false, All}
use Rattle.fixed_box.specs.Bounds.{meets}
use Rattle.grid_boxes.specs.Copies.{stretch}
use Rattle.grid_boxes.proofs.box_copies.BoxCopies.next_near.Given as goal

abbrev pub invariant-packets : goal.invariant-packets
invariant-packets l = record {
  within : 8 * l.packet < 2 ^ 64;
  passed : All (λ e. meets l.body e.body ≡ false) (stretch l.from (8 * l.packet) l.self);
}

abbrev pub decreases-packets : goal.decreases-packets
decreases-packets l = l.end - l.packet
