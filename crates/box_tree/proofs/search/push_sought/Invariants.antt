use Rattle.std.proofs.Common.{◌≡◌, ◌++◌, ◌+◌, ◌≤◌, length}
use Rattle.fixed_box.specs.declared.TheConstants.{SLOTS}
use Rattle.box_tree.specs.Searches.{sought_from}
use Rattle.box_tree.proofs.search.push_sought.Given as goal

abbrev pub invariant-slots : goal.invariant-slots
invariant-slots l = record {
  found : l.out.items ++ sought_from l.marks l.slot l.rest ≡ sought_from l.marks 0 l.bodies;
  count : l.slot + length l.rest ≡ SLOTS;
  few : length l.out.items ≤ l.slot;
}

abbrev pub decreases-slots : goal.decreases-slots
decreases-slots l = length l.rest
