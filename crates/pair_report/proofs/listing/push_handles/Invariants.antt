use Rattle.std.proofs.Common.{◌≡◌, ◌++◌, length, take, vec_len}
use Rattle.pair_report.specs.PairReport.{handles_text}
use Rattle.pair_report.proofs.listing.push_handles.Given as goal

abbrev pub invariant-handles : goal.invariant-handles
invariant-handles l = record {
  text : l.out.items ++ handles_text l.rest ≡ l.fn.out.items ++ handles_text l.handles;
  kept : take (vec_len l.fn.out) l.out.items ≡ l.fn.out.items;
}

abbrev pub decreases-handles : goal.decreases-handles
decreases-handles l = length l.rest
