-- Blank tallies at the end change no count.
use Rattle.std.proofs.Common.{◌≤◌, ap, ◌∙◌, arith, length, get_or}
use Rattle.overlap_count.specs.SlotCounts.{digit, blank}
use Rattle.overlap_count.proofs.DigitLemmas.{length-counts_of, blank_digit}
use Rattle.overlap_count.proofs.SpreadLemmas.{grown_is, grown_at}
use Rattle.overlap_count.proofs.slot_counts.SlotCounts.lengthen.Goals as goal

pub returns-clause-ok : goal.returns-clause-ok
returns-clause-ok c k =
    let ts = c.self.inside.tallies.items in
    let short : length ts ≤ c.args.tallies = omega (arith, length-counts_of ts, ap length c.self.view_is, c.requires) in
    grown_at digit blank blank_digit ts c.resize.new.self.items _
    (grown_is blank ts c.resize.new.self.items c.args.tallies _ c.blank.result c.blank.ensures short c.in_ok-resize.ensures.items) k
    ∙ ap (λ l. get_or l k 0) c.self.view_is

pub returns-clause-len : goal.returns-clause-len
returns-clause-len c = omega (arith, length-counts_of c.resize.new.self.items, c.resize.new.self.ok.0, c.in_ok-resize.ensures.len)
