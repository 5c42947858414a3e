-- Both digits are cleared.
use Rattle.std.proofs.Common.{arith, w64}
use Rattle.std.proofs.lemmas.Nat.Bits.{bit_at_clear_same, bit_at_clear_other}
use Rattle.overlap_count.proofs.tally.Tally.without.Goals as goal

pub returns-clause-here : goal.returns-clause-here
returns-clause-here c =
    let place = c.args.place in
    omega (arith, bit_at_clear_same w64 c.args.self.low place c.requires, bit_at_clear_same w64 c.args.self.high place c.requires)

pub returns-clause-others : goal.returns-clause-others
returns-clause-others c k lt other =
    let place = c.args.place in
    let low = bit_at_clear_other w64 c.args.self.low place c.requires k lt other in
    let high = bit_at_clear_other w64 c.args.self.high place c.requires k lt other in
    omega (arith, low, high)
