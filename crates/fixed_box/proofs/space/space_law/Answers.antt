-- Each coordinate of the corners has 32 bits.
use Rattle.std.proofs.Common.{arith}
use Rattle.std.proofs.lemmas.Int.{ints}
use Rattle.fixed_box.proofs.Spaced.{spaced}
use Rattle.fixed_box.proofs.space.space_law.Goals as goal

pub returns : goal.returns
returns c =
    spaced c.lo-lo.result c.hi-hi.result c.args.body.now c.lo-lo.ensures.lo c.hi-hi.ensures.hi
    (omega (arith, ints, c.fix_law.ensures.high)) (omega (arith, ints, c.fix_law-2.ensures.high)) (omega (arith, ints, c.fix_law-3.ensures.high))
    (omega (arith, ints, c.fix_law-4.ensures.low)) (omega (arith, ints, c.fix_law-5.ensures.low)) (omega (arith, ints, c.fix_law-6.ensures.low))
