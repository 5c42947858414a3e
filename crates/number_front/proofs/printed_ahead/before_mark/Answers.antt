-- The lowest mark stands in the second byte to the fifth, and tells how far the word is to be moved.
use Rattle.std.proofs.Common.{◌≡◌, ◌-◌, ◌*◌, ◌+◌, ◌/◌, ◌%◌, ◌^◌, w64, ap, arith}
use Rattle.std.specs.Int.{trailing_zeros}
use Rattle.number_front.specs.Fronts.{values_of}
use Rattle.number_front.proofs.PrintedWords.{IsPlace, marks_place}
use Rattle.number_front.proofs.printed_ahead.before_mark.Goals as goal

place : (c : goal.After-from-marks) → IsPlace (trailing_zeros w64 (c.from-marks.result + 68719476736))
place c = marks_place c.args.marks _ c.ranges.marks.fits (omega (arith, c.from-marks.ensures))

pub overflow_sub-values : goal.overflow_sub-values
overflow_sub-values c = let p = place c in omega (arith, p.1, p.2, p.3)

pub overflow_shl-values : goal.overflow_shl-values
overflow_shl-values c = let p = place c in omega (arith, p.1, p.2, p.3)

pub returns-clause-some : goal.returns-clause-some
returns-clause-some c = let p = place c in omega (arith, p.1, p.2, p.3)

pub returns-clause-few : goal.returns-clause-few
returns-clause-few c = let p = place c in omega (arith, p.1, p.2, p.3)

pub returns-clause-values : goal.returns-clause-values
returns-clause-values c =
    let p = place c in
    let z = trailing_zeros w64 (c.from-marks.result + 68719476736) in
    let moved : 36 - z ≡ 32 - 8 * (z / 8) = omega (arith, p.1, p.2, p.3) in
    ap (λ k. values_of c.args.word * 2 ^ k % 4294967296) moved
