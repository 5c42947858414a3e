-- The ranks of the floats tell whether they are in order, and floats in order have raw numbers in order.
use Rattle.std.proofs.Common.{SFits, ◌≤ℤ◌, sym, ◌∙◌, rules, arith}
use Rattle.std.specs.Int.{w32}
use Rattle.std.proofs.lemmas.Int.{ints, to_z-of_z}
use Rattle.float_bounds.proofs.Spanned.{compared, in_order, span_kept, span_refused}
use Rattle.float_bounds.proofs.around.span_around.Goals as goal

pub returns-then-is_at_most-clause-span : goal.returns-then-is_at_most-clause-span
returns-then-is_at_most-clause-span c =
    let low = sym c.in_ok-low.ensures in
    let high = sym c.in_ok-high.ensures in
    let low_fits : SFits w32 c.in_ok-low.low = search rules in
    let high_fits : SFits w32 c.in_ok-high.high = search rules in
    sym (span_kept c.args.format.now c.args.lo c.args.hi c.in_ok-low.low c.in_ok-high.high _ _ (to_z-of_z w32 c.in_ok-low.low low_fits)
    (to_z-of_z w32 c.in_ok-high.high high_fits) low high
    (compared c.args.format.now c.args.lo c.args.hi c.in_ok-low.low c.in_ok-high.high low high ∙ sym c.is_at_most.ensures ∙ c.if-is_at_most.true))

pub returns-then-is_at_most-clause-ordered : goal.returns-then-is_at_most-clause-ordered
returns-then-is_at_most-clause-ordered c =
    let low = sym c.in_ok-low.ensures in
    let high = sym c.in_ok-high.ensures in
    let low_fits : SFits w32 c.in_ok-low.low = search rules in
    let high_fits : SFits w32 c.in_ok-high.high = search rules in
    let ordered : c.in_ok-low.low ≤ℤ c.in_ok-high.high = in_order c.args.format.now c.args.lo c.args.hi c.in_ok-low.low c.in_ok-high.high low high
    (compared c.args.format.now c.args.lo c.args.hi c.in_ok-low.low c.in_ok-high.high low high ∙ sym c.is_at_most.ensures ∙ c.if-is_at_most.true) in
    omega (arith, ints)

pub returns-else-is_at_most-clause-span : goal.returns-else-is_at_most-clause-span
returns-else-is_at_most-clause-span c =
    let low = sym c.in_ok-low.ensures in
    let high = sym c.in_ok-high.ensures in
    sym (span_refused c.args.format.now c.args.lo c.args.hi c.in_ok-low.low c.in_ok-high.high low high
    (compared c.args.format.now c.args.lo c.args.hi c.in_ok-low.low c.in_ok-high.high low high ∙ sym c.is_at_most.ensures ∙ c.if-is_at_most.false))
