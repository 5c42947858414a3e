-- A step back over one that doesn't come before it, and the place behind the first that does.
use Rattle.std.proofs.Common.{◌∙◌, sym, arith, rules}
use Rattle.near_boxes.proofs.Searched.{earlier_at, in_place_at}
use Rattle.near_boxes.proofs.descent.place_of.Goals as goal

pub places-preserved : goal.places-preserved
places-preserved c = (
  omega (arith, c.places.invariant.0),
  earlier_at c.args.near.now c.args.nears.now c.places.at _ (first_of (search rules, omega arith)) c.places.invariant.0 (sym c.lt.ensures ∙ c.if-not-lt.true) c.places.invariant.1,
)

pub returns-else-not-lt-clause-place : goal.returns-else-not-lt-clause-place
returns-else-not-lt-clause-place c =
    in_place_at c.args.near.now c.args.nears.now c.places.at _ (first_of (search rules, omega arith)) c.places.invariant.0 (sym c.lt.ensures ∙ c.if-not-lt.false) c.places.invariant.1
