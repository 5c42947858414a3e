-- The magnitude has its sign.
use Rattle.number_front.proofs.FrontNumbers.{number_positive, number_negative}
use Rattle.number_front.proofs.printed_ahead.printed_fix_inside.Goals as goal

pub returns-then-negative-clause-value : goal.returns-then-negative-clause-value
returns-then-negative-clause-value c =
    number_negative c.args.text.now c.behind_sign-negative.result.1.now c.in_ok-magnitude.magnitude c.in_ok-magnitude.len
    (c.behind_sign-negative.ensures.sign c.if-negative.true) c.in_ok-magnitude.ensures.magnitude

pub returns-else-negative-clause-value : goal.returns-else-negative-clause-value
returns-else-negative-clause-value c =
    number_positive c.args.text.now c.behind_sign-negative.result.1.now c.in_ok-magnitude.magnitude c.in_ok-magnitude.len
    (c.behind_sign-negative.ensures.none c.if-negative.false) c.in_ok-magnitude.ensures.magnitude
