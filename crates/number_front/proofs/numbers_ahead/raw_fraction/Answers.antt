-- Nine places are below a thousand million, and round as fewer do.
use Rattle.std.proofs.Common.{◌*◌, ◌<◌, arith}
use Rattle.number_front.proofs.FrontNumbers.{nine_places, below_nine_places}
use Rattle.number_front.proofs.numbers_ahead.raw_fraction.Goals as goal

pub overflow_mul-result-2 : goal.overflow_mul-result-2
overflow_mul-result-2 c =
    let small : c.args.fraction * c.missing_places.result < 1000000000 =
    rw c.missing_places.ensures (below_nine_places c.args.len c.args.fraction c.requires.few c.requires.below) in
    omega arith

pub overflow_add-result : goal.overflow_add-result
overflow_add-result c =
    let small : c.args.fraction * c.missing_places.result < 1000000000 =
    rw c.missing_places.ensures (below_nine_places c.args.len c.args.fraction c.requires.few c.requires.below) in
    omega arith

pub returns-clause-value : goal.returns-clause-value
returns-clause-value c = rw c.missing_places.ensures (nine_places c.args.len c.args.fraction c.requires.few)

pub returns-clause-small : goal.returns-clause-small
returns-clause-small c =
    let small : c.args.fraction * c.missing_places.result < 1000000000 =
    rw c.missing_places.ensures (below_nine_places c.args.len c.args.fraction c.requires.few c.requires.below) in
    omega arith
