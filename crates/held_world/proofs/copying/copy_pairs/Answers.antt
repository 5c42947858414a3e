-- One item more is copied.
use Rattle.std.proofs.Common.{◌≡◌, ◌∷◌, ◌<◌, length, drop, rules, arith}
use Rattle.held_world.specs.Plain.{pair_out}
use Rattle.held_world.proofs.RoomFilled.{copying_goes_on}
use Rattle.held_world.proofs.copying.copy_pairs.Goals as goal

pub copies-preserved : goal.copies-preserved
copies-preserved c =
    let first : c.copies.rest.now ≡ c.in-Some.next.now ∷ c.in-Some.more.now = search rules in
    let fits : c.copies.count < length c.args.out.now = omega arith in
    copying_goes_on pair_out (drop c.args.from c.args.items.now) c.copies.rest.now c.in-Some.more.now c.in-Some.next.now c.pair_out.result c.copies.count
    c.args.out.now c.copies.out c.copies.invariant first c.pair_out.ensures fits
