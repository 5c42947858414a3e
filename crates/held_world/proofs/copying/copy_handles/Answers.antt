-- One item more is copied.
use Rattle.std.proofs.Common.{◌≡◌, ◌∷◌, ◌<◌, length, rules, arith}
use Rattle.held_world.specs.Plain.{handle_out}
use Rattle.held_world.proofs.RoomFilled.{copying_goes_on}
use Rattle.held_world.proofs.copying.copy_handles.Goals as goal

pub copies-preserved : goal.copies-preserved
copies-preserved c =
    let first : c.copies.rest.now ≡ c.in-Some.next.now ∷ c.in-Some.more.now = search rules in
    let fits : c.copies.count < length c.args.out.now = omega arith in
    copying_goes_on handle_out c.args.items.now c.copies.rest.now c.in-Some.more.now c.in-Some.next.now c.handle_out.result c.copies.count
    c.args.out.now c.copies.out c.copies.invariant first c.handle_out.ensures.out fits
