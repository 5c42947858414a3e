-- One event more is copied.
use Rattle.std.proofs.Common.{◌≡◌, ◌∷◌, ◌<◌, length, min, drop, rules, arith, refl, ap, ◌∙◌}
use Rattle.std.proofs.lemmas.List.{length-drop}
use Rattle.held_world.specs.Plain.{told_out}
use Rattle.held_world.proofs.RoomFilled.{copying_goes_on, copied_whole, counted_whole}
use Rattle.held_world.proofs.copying.copy_told.Goals as goal

pub copies-preserved : goal.copies-preserved
copies-preserved c =
    let first : c.copies.rest ≡ c.in-Some.next ∷ c.next.new.self = search rules in
    let fits : c.copies.count < length c.args.out.now = omega arith in
    copying_goes_on told_out (drop c.args.from c.args.events) c.copies.rest c.next.new.self c.in-Some.next c.told_out.result c.copies.count
    c.args.out.now c.copies.out c.copies.invariant first c.told_out.ensures fits

pub returns-in_default-clause-copied : goal.returns-in_default-clause-copied
returns-in_default-clause-copied c =
    copied_whole told_out (drop c.args.from c.args.events) c.copies.rest c.copies.count c.args.out.now c.copies.out c.copies.invariant
    (c.in_default.ensures.none refl).0

pub returns-in_default-clause-count : goal.returns-in_default-clause-count
returns-in_default-clause-count c =
    counted_whole told_out (drop c.args.from c.args.events) c.copies.rest c.copies.count c.args.out.now c.copies.out c.copies.invariant
    (c.in_default.ensures.none refl).0
    ∙ ap (λ n. min n (length c.args.out.now)) (length-drop c.args.from c.args.events)
