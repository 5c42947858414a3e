-- The first level whose cells are longer is the least, since the loop has passed those below it.
use Rattle.std.proofs.Common.{◌*◌, ◌+◌, sym, arith}
use Rattle.std.proofs.lemmas.Nat.{one_shl}
use Rattle.fixed_box.proofs.Levels.{least_level}
use Rattle.fixed_box.proofs.fbox.level_for.Goals as goal

pub returns-then-side-level-clause-value : goal.returns-then-side-level-clause-value
returns-then-side-level-clause-value c =
    let shifted = one_shl (12 + 2 * c.loop-level.level) 32 (omega arith) in
    sym (least_level c.args.side c.loop-level.level (omega arith) (omega (arith, shifted)) c.loop-level.invariant)
