-- A digit more is read, and the value goes on by it.
use Rattle.std.proofs.Common.{get_or, refl, sym, ◌∙◌}
use Rattle.scene_drill.proofs.Digits.{one_more}
use Rattle.scene_drill.proofs.number.number.Goals as goal

pub digits-preserved : goal.digits-preserved
digits-preserved c =
    let ascii = sym c.is_ascii_digit.ensures.value ∙ c.if-not-is_ascii_digit.false in
    record {
      digits = one_more c.digits.value c.from.result (get_or c.args.word.now c.digits.byte-index 0) c.digits.byte-index
          c.args.word.now c.digits.invariant.digits c.digits-test.true refl ascii c.from.ensures;
    }
