-- The digits are the first word, and a mask.
use Rattle.std.proofs.Common.{◌≡◌, length, take, arith, ap, sym, ◌∙◌, length-take, Ok}
use Rattle.scene_words.specs.Values.{mask_of_word}
use Rattle.scene_words.proofs.WordFronts.{first_value, high_hex, mask_value}
use Rattle.scene_words.proofs.one_pass_fields.mask_ahead.Goals as goal

pub returns : goal.returns
returns c =
    let h = c.hexadecimal_ahead-mask.ensures in
    let n = c.hexadecimal_ahead-mask.result.1 in
    let line = c.args.line.now in
    let len : length (take n line) ≡ n = omega (arith, length-take n line, h.within) in
    first_value mask_of_word line c.split_at.result.1.now c.in_ok-rest.rest.now n c.hexadecimal_ahead-mask.result.0 (omega arith) h.within
    (high_hex (take n line) h.digits) c.split_at.ensures.back c.in_ok-rest.ensures.end c.in_ok-rest.ensures.words
    (mask_value (take n line) (omega (arith, len)) (omega (arith, len, h.few)) h.digits ∙ ap Ok (sym h.value))
