-- The digits before the colon and behind it are the first word.
use Rattle.std.proofs.Common.{◌≡◌, get_or, refl, arith, rules}
use Rattle.scene_words.proofs.WordFronts.{handle_front}
use Rattle.scene_words.proofs.one_pass_fields.other_handle.Goals as goal

pub returns : goal.returns
returns c =
    let colon : get_or c.split_at.result.1.now 0 0 ≡ 58 = search rules in
    let h = c.digits_ahead-slot.ensures in
    let g = c.digits_ahead-generation.ensures in
    handle_front c.args.line.now c.split_at.result.1.now _ c.split_at-2.result.1.now c.in_ok-rest.rest.now c.digits_ahead-slot.result.1
    c.digits_ahead-generation.result.1 c.digits_ahead-slot.result.0 c.digits_ahead-generation.result.0 c.split_at.ensures.back c.in-58.len_at_least colon refl
    (record { some = omega arith; few = h.few; within = h.within; digits = h.digits; value = h.value; small = omega arith })
    (record { some = omega arith; few = g.few; within = g.within; digits = g.digits; value = g.value; small = omega arith })
    c.split_at-2.ensures.back c.in_ok-rest.ensures.end c.in_ok-rest.ensures.words
