-- The digits before the colon and behind it are the first word.
use Rattle.std.proofs.Common.{◌≡◌, ◌≤◌, ◌-◌, ◌+◌, length, take, drop, get_or, ap, sym, ◌∙◌, refl, arith, rules, length-drop}
use Rattle.std.proofs.lemmas.List.{take_all, get_or-drop, drop-drop}
use Rattle.scene_words.proofs.WordFronts.{handle_front}
use Rattle.scene_words.proofs.one_pass_fields.short_handle.Goals as goal

pub returns : goal.returns
returns c =
    let line = c.args.line.now in
    let w = c.in_ok-slot.slot_len in
    let f = c.in_ok-generation.len in
    let digits = c.split_at.result.1.now in
    let h = c.in_ok-slot.ensures in
    let g = c.in_ok-generation.ensures in
    let some : 1 ≤ length (drop w line) = omega (arith, length-drop w line, h.within) in
    let at : w + 0 ≡ w = omega arith in
    let colon : get_or (drop w line) 0 0 ≡ 58 = get_or-drop w line 0 0 ∙ ap (λ i. get_or line i 0) at ∙ h.end in
    let behind : digits ≡ take (length (drop w line) - 1) (drop 1 (drop w line)) =
    c.split_at.ensures.back ∙ sym (drop-drop 1 w line)
    ∙ sym (take_all (length (drop w line) - 1) (drop 1 (drop w line)) (omega (arith, length-drop 1 (drop w line)))) in
    handle_front line (drop w line) digits (drop f digits) c.in_ok-rest.rest.now w f c.in_ok-slot.slot c.in_ok-generation.generation refl some colon behind
    (record { some = h.some; few = omega (arith, h.few); within = omega (arith, h.within); digits = h.digits; value = h.value; small = search rules })
    (record { some = g.some; few = omega (arith, g.few); within = omega (arith, g.within); digits = g.digits; value = g.value; small = search rules })
    refl c.in_ok-rest.ensures.end c.in_ok-rest.ensures.words
