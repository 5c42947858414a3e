-- The digits before the end form the number.
use Rattle.std.proofs.Common.{◌≤◌, length, ap, sym, ◌∙◌, arith, rules}
use Rattle.std.specs.Str.{all_ascii_digits}
use Rattle.std.specs.Str.Parse.{digits_value}
use Rattle.number_front.specs.Fronts.{AreDigits, aligned}
use Rattle.number_front.proofs.PrintedWords.{AreTextBytes, AreNumber, bytes_from, front_bytes, whole_number}
use Rattle.number_front.proofs.printed_ahead.index_before.Goals as goal

-- the digits, and the number of their values
front : (c : goal.After-number_of) → AreNumber (bytes_from c.args.text.now 0 c.before_end-values.result.1) c.number_of.result
front c =
    let text = c.args.text.now in
    let k = c.before_end-values.result.1 in
    let bytes : AreTextBytes text = search rules in
    let h : AreDigits c.before_end-values.result.0 = search rules in
    let e = c.before_end-values.ensures in
    let number = whole_number k c.before_end-values.result.0 text h bytes e.some e.few (e.values ∙ ap (λ w. aligned w k) c.word_at.ensures) in
    record { digits = number.digits; value = c.number_of.ensures.value h.a h.b h.c h.d h.small h.is ∙ number.value }

inside : (c : goal.After-number_of) → c.before_end-values.result.1 ≤ length c.args.text.now
inside c = let few = c.before_end-values.ensures.few in let long : 5 ≤ length c.args.text.now = search rules in omega (arith, few, long)

pub returns-clause-value : goal.returns-clause-value
returns-clause-value c = (front c).value ∙ ap (digits_value 10) (sym (front_bytes c.before_end-values.result.1 c.args.text.now (inside c)))

pub returns-clause-digits : goal.returns-clause-digits
returns-clause-digits c = ap all_ascii_digits (front_bytes c.before_end-values.result.1 c.args.text.now (inside c)) ∙ (front c).digits
