-- Both words have four digits.
use Rattle.std.proofs.Common.{◌≡◌, ◌≤◌, ◌+◌, ◌*◌, [], get_or, length, ap, sym, ◌∙◌, refl, arith, rules}
use Rattle.std.specs.Char.{is_digit, digit_value}
use Rattle.std.specs.List.{list_all}
use Rattle.std.specs.Str.Parse.{digits_value}
use Rattle.number_front.specs.Fronts.{AreHexadecimal}
use Rattle.number_front.proofs.PrintedWords.{AreTextBytes, bytes_from, front_bytes}
use Rattle.number_front.proofs.HexadecimalWords.{four_more}
use Rattle.number_front.proofs.hexadecimal_ahead.eight_hexadecimal_ahead.Goals as goal

pub returns-clause-value : goal.returns-clause-value
returns-clause-value c =
    let text = c.args.text.now in
    let bytes : AreTextBytes text = search rules in
    let within : 8 ≤ length text = search rules in
    let h : AreHexadecimal (get_or text 0 0) (get_or text 1 0) (get_or text 2 0) (get_or text 3 0) c.in_ok-high.high =
    c.in_ok-high.ensures.digits _ _ _ _ (bytes 0, bytes 1, bytes 2, bytes 3) c.word_at.ensures in
    let l : AreHexadecimal (get_or text 4 0) (get_or text 5 0) (get_or text 6 0) (get_or text 7 0) c.in_ok-low.low =
    c.in_ok-low.ensures.digits _ _ _ _ (bytes 4, bytes 5, bytes 6, bytes 7) c.word_at-2.ensures in
    let front : digits_value 16 (bytes_from text 0 4)
    ≡ ((digit_value (get_or text 0 0) * 16 + digit_value (get_or text 1 0)) * 16 + digit_value (get_or text 2 0)) * 16 + digit_value (get_or text 3 0) =
    (let e : (((0 * 16 + digit_value (get_or text 0 0)) * 16 + digit_value (get_or text 1 0)) * 16 + digit_value (get_or text 2 0)) * 16
    + digit_value (get_or text 3 0)
    ≡ ((digit_value (get_or text 0 0) * 16 + digit_value (get_or text 1 0)) * 16 + digit_value (get_or text 2 0)) * 16 + digit_value (get_or text 3 0) =
    omega arith in e) in
    let all : c.in_ok-high.high * 65536 + c.in_ok-low.low
    ≡ (((digits_value 16 (bytes_from text 0 4) * 16 + digit_value (get_or text 4 0)) * 16 + digit_value (get_or text 5 0)) * 16
    + digit_value (get_or text 6 0)) * 16 + digit_value (get_or text 7 0) = omega (arith, h.value, l.value, front) in
    all ∙ ap (digits_value 16) (sym (front_bytes 8 text within))

pub returns-clause-digits : goal.returns-clause-digits
returns-clause-digits c =
    let text = c.args.text.now in
    let bytes : AreTextBytes text = search rules in
    let within : 8 ≤ length text = search rules in
    let h : AreHexadecimal (get_or text 0 0) (get_or text 1 0) (get_or text 2 0) (get_or text 3 0) c.in_ok-high.high =
    c.in_ok-high.ensures.digits _ _ _ _ (bytes 0, bytes 1, bytes 2, bytes 3) c.word_at.ensures in
    let l : AreHexadecimal (get_or text 4 0) (get_or text 5 0) (get_or text 6 0) (get_or text 7 0) c.in_ok-low.low =
    c.in_ok-low.ensures.digits _ _ _ _ (bytes 4, bytes 5, bytes 6, bytes 7) c.word_at-2.ensures in
    ap (list_all (λ b. is_digit b 16)) (front_bytes 8 text within) ∙ four_more _ _ _ _ _ (bytes_from text 4 4) h (four_more _ _ _ _ _ [] l refl)
