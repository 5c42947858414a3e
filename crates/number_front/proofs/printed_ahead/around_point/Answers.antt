-- The digits before the point and behind it form the magnitude.
use Rattle.std.proofs.Common.{◌≡◌, ◌≤◌, ◌<◌, ◌+◌, ◌*◌, ◌%◌, ◌/◌, get_or, subst, ap, arith, rules}
use Rattle.number_front.specs.Fronts.{AreDigits, IsMagnitude, values_of}
use Rattle.number_front.proofs.PrintedWords.{AreTextBytes, number_of, whole_number, fraction_number, printed_front}
use Rattle.number_front.proofs.printed_ahead.around_point.Goals as goal

pub returns : goal.returns
returns c =
    let text = c.args.text.now in
    let k = c.args.len in
    let bytes : AreTextBytes text = search rules in
    let point : get_or text k 0 ≡ 46 = search rules in
    let fifth : k + 5 ≡ k + 1 + 4 = omega arith in
    let tested : (get_or text (k + 5) 0 + 208) % 256 ≤ 9 = search rules in
    let last : (get_or text (k + 1 + 4) 0 + 208) % 256 ≤ 9 = subst (λ i. (get_or text i 0 + 208) % 256 ≤ 9) fifth tested in
    let v : AreDigits c.args.values = search rules in
    let f : AreDigits (values_of c.word_at-fraction.result) = search rules in
    let n = number_of v.a v.b v.c v.d in
    let m = 10 * number_of f.a f.b f.c f.d + (get_or text (k + 1 + 4) 0 + 208) % 256 in
    let is_n : c.number_of-2.result ≡ n = c.number_of-2.ensures.value v.a v.b v.c v.d v.small v.is in
    let is_m : 10 * c.number_of.result + c.from.result ≡ m =
    omega (arith, c.number_of.ensures.value f.a f.b f.c f.d f.small f.is, c.from.ensures, ap (λ i. get_or text i 0) fifth) in
    let whole = whole_number k c.args.values text v bytes c.requires.some c.requires.few c.requires.values in
    let fraction = fraction_number (k + 1) _ text f bytes (ap values_of c.word_at-fraction.ensures) last in
    let small : n ≤ 9999 = omega (arith, v.small) in
    let small_m : m < 100000 = omega (arith, f.small, last) in
    let value : n * 65536 + (m * 131072 + 100000) / 200000 ≡ c.number_of-2.result * 65536 + c.raw_fraction_of_five-raw.result =
    omega (arith, is_n, is_m, c.raw_fraction_of_five-raw.ensures) in
    subst (λ r. IsMagnitude text r (k + 6)) value (printed_front k text n m c.requires.some c.requires.few c.requires.long point whole fraction small small_m)
