-- The digits so far, and the number that they form.
use Rattle.std.proofs.Common.{◌-◌, ◌≡◌, ◌^◌, ◌<◌, ◌≤◌, true, take}
use Rattle.std.specs.Str.{all_ascii_digits}
use Rattle.std.specs.Str.Parse.{digits_value}
use Rattle.number_front.proofs.numbers_ahead.many_digits.Given as goal

abbrev pub invariant-digits : goal.invariant-digits
invariant-digits l = record {
  value : l.number ≡ digits_value 10 (take l.len l.text);
  digits : all_ascii_digits (take l.len l.text) ≡ true;
  within : l.len ≤ l.most;
  small : l.number < 10 ^ l.len;
}

abbrev pub decreases-digits : goal.decreases-digits
decreases-digits l = l.most - l.len
