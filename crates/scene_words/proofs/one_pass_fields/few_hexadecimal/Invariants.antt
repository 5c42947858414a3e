use Rattle.std.proofs.Common.{◌-◌, ◌≡◌, ◌^◌, ◌<◌, ◌≤◌, true, take}
use Rattle.std.specs.Char.{is_digit}
use Rattle.std.specs.List.{list_all}
use Rattle.std.specs.Str.Parse.{digits_value}
use Rattle.scene_words.proofs.one_pass_fields.few_hexadecimal.Given as goal

abbrev pub invariant-digits : goal.invariant-digits
invariant-digits l = record {
  value : l.value ≡ digits_value 16 (take l.len l.line);
  digits : list_all (λ b. is_digit b 16) (take l.len l.line) ≡ true;
  within : l.len ≤ l.most;
  small : l.value < 16 ^ l.len;
}

abbrev pub decreases-digits : goal.decreases-digits
decreases-digits l = l.most - l.len
