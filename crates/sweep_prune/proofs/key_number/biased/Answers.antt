-- A value of 32 bits, counted from the least one, is no less than 0 and below 2 ^ 32.
use Rattle.std.proofs.Common.{◌≡◌, ◌<◌, ℤ, pos, negsuc, ◌+ℤ◌, arith, w32, w64}
use Rattle.std.specs.Prelude.{FitsSigned, unsigned_abs}
use Rattle.std.proofs.lemmas.Int.{ints}
use mir.Val.{to_z, of_z}
use Rattle.sweep_prune.specs.KeyNumbers.{biased, IsInRange}
use Rattle.sweep_prune.proofs.key_number.biased.Goals as goal

in_range : (z : ℤ) → FitsSigned w32 z → IsInRange z
in_range (pos n) h = omega (arith, ints)
in_range (negsuc n) h = omega (arith, ints)

pub returns-clause-range : goal.returns-clause-range
returns-clause-range c = in_range c.args.value c.ranges.value

abs_biased : (z w : ℤ) → FitsSigned w32 z → w ≡ z +ℤ pos 2147483648 → unsigned_abs w ≡ biased z
abs_biased (pos n) w h e = omega (arith, ints)
abs_biased (negsuc n) w h e = omega (arith, ints)

biased_small : (z : ℤ) → IsInRange z → biased z < 4294967296
biased_small (pos n) h = omega arith
biased_small (negsuc n) h = omega arith

sum_is : (c : goal.After-from) → to_z w64 (of_z w64 (to_z w64 (of_z w64 c.from.result) +ℤ pos 2147483648)) ≡ c.args.value +ℤ pos 2147483648
sum_is c = let f = c.ranges.value in omega (arith, ints, c.from.ensures, f)

pub returns-clause-value : goal.returns-clause-value
returns-clause-value c = abs_biased c.args.value _ c.ranges.value (sum_is c)

pub returns-clause-small : goal.returns-clause-small
returns-clause-small c = rw (abs_biased c.args.value _ c.ranges.value (sum_is c)) (biased_small c.args.value (in_range c.args.value c.ranges.value))
