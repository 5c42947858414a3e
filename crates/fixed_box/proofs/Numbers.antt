-- What several crates' proofs rest on of numbers and their order.
use Rattle.std.proofs.Common.{◌≡◌, ◌≢◌, ◌⊎◌, ℕ, suc, ◌+◌, ◌<◌, ◌≤◌, ◌==◌, true, false, ℤ, pos, negsuc, ◌+ℤ◌, ◌≤ℤ◌, ◌<ℤ◌, int_le, int_eq, nat_lt}
use Rattle.std.proofs.Common.{eqb, refl, sym, arith}
use Rattle.std.proofs.lemmas.Int.{ints}
use Rattle.std.proofs.lemmas.Bool.{eq-eqb}
use Rattle.std.proofs.lemmas.Bool.Decides.{nat_tests}
use Rattle.std.specs.Int.{saturate_signed, w32}
use Rattle.std.specs.Ordering.{nat_cmp, is_lt, is_eq, eq_by_cmp}
use Rattle.std.specs.declared.cmp.Ordering.TheVariants.{Less, Equal, Greater}
use Rattle.std.specs.Cmp.{ranked, nat_cmp_is}

pub eqb_same : (n : ℕ) → eqb n n ≡ true
eqb_same n = grind (arith, nat_tests)

pub eqb_other : (a b : ℕ) → a ≢ b → (a == b) ≡ false
eqb_other a b ne = grind (arith, nat_tests)

pub plus_one : (n : ℕ) → n + 1 ≡ suc n
plus_one n = omega arith

pub eq_le : (k x : ℕ) → k ≡ x → k ≤ x
eq_le k x e = omega arith

pub lt_of : (k x : ℕ) → nat_lt k x ≡ true → k < x
lt_of k x h = grind (arith, nat_tests)

-- a number below the next one is below this one or is it
pub nat_next : (x y : ℕ) → x < y + 1 → (x < y) ⊎ (x ≡ y)
nat_next x y h = grind arith

pub int_next : (z y n : ℤ) → n ≡ (y +ℤ pos 1) → z <ℤ n → (z <ℤ y) ⊎ (z ≡ y)
int_next z y n e lt = grind (arith, ints)

-- how two numbers compare, and what a comparison says
pub less : (x y : ℕ) → x < y → nat_cmp x y ≡ Less
less x y lt = sym (nat_cmp_is x y Less lt)

pub equal : (x y : ℕ) → x ≡ y → nat_cmp x y ≡ Equal
equal x y e = sym (nat_cmp_is x y Equal e)

pub greater : (x y : ℕ) → y < x → nat_cmp x y ≡ Greater
greater x y lt = sym (nat_cmp_is x y Greater lt)

pub lt_from : (x y : ℕ) → is_lt (nat_cmp x y) ≡ true → x < y
lt_from x y h =
    elim (nat_cmp x y) as (λ r. r ≡ nat_cmp x y → is_lt r ≡ true → x < y) [ Less ↦ λ e _. ranked x y Less e | Equal ↦ λ _ h. cc | Greater ↦ λ _ h. cc ] refl h

pub eq_cmp : (k x : ℕ) → eq_by_cmp nat_cmp k x ≡ (k == x)
eq_cmp k x = elim (nat_cmp k x) as (λ r. r ≡ nat_cmp k x → is_eq r ≡ (k == x)) [
  | Less ↦ λ e. let l : k < x = ranked k x Less e in (let d : (k == x) ≡ false = grind (arith, nat_tests) in sym d)
  | Equal ↦ λ e. let l : k ≡ x = ranked k x Equal e in sym (eq-eqb k x l)
  | Greater ↦ λ e. let l : x < k = ranked k x Greater e in (let d : (k == x) ≡ false = grind (arith, nat_tests) in sym d)
] refl

-- tests of whole numbers, and what they say
pub test_of_le : (x y : ℤ) → x ≤ℤ y → int_le x y ≡ true
test_of_le x y h = sym (omega (arith, ints))

pub le_of_test : (x y : ℤ) → int_le x y ≡ true → x ≤ℤ y
le_of_test x y e = omega (arith, ints)

pub same_int : (x y : ℤ) → int_eq x y ≡ true → x ≡ y
same_int x y h = grind (arith, ints)

-- the range of signed numbers of 32 bits
pub at_least : (x : ℤ) → int_le (negsuc 2147483647) x ≡ true → negsuc 2147483647 ≤ℤ x
at_least x h = omega (arith, ints)

pub at_most : (x : ℤ) → int_le x (pos 2147483647) ≡ true → x ≤ℤ pos 2147483647
at_most x h = omega (arith, ints)

-- what is stopped at the ends of 32 bits is bounded by what bounds it there
pub stopped_low : (z m : ℤ) → z ≤ℤ m → negsuc 2147483647 ≤ℤ m → saturate_signed w32 z ≤ℤ m
stopped_low (pos n) m h low = omega (arith, ints)
stopped_low (negsuc n) m h low = omega (arith, ints)

pub stopped_high : (z m : ℤ) → m ≤ℤ z → m ≤ℤ pos 2147483647 → m ≤ℤ saturate_signed w32 z
stopped_high (pos n) m h high = omega (arith, ints)
stopped_high (negsuc n) m h high = omega (arith, ints)
