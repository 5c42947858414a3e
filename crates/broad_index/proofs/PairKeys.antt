-- Keys of pairs rise as pairs do.
use Rattle.std.proofs.Common.{◌≡◌, ℕ, ◌+◌, ◌*◌, ◌<◌, sym, refl, arith}
use Rattle.std.specs.Ordering.{nat_cmp, ordering_then, MatchOrdering}
use Rattle.std.specs.declared.cmp.Ordering.{Ordering}
use Rattle.std.specs.declared.cmp.Ordering.TheVariants.{Less, Equal, Greater}
use Rattle.std.specs.Cmp.{nat_cmp_is, ranked}

pub key_cmp : (a b c d : ℕ) → b < 4294967296 → d < 4294967296
    → nat_cmp (a * 4294967296 + b) (c * 4294967296 + d) ≡ ordering_then (nat_cmp a c) (nat_cmp b d)
key_cmp a b c d small other =
    sym (nat_cmp_is (a * 4294967296 + b) (c * 4294967296 + d) (ordering_then (nat_cmp a c) (nat_cmp b d))
    (first (nat_cmp a c) (ranked a c (nat_cmp a c) refl)))
  where
    second : (s : Ordering) → a ≡ c → MatchOrdering s (b < d) (b ≡ d) (d < b)
        → MatchOrdering s (a * 4294967296 + b < c * 4294967296 + d) (a * 4294967296 + b ≡ c * 4294967296 + d)
        (c * 4294967296 + d < a * 4294967296 + b)
    second Less same h = omega (arith, same, h)
    second Equal same h = omega (arith, same, h)
    second Greater same h = omega (arith, same, h)

    first : (r : Ordering) → MatchOrdering r (a < c) (a ≡ c) (c < a)
        → MatchOrdering (ordering_then r (nat_cmp b d)) (a * 4294967296 + b < c * 4294967296 + d) (a * 4294967296 + b ≡ c * 4294967296 + d)
        (c * 4294967296 + d < a * 4294967296 + b)
    first Less h = omega (arith, h, small)
    first Equal h = second (nat_cmp b d) h (ranked b d (nat_cmp b d) refl)
    first Greater h = omega (arith, h, other)
