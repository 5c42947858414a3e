-- Definitions: the order of pairs.
use Rattle.std.specs.Ordering.{nat_cmp, on, then_cmp}
use Rattle.std.specs.declared.cmp.Ordering.{Ordering}
use Rattle.broad_index.specs.declared.pair.Pair.{Pair}

-- by a and then by b
abbrev pub pair_cmp : Pair → Pair → Ordering
pair_cmp = then_cmp (on (λ p. p.a) nat_cmp) (on (λ p. p.b) nat_cmp)
