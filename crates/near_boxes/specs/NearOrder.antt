-- Serves proofs alone: the order of near boxes is total, members that tie are one, and those within a distance are bounded in it.
use Rattle.std.proofs.Common.{◌≡◌, ℕ, ◌<◌, ◌≤◌, true, false, nat_le, List, refl, ap, arith}
use Rattle.std.specs.Ordering.{nat_cmp, is_lt, ordering_then}
use Rattle.std.specs.declared.cmp.Ordering.TheVariants.{Less, Equal, Greater}
use Rattle.std.specs.Cmp.{IsTotalOrder, ranked}
use Rattle.std.proofs.lemmas.Bool.{true≢false}
use Rattle.std.proofs.lemmas.Bool.Decides.{nat_tests}
use Rattle.std.proofs.lemmas.Cmp.{nat_cmp_total, on_total, then_total}
use Rattle.std.proofs.lemmas.Map.Lookups.{exact_pairs, exact_unsigned}
use Rattle.ordered_lists.specs.Ordered.{TiesAreOne}
use Rattle.near_boxes.specs.declared.near.Near.{Near}
use Rattle.near_boxes.specs.Nearest.{near_cmp}
use Rattle.near_boxes.specs.Within.{is_within}

pub near_total : IsTotalOrder near_cmp
near_total = then_total (on_total (λ n. n.square) nat_cmp_total) (on_total (λ n. n.slot) nat_cmp_total)

pub tied : (m n : Near) → near_cmp m n ≡ Equal → m ≡ n
tied m n h =
    ap (λ (p : ℕ × ℕ). record { slot = p.1; square = p.0 })
    (exact_pairs nat_cmp nat_cmp exact_unsigned exact_unsigned (m.square, m.slot) (n.square, n.slot) h)

pub ties_one : (xs : List Near) → TiesAreOne near_cmp xs
ties_one xs m n _ _ h = tied m n h

pub no_farther : (m n : Near) → is_lt (near_cmp n m) ≡ false → m.square ≤ n.square
no_farther m n h =
    elim (nat_cmp n.square m.square) as
    (λ r. r ≡ nat_cmp n.square m.square → is_lt (ordering_then r (nat_cmp n.slot m.slot)) ≡ false → m.square ≤ n.square) [
      | Less ↦ λ _ g. absurd (true≢false g)
      | Equal ↦ λ e _. let same : n.square ≡ m.square = ranked n.square m.square Equal e in omega arith
      | Greater ↦ λ e _. let more : m.square < n.square = ranked n.square m.square Greater e in omega arith
    ] refl h

still : (a b most : ℕ) → a ≤ b → nat_le b most ≡ true → nat_le a most ≡ true
still a b most le h = grind (arith, nat_tests)

-- What isn't after a member within the distance is within it too.
pub within_bound : (most : ℕ) (m n : Near) → is_lt (near_cmp n m) ≡ false → is_within most n ≡ true → is_within most m ≡ true
within_bound most m n h g = still m.square n.square most (no_farther m n h) g
