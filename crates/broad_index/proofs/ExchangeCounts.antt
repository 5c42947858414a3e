-- How many exchanges one change can make.
use Rattle.std.proofs.Common.{ℕ, ℤ, ◌+◌, ◌*◌, ◌≤◌, Bool, not, List, [], ◌∷◌, length, arith, Option, Some, None, nat_eq}
use Rattle.std.specs.List.{count_by}
use Rattle.std.specs.Ordering.{nat_cmp}
use Rattle.std.specs.FinMap.{FinMap, entries, get}
use Rattle.std.proofs.lemmas.List.Sums.{count_by-le-length}
use Rattle.fixed_box.specs.Bounds.{Bounds}
use Rattle.fixed_box.specs.declared.point.Point.{Point}
use Rattle.fixed_box.specs.declared.TheConstants.{SLOTS}
use Rattle.broad_index.specs.Exchanges.{Key, key_lt, is_between, min_key, max_key, keys, others, over_axes, passed_by_add, passed_from, passed_by_shift}
use Rattle.fixed_box.proofs.Lists.{kept_le}

others_le : (slot : ℕ) (es : List (ℕ × Bounds)) → length (others slot es) ≤ length es
others_le slot es = kept_le (λ e. not (nat_eq e.0 slot)) es

-- two endpoints for each box
keys_few : (axis : Point → ℤ) (es : List (ℕ × Bounds)) → length (keys axis es) ≤ 2 * length es
keys_few axis [] = omega arith
keys_few axis (e ∷ es) = omega (arith, keys_few axis es)

counted_keys : (p : Key → Bool) (axis : Point → ℤ) (slot : ℕ) (es : List (ℕ × Bounds)) → length es ≤ SLOTS → count_by p (keys axis (others slot es)) ≤ 2 * SLOTS
counted_keys p axis slot es le = omega (arith, count_by-le-length p (keys axis (others slot es)), keys_few axis (others slot es), others_le slot es)

-- over three axes, two walks of so many
six_walks : (f : (Point → ℤ) → ℕ) (g : (Point → ℤ) → ℕ) → ((axis : Point → ℤ) → f axis ≤ 2 * SLOTS) → ((axis : Point → ℤ) → g axis ≤ 2 * SLOTS)
    → over_axes (λ axis. f axis + g axis) ≤ 12 * SLOTS
six_walks f g few_f few_g = omega (arith, few_f (λ p. p.x), few_f (λ p. p.y), few_f (λ p. p.z), few_g (λ p. p.x), few_g (λ p. p.y), few_g (λ p. p.z))

pub added_few : (bodies : FinMap nat_cmp Bounds) (slot : ℕ) (body : Bounds) → length (entries bodies) ≤ SLOTS → passed_by_add bodies slot body ≤ 12 * SLOTS
added_few bodies slot body le =
    six_walks (λ axis. count_by (key_lt (min_key axis slot body)) (keys axis (others slot (entries bodies))))
    (λ axis. count_by (key_lt (max_key axis slot body)) (keys axis (others slot (entries bodies))))
    (λ axis. counted_keys (key_lt (min_key axis slot body)) axis slot (entries bodies) le) (λ axis. counted_keys (key_lt (max_key axis slot body)) axis slot
    (entries bodies) le)

moved_few : (old : Option Bounds) (es : List (ℕ × Bounds)) (slot : ℕ) (new : Bounds) → length es ≤ SLOTS → passed_from old es slot new ≤ 12 * SLOTS
moved_few None es slot new le = omega arith
moved_few (Some old) es slot new le =
    six_walks (λ axis. count_by (is_between (min_key axis slot old) (min_key axis slot new)) (keys axis (others slot es)))
    (λ axis. count_by (is_between (max_key axis slot old) (max_key axis slot new)) (keys axis (others slot es)))
    (λ axis. counted_keys (is_between (min_key axis slot old) (min_key axis slot new)) axis slot es le)
    (λ axis. counted_keys (is_between (max_key axis slot old) (max_key axis slot new)) axis slot es le)

pub shifted_few : (bodies : FinMap nat_cmp Bounds) (slot : ℕ) (body : Bounds) → length (entries bodies) ≤ SLOTS → passed_by_shift bodies slot body ≤ 12 * SLOTS
shifted_few bodies slot body le = moved_few (get bodies slot) (entries bodies) slot body le
