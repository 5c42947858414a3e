-- Where the slots of a row of cells stand in a list of slots by bucket.
use Rattle.std.proofs.Common.{◌≡◌, ℕ, suc, ◌+◌, ◌-◌, ◌*◌, ◌%◌, ◌<◌, ◌≤◌, ◌⊎◌, length, get_or, sym, subst, arith, inl, inr}
use Rattle.std.proofs.Common.{w32, of_z, FitsSigned}
use Rattle.std.specs.Prelude.{ℤ, pos, negsuc, ◌+ℤ◌, ◌≤ℤ◌, ◌<ℤ◌}
use Rattle.std.proofs.lemmas.Bool.{cases_lt}
use Rattle.std.proofs.lemmas.Int.{ints}
use Rattle.std.proofs.lemmas.List.{get_or_read}
use Rattle.cell_table.specs.declared.TheConstants.{BUCKETS}
use Rattle.cell_table.specs.declared.cell_key.CellKey.{CellKey}
use Rattle.cell_table.specs.declared.row_places.RowPlaces.{RowPlaces}
use Rattle.cell_table.specs.Cells.{bucket_of}
use Rattle.cell_table.specs.Kept.{AreStarts}
use Rattle.cell_table.specs.Listed.{HasRow, Listed, Stands, StandsIn}
use Rattle.cell_table.proofs.KeptLemmas.{bucket_below}

-- ---- neighbouring cells have neighbouring buckets
-- a sum goes on by i, and may wrap at 32 bits
abbrev GoesOn : ℕ → ℕ → ℕ → Type 0
GoesOn m n i = (n ≡ m + i) ⊎ (n + 4294967296 ≡ m + i)

-- a place that is not before another, and their bits
record Along (a b : ℤ) : Type 0 where
  pub by : ℕ
  pub sum : b ≡ (a +ℤ pos by)
  pub bits : GoesOn (of_z w32 a) (of_z w32 b) by

along : (a b : ℤ) → FitsSigned w32 a → FitsSigned w32 b → a ≤ℤ b → Along a b
along (pos m) (pos n) fa fb le = record { by = n - m; sum = grind (arith, ints); bits = inl (omega (arith, ints, le)) }
along (pos m) (negsuc n) fa fb le = absurd (grind (arith, ints))
along (negsuc m) (pos n) fa fb le = record { by = n + suc m; sum = grind (arith, ints); bits = inr (omega (arith, ints, fa.sfits)) }
along (negsuc m) (negsuc n) fa fb le = record { by = m - n; sum = grind (arith, ints); bits = inl (omega (arith, ints, le, fa.sfits)) }

mod_near : (m n i : ℕ) → i < 16384 → GoesOn m n i → (n % 16384 ≡ m % 16384 + i) ⊎ (n % 16384 + 16384 ≡ m % 16384 + i)
mod_near m n i lt (inl h) = elim (cases_lt (m % 16384 + i) 16384) as (λ _. (n % 16384 ≡ m % 16384 + i) ⊎ (n % 16384 + 16384 ≡ m % 16384 + i)) [
  | inl few ↦ inl (omega arith)
  | inr many ↦ inr (omega arith)
]
mod_near m n i lt (inr h) = elim (cases_lt (m % 16384 + i) 16384) as (λ _. (n % 16384 ≡ m % 16384 + i) ⊎ (n % 16384 + 16384 ≡ m % 16384 + i)) [
  | inl few ↦ inl (omega arith)
  | inr many ↦ inr (omega arith)
]

-- A bucket comes fewer than n after another, and after the last one comes the first.
pub record Near (first b n : ℕ) : Type 0 where
  pub by : ℕ
  pub few : by < n
  pub bucket : (b ≡ first + by) ⊎ (b + BUCKETS ≡ first + by)

sum_on : (x y z w l i : ℕ) → GoesOn z w i → GoesOn (x * 7539 + y * 2395 + z + l * 5003) (x * 7539 + y * 2395 + w + l * 5003) i
sum_on x y z w l i (inl h) = inl (omega (arith, h))
sum_on x y z w l i (inr h) = inr (omega (arith, h))

near : (key : CellKey) (z end : ℤ) (n first : ℕ) → first ≡ bucket_of key → FitsSigned w32 key.z → FitsSigned w32 end → key.z ≤ℤ z → z <ℤ end
    → end ≤ℤ (key.z +ℤ pos n) → n < BUCKETS → Near first (bucket_of (record key { z = z })) n
near key z end n first is fk fe lo hi le few =
    let fz : FitsSigned w32 z = grind (arith, ints) in
    let a = along key.z z fk fz lo in
    let sum = a.sum in
    let small : a.by < n = grind (arith, ints) in
    let b = bucket_of (record key { z = z }) in
    record {
      by = a.by;
      few = small;
      bucket = subst (λ f. (b ≡ f + a.by) ⊎ (b + BUCKETS ≡ f + a.by)) (sym is)
          (mod_near _ _ a.by (omega (arith, small, few)) (sum_on (of_z w32 key.x) (of_z w32 key.y) (of_z w32 key.z) (of_z w32 z) key.level a.by a.bits));
    }

-- ---- so they stand in one stretch, or in two
pub in_all : (list : Listed) (key : CellKey) (end : ℤ) (n : ℕ) → n ≡ length list.slots → HasRow list key end (record { from = 0; to = n; wrapped = 0 })
in_all list key end n is cells z slot lists lo hi h =
    let s = lists.whole slot (record key { z = z }) h in
    let i = s.inside in
    record { place = s.place; inside = inl (omega arith, omega (arith, is, i)); is = s.is }

-- the same of a list that is seen as this one
pub seen : (list now : Listed) (key : CellKey) (end : ℤ) (row : RowPlaces) → list ≡ now → HasRow list key end row → HasRow now key end row
seen list now key end row is h = subst (λ l. HasRow l key end row) is h

module _ (list : Listed) (starts : AreStarts list.starts list.slots) (filled : BUCKETS < length list.starts) where
  abbrev start : ℕ → ℕ
  start b = get_or list.starts b 0

  -- a slot of a bucket stands in each stretch that has the bucket's
  wider : (b first after slot : ℕ) → Stands list.slots (start b) (start (b + 1)) slot → first ≤ b → b < after → after ≤ BUCKETS
      → Stands list.slots (start first) (start after) slot
  wider b first after slot s lo hi le =
      let l = s.low in
      let h = s.high in
      let below = starts.rising first b lo (omega (arith, hi, le, filled)) in
      let above = starts.rising (b + 1) after (omega (arith, hi)) (omega (arith, le, filled)) in
      record { place = s.place; low = omega (arith, l, below); high = omega (arith, h, above); inside = s.inside; is = s.is }

  -- what is read at a bucket
  start_read : (b place : ℕ) → b ≤ BUCKETS → place ≡ get_or list.starts b place → place ≡ start b
  start_read b place le read = get_or_read list.starts b place (omega (arith, le, filled)) read 0

  module _ (key : CellKey) (end : ℤ) (n : ℕ) (fits : FitsSigned w32 key.z) (end_fits : FitsSigned w32 end) (below : end ≤ℤ (key.z +ℤ pos n))
      (few : n < BUCKETS) (first from to : ℕ) (first_is : first ≡ bucket_of key) (from_read : from ≡ get_or list.starts first from) where
    first_few : first < BUCKETS
    first_few = omega (arith, first_is, bucket_below key)

    from_is : from ≡ start first
    from_is = start_read first from (omega (arith, first_few)) from_read

    -- the bucket of a cell of the row
    met : (z : ℤ) → key.z ≤ℤ z → z <ℤ end → Near first (bucket_of (record key { z = z })) n
    met z lo hi = near key z end n first first_is fits end_fits lo hi below few

    pub in_one : first + n ≤ BUCKETS → to ≡ get_or list.starts (first + n) to
        → HasRow list key end (record { from = from; to = to; wrapped = 0 })
    in_one le to_read cells z slot lists lo hi h =
        let cell = met z lo hi in
        let b = bucket_of (record key { z = z }) in
        let to_is = start_read (first + n) to le to_read in
        elim cell.bucket as (λ _. StandsIn list.slots (record { from = from; to = to; wrapped = 0 }) slot) [
          | inl e ↦
              let s = wider b first (first + n) slot (lists.whole slot (record key { z = z }) h) (omega (arith, e)) (omega (arith, e, cell.few)) le in
              let l = s.low in
              let u = s.high in
              record { place = s.place; inside = inl (omega (arith, l, from_is), omega (arith, u, to_is)); is = s.is }
          | inr e ↦ absurd (omega (arith, e, cell.few, le))
        ]

    pub in_two : (wrapped after : ℕ) → BUCKETS + after ≡ first + n → to ≡ length list.slots → wrapped ≡ get_or list.starts after wrapped
        → HasRow list key end (record { from = from; to = to; wrapped = wrapped })
    in_two wrapped after sum to_is wrapped_read cells z slot lists lo hi h =
        let cell = met z lo hi in
        let b = bucket_of (record key { z = z }) in
        let small : after ≤ BUCKETS = omega (arith, sum, first_few, few) in
        let wrapped_is = start_read after wrapped small wrapped_read in
        let own = lists.whole slot (record key { z = z }) h in
        elim cell.bucket as (λ _. StandsIn list.slots (record { from = from; to = to; wrapped = wrapped }) slot) [
          | inl e ↦
              let s = wider b first BUCKETS slot own (omega (arith, e)) (bucket_below (record key { z = z })) (omega arith) in
              let l = s.low in
              let u = s.inside in
              record { place = s.place; inside = inl (omega (arith, l, from_is), omega (arith, u, to_is)); is = s.is }
          | inr e ↦
              let s = wider b 0 after slot own (omega arith) (omega (arith, e, cell.few, sum)) small in
              let u = s.high in
              record { place = s.place; inside = inr (omega (arith, u, wrapped_is)); is = s.is }
        ]
