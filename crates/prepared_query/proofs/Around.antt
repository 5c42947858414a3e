-- A box meets the least one around a line where the line comes to each slab by its end.
use Rattle.std.proofs.Common.{◌≡◌, sym, ◌∙◌, ℕ, Bool, true, false, ◌&&◌, ◌||◌, zero, suc, ℤ, pos, negsuc, neg_ℤ, ◌+ℤ◌, ◌-ℤ◌, ◌≤ℤ◌, int_le, int_lt, arith}
use Rattle.std.proofs.lemmas.Int.{ints, clamps}
use Rattle.std.specs.Int.{int_min, int_max, saturate_signed, w32}
use Rattle.ray_slabs.specs.Mirrored.{MirroredSlab, mirrored, is_ahead, is_on_way}
use Rattle.ray_slabs.specs.FirstLaws.{test_of_lt}
use Rattle.ray_slabs.specs.ProductLaws.{same_le}
use Rattle.fixed_box.proofs.Bools.{same_bool, and_comm}
use Rattle.fixed_box.proofs.Numbers.{le_of_test, test_of_le, stopped_low, stopped_high}
use Rattle.prepared_query.specs.Prepared.{end_on}

-- The line comes to the slab by its end, if it has one.
abbrev pub meets_slab : Bool → MirroredSlab → Bool
meets_slab true a = is_on_way a
meets_slab false a = is_ahead a

-- the interval between the start and the end meets that between the faces
abbrev pub is_by : ℤ → ℤ → ℤ → ℤ → Bool
is_by from end lo hi = int_le (int_min from end) hi && int_le lo (int_max from end)

rising : (from end lo hi : ℤ) → from ≤ℤ end → is_by from end lo hi ≡ (int_le from hi && int_le lo end)
rising from end lo hi h =
    let least : int_min from end ≡ from = omega (arith, ints, clamps) in
    let greatest : int_max from end ≡ end = omega (arith, ints, clamps) in
    λ i. int_le (least i) hi && int_le lo (greatest i)

falling : (from end lo hi : ℤ) → end ≤ℤ from → is_by from end lo hi ≡ (int_le lo from && int_le end hi)
falling from end lo hi h =
    let least : int_min from end ≡ end = omega (arith, ints, clamps) in
    let greatest : int_max from end ≡ from = omega (arith, ints, clamps) in
    (λ i. int_le (least i) hi && int_le lo (greatest i)) ∙ and_comm (int_le end hi) (int_le lo from)

-- by differences from the start
past : (from hi : ℤ) → int_le from hi ≡ int_le (pos 0) (hi -ℤ from)
past from hi = same_le from hi (pos 0) (hi -ℤ from) (omega (arith, ints))

short : (lo from : ℤ) → int_le lo from ≡ int_le (lo -ℤ from) (pos 0)
short lo from = same_le lo from (lo -ℤ from) (pos 0) (omega (arith, ints))

moves : (n : ℕ) → int_lt (pos 0) (pos (suc n)) ≡ true
moves n = test_of_lt (pos 0) (pos (suc n)) (omega (arith, ints))

-- up to a segment's end
pub to_end : (from dir lo : ℤ) → negsuc 2147483647 ≤ℤ (from +ℤ dir) → lo ≤ℤ pos 2147483647
    → int_le lo (saturate_signed w32 (from +ℤ dir)) ≡ int_le (lo -ℤ from) dir
to_end from dir lo low high =
    let end : ℤ = saturate_signed w32 (from +ℤ dir) in
    same_bool (int_le lo end) (int_le (lo -ℤ from) dir)
    (λ h. test_of_le (lo -ℤ from) dir (omega (arith, ints, le_of_test lo end h, stopped_low (from +ℤ dir) (from +ℤ dir) (omega (arith, ints)) low)))
    (λ h. test_of_le lo end (stopped_high (from +ℤ dir) lo (omega (arith, ints, le_of_test (lo -ℤ from) dir h)) high))

pub down_to_end : (from dir hi : ℤ) → (from +ℤ dir) ≤ℤ pos 2147483647 → negsuc 2147483647 ≤ℤ hi
    → int_le (saturate_signed w32 (from +ℤ dir)) hi ≡ int_le (from -ℤ hi) (neg_ℤ dir)
down_to_end from dir hi high low =
    let end : ℤ = saturate_signed w32 (from +ℤ dir) in
    same_bool (int_le end hi) (int_le (from -ℤ hi) (neg_ℤ dir))
    (λ h. test_of_le (from -ℤ hi) (neg_ℤ dir)
    (omega (arith, ints, le_of_test end hi h, stopped_high (from +ℤ dir) (from +ℤ dir) (omega (arith, ints)) high)))
    (λ h. test_of_le end hi (stopped_low (from +ℤ dir) hi (omega (arith, ints, le_of_test (from -ℤ hi) (neg_ℤ dir) h)) low))

pub met : (ends : Bool) (from dir lo hi : ℤ) → negsuc 2147483647 ≤ℤ from → from ≤ℤ pos 2147483647 → lo ≤ℤ pos 2147483647 → negsuc 2147483647 ≤ℤ hi
    → is_by from (end_on ends from dir) lo hi ≡ meets_slab ends (mirrored (record { from = from; dir = dir; lo = lo; hi = hi }))
met false from (pos zero) lo hi fl fh lh hl = rising from from lo hi (omega (arith, ints)) ∙ (λ i. past from hi i && short lo from i)
met false from (pos (suc n)) lo hi fl fh lh hl =
    rising from (pos 2147483647) lo hi fh
    ∙ (λ i. past from hi i && (test_of_le lo (pos 2147483647) lh ∙ sym (λ i. moves n i || int_le (lo -ℤ from) (pos 0))) i)
met false from (negsuc n) lo hi fl fh lh hl =
    falling from (negsuc 2147483647) lo hi fl
    ∙ (λ i. past lo from i && (test_of_le (negsuc 2147483647) hi hl ∙ sym (λ i. moves n i || int_le (from -ℤ hi) (pos 0))) i)
met true from (pos n) lo hi fl fh lh hl =
    rising from (saturate_signed w32 (from +ℤ pos n)) lo hi (stopped_high (from +ℤ pos n) from (omega (arith, ints)) fh)
    ∙ (λ i. past from hi i && to_end from (pos n) lo (omega (arith, ints)) lh i)
met true from (negsuc n) lo hi fl fh lh hl =
    falling from (saturate_signed w32 (from +ℤ negsuc n)) lo hi (stopped_low (from +ℤ negsuc n) from (omega (arith, ints)) fl)
    ∙ (λ i. past lo from i && down_to_end from (negsuc n) hi (omega (arith, ints)) hl i)
