-- A box cut in two at a place on an axis: what lies in it meets the one part, or lies in the other.
use Rattle.std.proofs.Common.{◌≡◌, ℤ, pos, ◌+ℤ◌, ◌-ℤ◌, ◌≤ℤ◌, Bool, true, false, ◌&&◌, int_le, refl, sym, ap, ◌∙◌, arith}
use Rattle.std.proofs.lemmas.Int.{ints}
use Rattle.std.proofs.lemmas.Bool.{and_parts, and_from, true≢false}
use Rattle.fixed_box.specs.declared.point.Point.{Point}
use Rattle.fixed_box.specs.Point.{is_at_most}
use Rattle.fixed_box.specs.Bounds.{Bounds, encloses, meets}
use Rattle.fixed_box.proofs.Corners.{axes, all_three, at_most_chain}
use Rattle.grid_cells.specs.declared.block_cut.CutAxis.{CutAxis}
use Rattle.grid_cells.specs.declared.block_cut.CutAxis.TheVariants.{X, Y, Z}
use Rattle.hier_grid.specs.Visits.{IsCutInTwo, coordinate, with_coordinate}

same_le : (x : ℤ) → int_le x x ≡ true
same_le x = grind (arith, ints)

-- where a place isn't reached from the one after it
le_next : (at x : ℤ) → int_le (at +ℤ pos 1) x ≡ false → int_le x at ≡ true
le_next at x f = grind (arith, ints)

le_before : (at x : ℤ) → int_le x (at -ℤ pos 1) ≡ false → int_le at x ≡ true
le_before at x f = grind (arith, ints)

le_after : (at x : ℤ) → x ≤ℤ at → int_le x (at +ℤ pos 1) ≡ true
le_after at x l = grind (arith, ints)

le_less : (at x : ℤ) → at ≤ℤ x → int_le (at -ℤ pos 1) x ≡ true
le_less at x l = grind (arith, ints)

-- the parts up to some point, and from another on
up_cut : (lo hi end from : Point) (near left : Bounds) → near ≡ record { lo = lo; hi = end } → left ≡ record { lo = from; hi = hi }
    → is_at_most lo from ≡ true
    → ((p : Point) → is_at_most lo p ≡ true → is_at_most p hi ≡ true → is_at_most from p ≡ false → is_at_most p end ≡ true)
    → IsCutInTwo (record { lo = lo; hi = hi }) (near, left)
up_cut lo hi end from near left n l in_it other = record {
  near = λ b o e gone.
      let held = and_parts (is_at_most lo b.lo) (is_at_most b.hi hi) e in
      let out : is_at_most from b.lo ≡ false = not_first (is_at_most from b.lo) (is_at_most b.hi hi) held.1 (ap (λ (a : Bounds). encloses a b) (sym l) ∙ gone) in
      ap (λ (a : Bounds). meets a b) n
      ∙ and_from (is_at_most lo b.hi) (is_at_most b.lo end) (at_most_chain lo b.lo b.hi held.0 o)
      (other b.lo held.0 (at_most_chain b.lo b.hi hi o held.1) out);
  within = ap (λ (a : Bounds). encloses (record { lo = lo; hi = hi }) a) l ∙ and_from (is_at_most lo from) (is_at_most hi hi) in_it (all_three hi hi (same_le hi.x) (same_le hi.y) (same_le hi.z));
}
  where
    not_first : (a b : Bool) → b ≡ true → (a && b) ≡ false → a ≡ false
    not_first true b t f = sym t ∙ f
    not_first false b t f = refl

-- the parts from some point on, and up to another
down_cut : (lo hi end from : Point) (near left : Bounds) → near ≡ record { lo = from; hi = hi } → left ≡ record { lo = lo; hi = end }
    → is_at_most end hi ≡ true
    → ((p : Point) → is_at_most lo p ≡ true → is_at_most p hi ≡ true → is_at_most p end ≡ false → is_at_most from p ≡ true)
    → IsCutInTwo (record { lo = lo; hi = hi }) (near, left)
down_cut lo hi end from near left n l in_it other = record {
  near = λ b o e gone.
      let held = and_parts (is_at_most lo b.lo) (is_at_most b.hi hi) e in
      let out : is_at_most b.hi end ≡ false = not_second (is_at_most lo b.lo) (is_at_most b.hi end) held.0 (ap (λ (a : Bounds). encloses a b) (sym l) ∙ gone) in
      ap (λ (a : Bounds). meets a b) n
      ∙ and_from (is_at_most from b.hi) (is_at_most b.lo hi) (other b.hi (at_most_chain lo b.lo b.hi held.0 o) held.1 out)
      (at_most_chain b.lo b.hi hi o held.1);
  within = ap (λ (a : Bounds). encloses (record { lo = lo; hi = hi }) a) l ∙ and_from (is_at_most lo lo) (is_at_most end hi) (all_three lo lo (same_le lo.x) (same_le lo.y) (same_le lo.z)) in_it;
}
  where
    not_second : (a b : Bool) → a ≡ true → (a && b) ≡ false → b ≡ false
    not_second true b t f = f
    not_second false b t f = absurd (true≢false (sym t))

-- ---- a corner at another place on an axis
from_place : (axis : CutAxis) (lo p : Point) (at : ℤ) → is_at_most lo p ≡ true → int_le at (coordinate axis p) ≡ true → is_at_most (with_coordinate axis lo at) p ≡ true
from_place X lo p at o l = let q = axes lo p o in all_three (record lo { x = at }) p l q.y q.z
from_place Y lo p at o l = let q = axes lo p o in all_three (record lo { y = at }) p q.x l q.z
from_place Z lo p at o l = let q = axes lo p o in all_three (record lo { z = at }) p q.x q.y l

to_place : (axis : CutAxis) (p hi : Point) (at : ℤ) → is_at_most p hi ≡ true → int_le (coordinate axis p) at ≡ true → is_at_most p (with_coordinate axis hi at) ≡ true
to_place X p hi at o l = let q = axes p hi o in all_three p (record hi { x = at }) l q.y q.z
to_place Y p hi at o l = let q = axes p hi o in all_three p (record hi { y = at }) q.x l q.z
to_place Z p hi at o l = let q = axes p hi o in all_three p (record hi { z = at }) q.x q.y l

same_most : (p : Point) → is_at_most p p ≡ true
same_most p = all_three p p (same_le p.x) (same_le p.y) (same_le p.z)

unless : (a : Bool) → (a ≡ true → ⊥) → a ≡ false
unless true h = absurd (h refl)
unless false h = refl

-- where a point isn't behind a place on an axis
not_from : (axis : CutAxis) (lo p : Point) (at : ℤ) → is_at_most lo p ≡ true → is_at_most (with_coordinate axis lo at) p ≡ false
    → int_le at (coordinate axis p) ≡ false
not_from axis lo p at o out =
    unless (int_le at (coordinate axis p)) (λ t. true≢false (sym (from_place axis lo p at o t) ∙ out))

not_to : (axis : CutAxis) (p hi : Point) (at : ℤ) → is_at_most p hi ≡ true → is_at_most p (with_coordinate axis hi at) ≡ false
    → int_le (coordinate axis p) at ≡ false
not_to axis p hi at o out =
    unless (int_le (coordinate axis p) at) (λ t. true≢false (sym (to_place axis p hi at o t) ∙ out))

pub cut_up : (axis : CutAxis) (lo hi end from : Point) (at : ℤ) (near left : Bounds) → coordinate axis lo ≤ℤ at
    → end ≡ with_coordinate axis hi at → from ≡ with_coordinate axis lo (at +ℤ pos 1)
    → near ≡ record { lo = lo; hi = end } → left ≡ record { lo = from; hi = hi } → IsCutInTwo (record { lo = lo; hi = hi }) (near, left)
cut_up axis lo hi end from at near left l e f n m =
    up_cut lo hi end from near left n m
    (ap (is_at_most lo) f ∙ up_from axis lo at l)
    (λ p above below out.
    ap (is_at_most p) e ∙ to_place axis p hi at below (le_next at (coordinate axis p)
    (not_from axis lo p (at +ℤ pos 1) above (sym (ap (λ (s : Point). is_at_most s p) f) ∙ out))))
  where
    up_from : (axis : CutAxis) (lo : Point) (at : ℤ) → coordinate axis lo ≤ℤ at → is_at_most lo (with_coordinate axis lo (at +ℤ pos 1)) ≡ true
    up_from axis lo at l = to_place axis lo lo (at +ℤ pos 1) (same_most lo) (le_after at (coordinate axis lo) l)

pub cut_down : (axis : CutAxis) (lo hi end from : Point) (at : ℤ) (near left : Bounds) → at ≤ℤ coordinate axis hi
    → from ≡ with_coordinate axis lo at → end ≡ with_coordinate axis hi (at -ℤ pos 1)
    → near ≡ record { lo = from; hi = hi } → left ≡ record { lo = lo; hi = end } → IsCutInTwo (record { lo = lo; hi = hi }) (near, left)
cut_down axis lo hi end from at near left l e f n m =
    down_cut lo hi end from near left n m
    (ap (λ (s : Point). is_at_most s hi) f ∙ down_to axis hi at l)
    (λ p above below out.
    ap (λ (s : Point). is_at_most s p) e ∙ from_place axis lo p at above (le_before at (coordinate axis p)
    (not_to axis p hi (at -ℤ pos 1) below (sym (ap (is_at_most p) f) ∙ out))))
  where
    down_to : (axis : CutAxis) (hi : Point) (at : ℤ) → at ≤ℤ coordinate axis hi → is_at_most (with_coordinate axis hi (at -ℤ pos 1)) hi ≡ true
    down_to axis hi at l = from_place axis hi hi (at -ℤ pos 1) (same_most hi) (le_less at (coordinate axis hi) l)
