-- Masks of boxes that pass a test, and the places of their bits.
use Rattle.std.proofs.Common.{◌≡◌, ℕ, zero, suc, ◌+◌, ◌-◌, ◌*◌, ◌/◌, ◌%◌, ◌^◌, ◌<◌, ◌≤◌, ◌==◌, ℤ, Bool, true, false, cond, List, [], ◌∷◌, ◌++◌, length}
use Rattle.std.proofs.Common.{map, filter, take, drop, All, w32, of_z, refl, ap, sym, ◌∙◌, arith, lit<, pow-suc}
use Rattle.std.proofs.Common.{length-take, length-drop}
use Rattle.std.specs.Simd.Lanes.{zip2, mask_l, top}
use Rattle.std.proofs.lemmas.List.{append_assoc, append_cancel_right, drop-drop, length-map, take_all}
use Rattle.std.proofs.lemmas.List.Elements.{All-nil, All-cons, All-weaker}
use Rattle.std.proofs.lemmas.Simd.{mask_l-lt, mask_l-mod}
use Rattle.std.proofs.Math.Nat.{pow-le-pow_right}
use mir.Val.{bool_byte}
use Rattle.fixed_box.specs.Bounds.{Bounds, meets}
use Rattle.lane_boxes.specs.declared.span.Span.{Span}
use Rattle.lane_boxes.specs.Bits.{set_places}
use Rattle.lane_boxes.specs.Places.{IsScanned, placed, places, next_eight}
use Rattle.lane_boxes.specs.Spans.{boxes_of, crosses, lane, x_of, y_of, z_of}
use Rattle.lane_boxes.proofs.BoxLists.{next_meet}
use Rattle.lane_boxes.proofs.Crossing.{both, from_lanes, lane_and, and_lanes, tops}

-- a mask of few truth values is small
pub mask_small : (n : ℕ) (bs : List Bool) → length bs ≤ n → mask_l bs < 2 ^ n
mask_small n bs l =
    let h = mask_l-lt bs in
    let p : 2 ^ length bs ≤ 2 ^ n = pow-le-pow_right {n = 2} (lit< tt) l in
    omega arith

pub bit_small : (b : Bool) → bool_byte b ≤ 1
bit_small true = omega arith
bit_small false = omega arith

eight_long : {X : Type 0} (xs : List X) (test : X → Bool) (at : ℕ) → length (map test (take 8 (drop at xs))) ≤ 8
eight_long xs test at = omega (arith, length-map (take 8 (drop at xs)) test, length-take 8 (drop at xs))

pub eight_small : (test : Bounds → Bool) (at : ℕ) (boxes : List Bounds) → next_eight test at boxes < 2 ^ 8
eight_small test at boxes = mask_small 8 (map test (take 8 (drop at boxes))) (eight_long boxes test at)

three_lanes : (ps qs rs : List Bool)
    → map (top 31) (zip2 lane_and (zip2 lane_and (map (of_z w32) (map lane ps)) (map (of_z w32) (map lane qs))) (map (of_z w32) (map lane rs))) ≡ both
    (both ps qs) rs
three_lanes ps qs rs = rw (from_lanes ps, from_lanes qs, from_lanes rs, and_lanes ps qs, and_lanes (both ps qs) rs) (tops (both (both ps qs) rs))

-- the lanes of three axes make the mask of the boxes
pub mask_is : (b : Bounds) (xs ys zs : List Span) (at : ℕ) (rx ry rz : List ℤ) → rx ≡ map lane (map (crosses (x_of b)) (take 8 (drop at xs)))
    → ry ≡ map lane (map (crosses (y_of b)) (take 8 (drop at ys))) → rz ≡ map lane (map (crosses (z_of b)) (take 8 (drop at zs)))
    → mask_l (map (top 31) (zip2 lane_and (zip2 lane_and (map (of_z w32) rx) (map (of_z w32) ry)) (map (of_z w32) rz))) % 2 ^ 64 ≡ next_eight (meets b) at
    (boxes_of xs ys zs)
mask_is b xs ys zs at rx ry rz ex ey ez =
    let bools = map (meets b) (take 8 (drop at (boxes_of xs ys zs))) in
    let met = next_meet b xs ys zs at in
    rw (
      ex,
      ey,
      ez,
      three_lanes (map (crosses (x_of b)) (take 8 (drop at xs))) (map (crosses (y_of b)) (take 8 (drop at ys)))
          (map (crosses (z_of b)) (take 8 (drop at zs))),
      met,
    )
    (mask_l-mod bools 64 (omega (arith, eight_long (boxes_of xs ys zs) (meets b) at)))

-- all of a list of eight, as the next eight from the first on
all_lanes : (test : Span → Bool) (xs : List Span) (r : List ℤ) → length xs ≡ 8 → r ≡ map lane (map test xs) → r ≡ map lane (map test (take 8 (drop 0 xs)))
all_lanes test xs r long is = is ∙ ap (λ l. map lane (map test l)) (sym (take_all 8 xs (omega arith)))

-- and the same of three axes with eight intervals each
pub packet_mask : (b : Bounds) (xs ys zs : List Span) (rx ry rz : List ℤ) → length xs ≡ 8 → length ys ≡ 8 → length zs ≡ 8
    → rx ≡ map lane (map (crosses (x_of b)) xs) → ry ≡ map lane (map (crosses (y_of b)) ys) → rz ≡ map lane (map (crosses (z_of b)) zs)
    → mask_l (map (top 31) (zip2 lane_and (zip2 lane_and (map (of_z w32) rx) (map (of_z w32) ry)) (map (of_z w32) rz))) % 2 ^ 64 ≡ next_eight (meets b) 0
    (boxes_of xs ys zs)
packet_mask b xs ys zs rx ry rz lx ly lz ex ey ez =
    mask_is b xs ys zs 0 rx ry rz (all_lanes (crosses (x_of b)) xs rx lx ex) (all_lanes (crosses (y_of b)) ys ry ly ey)
    (all_lanes (crosses (z_of b)) zs rz lz ez)

pub none_set : (n from : ℕ) → set_places n from 0 ≡ []
unfolding set_places
none_set zero from = refl
none_set (suc n) from = none_set n (from + 1)

pub next_set : (n from bits : ℕ) → bits % 2 ≡ 1 → set_places (suc n) from bits ≡ from ∷ set_places n (from + 1) (bits / 2)
unfolding set_places
next_set n from bits h = rw h refl

pub next_clear : (n from bits : ℕ) → (bits % 2 == 1) ≡ false → set_places (suc n) from bits ≡ set_places n (from + 1) (bits / 2)
unfolding set_places
next_clear n from bits h = rw h refl

-- a bit that is set needs room
pub room_left : (n bits : ℕ) → bits < 2 ^ n → 0 < bits → 0 < n
room_left zero bits h l = absurd (omega arith)
room_left (suc n) bits h l = omega arith

pub half_low : (n bits : ℕ) → bits < 2 ^ suc n → bits / 2 < 2 ^ n
half_low n bits h = let e : 2 ^ suc n ≡ 2 * 2 ^ n = omega (arith, pow-suc 2 n) in omega arith

module _ (test : Bounds → Bool) where
  bit_test : (b : Bool) (m : ℕ) → ((cond b 1 0 + 2 * m) % 2 == 1) ≡ b
  bit_test true m = grind arith
  bit_test false m = grind arith

  later_bits : (b : Bool) (m : ℕ) → (cond b 1 0 + 2 * m) / 2 ≡ m
  later_bits true m = omega arith
  later_bits false m = omega arith

  -- the places of a mask's bits are those of the boxes that pass
  pub bits_are_places : (n from : ℕ) (boxes : List Bounds) → length boxes ≤ n → set_places n from (mask_l (map test boxes)) ≡ places test from boxes
  unfolding set_places
  bits_are_places zero from [] l = refl
  bits_are_places zero from (b ∷ boxes) l = absurd (omega arith)
  bits_are_places (suc n) from [] l = bits_are_places n (from + 1) [] (omega arith)
  bits_are_places (suc n) from (b ∷ boxes) l =
      let m = mask_l (map test boxes) in
      rw (bit_test (test b) m, later_bits (test b) m, bits_are_places n (from + 1) boxes (omega arith))
      (elim (test b) as (λ t. cond t (from ∷ places test (from + 1) boxes) (places test (from + 1) boxes) ≡ map (λ e. e.0)
      (cond t ((from, b) ∷ filter (λ e. test e.1) (placed (from + 1) boxes)) (filter (λ e. test e.1) (placed (from + 1) boxes))))
      [ true ↦ refl | false ↦ refl ])

  pub one_more : (from : ℕ) (b : Bounds) (boxes : List Bounds) → places test from (b ∷ boxes) ≡ cond (test b) (from ∷ places test (from + 1) boxes)
      (places test (from + 1) boxes)
  one_more from b boxes =
      elim (test b) as (λ t. map (λ e. e.0) (cond t ((from, b) ∷ filter (λ e. test e.1) (placed (from + 1) boxes))
      (filter (λ e. test e.1) (placed (from + 1) boxes))) ≡ cond t (from ∷ places test (from + 1) boxes) (places test (from + 1) boxes))
      [ true ↦ refl | false ↦ refl ]

  split_more : (t : Bool) (k : ℕ) (xs ys : List ℕ) → cond t (k ∷ (xs ++ ys)) (xs ++ ys) ≡ cond t (k ∷ xs) xs ++ ys
  split_more true k xs ys = refl
  split_more false k xs ys = refl

  -- the first boxes, and those behind them
  pub places_split : (n from : ℕ) (boxes : List Bounds) → places test from boxes ≡ places test from (take n boxes) ++ places test (from + n) (drop n boxes)
  places_split zero from boxes = ap (λ k. places test k boxes) (omega arith)
  places_split (suc n) from [] = refl
  places_split (suc n) from (b ∷ boxes) =
      let e : from + 1 + n ≡ from + suc n = omega arith in
      let rest = places_split n (from + 1) boxes ∙ ap (λ k. places test (from + 1) (take n boxes) ++ places test k (drop n boxes)) e in
      one_more from b boxes
      ∙ ap (λ l. cond (test b) (from ∷ l) l) rest
      ∙ split_more (test b) from (places test (from + 1) (take n boxes)) (places test (from + suc n) (drop n boxes))
      ∙ sym (ap (λ l. l ++ places test (from + suc n) (drop n boxes)) (one_more from b (take n boxes)))

  -- no place is past the last box
  pub places_within : (from : ℕ) (boxes : List Bounds) → All (λ k. k < from + length boxes) (places test from boxes)
  places_within from [] = All-nil (λ k. k < from + 0)
  places_within from (b ∷ boxes) =
      let P : ℕ → Type 0 = λ k. k < from + suc (length boxes) in
      let later : All P (places test (from + 1) boxes) =
      All-weaker (λ k. k < from + 1 + length boxes) P (λ k h. omega arith) (places test (from + 1) boxes) (places_within (from + 1) boxes)
      in
      rw (one_more from b boxes)
      (elim (test b) as (λ t. All P (cond t (from ∷ places test (from + 1) boxes) (places test (from + 1) boxes))) [
        | true ↦ All-cons P from (places test (from + 1) boxes) (omega arith) later
        | false ↦ later
      ])

  mask_places : (at : ℕ) (boxes : List Bounds) → set_places 8 at (next_eight test at boxes) ≡ places test at (take 8 (drop at boxes))
  mask_places at boxes = bits_are_places 8 at (take 8 (drop at boxes)) (omega (arith, length-take 8 (drop at boxes)))

  -- the mask of the next eight has the places before those from the ninth on
  pub mask_before : (at : ℕ) (boxes : List Bounds) → set_places 8 at (next_eight test at boxes) ++ places test (at + 8) (drop (at + 8) boxes) ≡ places test
      at (drop at boxes)
  mask_before at boxes =
      ap (λ l. l ++ places test (at + 8) (drop (at + 8) boxes)) (mask_places at boxes)
      ∙ sym (places_split 8 at (drop at boxes) ∙ ap (λ l. places test at (take 8 (drop at boxes)) ++ places test (at + 8) l) (drop-drop 8 at boxes))

  -- an empty mask has none
  pub empty_mask : (at : ℕ) (boxes : List Bounds) → next_eight test at boxes ≡ 0 → places test (at + 8) (drop (at + 8) boxes) ≡ places test at (drop at boxes)
  empty_mask at boxes h =
      sym (ap (λ l. l ++ places test (at + 8) (drop (at + 8) boxes)) (ap (set_places 8 at) h ∙ none_set 8 at)) ∙ mask_before at boxes

  pub mask_within : (at most : ℕ) (boxes : List Bounds) → at ≤ length boxes → length boxes < most → All (λ k. k < most)
      (set_places 8 at (next_eight test at boxes))
  mask_within at most boxes l h =
      rw (mask_places at boxes)
      (All-weaker (λ k. k < at + length (take 8 (drop at boxes))) (λ k. k < most)
      (λ k (s : k < at + length (take 8 (drop at boxes))). omega (arith, length-take 8 (drop at boxes), length-drop at boxes))
      (places test at (take 8 (drop at boxes)))
      (places_within at (take 8 (drop at boxes))))

  -- what a scan appended, where that and the places from an end on are all
  pub scanned : (from to end : ℕ) (boxes : List Bounds) (old new : List ℕ) → from ≤ end → to ≤ end → end < to + 8
      → new ++ places test end (drop end boxes) ≡ old ++ places test from (drop from boxes) → IsScanned test from to boxes old new
  scanned from to end boxes old new after reached near whole =
      let n : from + (end - from) ≡ end = omega arith in
      let first = places test from (take (end - from) (drop from boxes)) in
      let rest : places test (from + (end - from)) (drop (end - from) (drop from boxes)) ≡ places test end (drop end boxes) =
      ap (places test (from + (end - from))) (drop-drop (end - from) from boxes ∙ ap (λ k. drop k boxes) n) ∙ ap (λ k. places test k (drop end boxes)) n in
      record {
        end = end;
        reached = reached;
        near = near;
        found = append_cancel_right new (old ++ first) (places test end (drop end boxes))
            (whole ∙ ap (λ l. old ++ l) (places_split (end - from) from (drop from boxes) ∙ ap (λ l. first ++ l) rest)
            ∙ sym (append_assoc old first (places test end (drop end boxes))));
      }
