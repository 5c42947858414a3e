-- Columns of boxes through changes: lists whose last element takes another's place, and numbers that differ in a list.
use Rattle.std.proofs.Common.{◌≡◌, ◌≢◌, ℕ, zero, suc, ◌+◌, ◌-◌, ◌<◌, ◌≤◌, Bool, true, false, cond, ◌||◌, ◌==◌, map, List, [], ◌∷◌, ◌++◌, length}
use Rattle.std.proofs.Common.{get_or, set, take, drop, slice_index, length-take, length-drop, refl, sym, ap, ◌∙◌, arith, inl, inr}
use Rattle.std.specs.List.{IsDistinct, AllByRecursion, list_any, swap_remove, filter}
use Rattle.std.proofs.lemmas.List.{get_or-set_same, get_or-set_other, length-set, length-take-le, get_or-take, get_or-drop}
use Rattle.std.proofs.lemmas.Map.Steps.{length-le_from_distinct_below}
use Rattle.std.proofs.lemmas.Bool.{or_cases, false≢true}
use Rattle.std.proofs.lemmas.Bool.Decides.{eqb_tells, nat_tests}
use Rattle.fixed_box.specs.Bounds.{Bounds}
use Rattle.lane_boxes.specs.Places.{IsScanned, placed, places}
use Rattle.broad_index.specs.Members.{has_slot}
use Rattle.grid_cells.specs.AppendLaws.{put_behind}
use Rattle.grid_boxes.specs.Leveled.{HasScanned, Listed, blank}
use lib.Dec.{eqb}

module _ {X : Type 0} where
  pub swapped_here : (xs : List X) (p : ℕ) (d : X) → p + 1 < length xs → get_or (swap_remove xs p d) p d ≡ get_or xs (length xs - 1) d
  swapped_here xs p d lt =
      get_or-take (length xs - 1) (set xs p (get_or xs (length xs - 1) d)) p d (omega arith)
      ∙ get_or-set_same xs p (get_or xs (length xs - 1) d) d (omega arith)

  pub swapped_other : (xs : List X) (p i : ℕ) (d : X) → i ≢ p → i + 1 < length xs → get_or (swap_remove xs p d) i d ≡ get_or xs i d
  swapped_other xs p i d ne lt =
      get_or-take (length xs - 1) (set xs p (get_or xs (length xs - 1) d)) i d (omega arith)
      ∙ get_or-set_other xs p i (get_or xs (length xs - 1) d) d ne

  pub swapped_len : (xs : List X) (p : ℕ) (d : X) → p < length xs → length (swap_remove xs p d) + 1 ≡ length xs
  swapped_len xs p d lt =
      let same = length-set xs p (get_or xs (length xs - 1) d) in
      let cut = length-take-le (length xs - 1) (set xs p (get_or xs (length xs - 1) d)) (omega arith) in
      omega arith

-- no element is x
other_than : (x : ℕ) (xs : List ℕ) → ((i : ℕ) → i < length xs → get_or xs i 0 ≢ x) → AllByRecursion (λ y. eqb x y ≡ false) xs
other_than x [] h = tt
other_than x (y ∷ ys) h = (
  elim (eqb_tells x y) as (λ _. eqb x y ≡ false) [ inl t ↦ absurd (h 0 (omega arith) (sym t.1)) | inr t ↦ t.0 ],
  other_than x ys
      (λ i l. h (suc i) (omega arith)),
)

-- numbers that a function takes to their places, counted from n
apart : (f : ℕ → ℕ) (n : ℕ) (xs : List ℕ) → ((i : ℕ) → i < length xs → f (get_or xs i 0) ≡ n + i) → IsDistinct eqb xs
unfolding IsDistinct
apart f n [] h = tt
apart f n (x ∷ xs) h = (
  other_than x xs (λ i l e. let here : f x ≡ n + 0 = h 0 (omega arith) in let there : f (get_or xs i 0) ≡ n + suc i = h (suc i) (omega arith) in
      let same = ap f e in absurd (omega arith)),
  apart f (n + 1) xs (λ i l. h (suc i) (omega arith) ∙ (let e : n + suc i ≡ (n + 1) + i = omega arith in e)),
)

low : (n q : ℕ) (xs : List ℕ) → ((i : ℕ) → i < length xs → get_or xs i 0 < n) → list_any (eqb q) xs ≡ true → q < n
low n q [] b h = cc
low n q (x ∷ xs) b h = elim (eqb_tells q x) as (λ _. q < n) [
  | inl t ↦ let first : x < n = b 0 (omega arith) in let e = t.1 in omega arith
  | inr t ↦ low n q xs (λ i l. b (suc i) (omega arith)) (rw t.0 at h)
]

-- There are at most as many of them as numbers below n, where all are below n.
pub at_most : (f : ℕ → ℕ) (n : ℕ) (xs : List ℕ) → ((i : ℕ) → i < length xs → get_or xs i 0 < n) → ((i : ℕ) → i < length xs → f (get_or xs i 0) ≡ i)
    → length xs ≤ n
at_most f n xs below at = length-le_from_distinct_below xs n (apart f 0 xs (λ i l. at i l ∙ (let e : i ≡ 0 + i = omega arith in e))) (λ q h. low n q xs below h)

-- There are fewer of them than numbers below n, where one of those isn't among them.
pub few : (f : ℕ → ℕ) (n s : ℕ) (xs : List ℕ) → s < n → ((i : ℕ) → i < length xs → get_or xs i 0 < n) → ((i : ℕ) → i < length xs → f (get_or xs i 0) ≡ i)
    → ((i : ℕ) → i < length xs → get_or xs i 0 ≢ s) → length xs < n
unfolding IsDistinct
few f n s xs sl below at other =
    let bound = length-le_from_distinct_below (s ∷ xs) n (other_than s xs other, apart f 0 xs (λ i l. at i l ∙ (let e : i ≡ 0 + i = omega arith in e)))
    (λ q h. low n q (s ∷ xs) (λ i. within i) h) in
    omega arith
  where
    within : (i : ℕ) → i < length (s ∷ xs) → get_or (s ∷ xs) i 0 < n
    within zero l = sl
    within (suc i) l = below i (omega arith)

-- ---- places of boxes that pass a test
pub place_in : (test : Bounds → Bool) (from k : ℕ) (boxes : List Bounds) → k < length boxes → test (get_or boxes k blank) ≡ true
    → has_slot (places test from boxes) (from + k) ≡ true
place_in test from k [] lt h = absurd (omega arith)
place_in test from zero (b ∷ bs) lt h =
    let here : (from + 0 == from) ≡ true = grind (arith, nat_tests) in
    ap (λ t. has_slot (map (λ (e : ℕ × Bounds). e.0)
    (cond t ((from, b) ∷ filter (λ e. test e.1) (placed (from + 1) bs)) (filter (λ e. test e.1) (placed (from + 1) bs)))) (from + 0)) h
    ∙ ap (λ t. t || has_slot (places test (from + 1) bs) (from + 0)) here
place_in test from (suc k) (b ∷ bs) lt h =
    let e : from + suc k ≡ (from + 1) + k = omega arith in
    let r : has_slot (places test (from + 1) bs) (from + suc k) ≡ true = ap (has_slot (places test (from + 1) bs)) e
    ∙ place_in test (from + 1) k bs (omega arith) h in
    elim (test b) as
    (λ t. has_slot (map (λ (e : ℕ × Bounds). e.0)
    (cond t ((from, b) ∷ filter (λ e. test e.1) (placed (from + 1) bs)) (filter (λ e. test e.1) (placed (from + 1) bs)))) (from + suc k) ≡ true) [
      | true ↦ ap (λ t. (from + suc k == from) || t) r ∙ or_true (from + suc k == from)
      | false ↦ r
    ]
  where
    or_true : (b : Bool) → (b || true) ≡ true
    or_true true = refl
    or_true false = refl

-- what a list has, a map of it has
pub image_in : (f : ℕ → ℕ) (xs : List ℕ) (x : ℕ) → has_slot xs x ≡ true → has_slot (map f xs) (f x) ≡ true
image_in f [] x h = absurd (false≢true h)
image_in f (y ∷ ys) x h = elim (or_cases (x == y) (has_slot ys x) h) as (λ _. has_slot (map f (y ∷ ys)) (f x) ≡ true) [
  | inl e ↦ let at : x ≡ y = grind (arith, nat_tests) in let same = ap f at in let t : (f x == f y) ≡ true = grind (arith, nat_tests) in
      ap (λ b. b || has_slot (map f ys) (f x)) t
  | inr e ↦ ap (λ b. (f x == f y) || b) (image_in f ys x e) ∙ or_true (f x == f y)
]
  where
    or_true : (b : Bool) → (b || true) ≡ true
    or_true true = refl
    or_true false = refl

-- What a scan found, with the slots in the stead of the places.
pub found : (listed : Listed) (test : Bounds → Bool) (from to : ℕ) (old scanned new : List ℕ) → to ≤ length listed.boxes
    → IsScanned test from to listed.boxes old scanned
    → new ≡ take (length old) scanned ++ map (slice_index listed.slots) (drop (length old) scanned)
    → HasScanned listed test from to old new
found listed test from to old scanned new bound is put =
    let at = places test from (take (is.end - from) (drop from listed.boxes)) in
    record {
      slots = map (slice_index listed.slots) at;
      appended = put ∙ put_behind (slice_index listed.slots) old scanned at (length old) refl is.found;
      has = λ place after before passes.
          let k = place - from in
          let sum : from + k ≡ place = omega arith in
          let r = is.reached in
          let body : get_or (take (is.end - from) (drop from listed.boxes)) k blank ≡ get_or listed.boxes place blank =
          get_or-take (is.end - from) (drop from listed.boxes) k blank (omega arith)
          ∙ get_or-drop from listed.boxes k blank
          ∙ ap (λ n. get_or listed.boxes n blank) sum in
          let there : has_slot at place ≡ true = ap (has_slot at) (sym sum)
          ∙ place_in test from k (take (is.end - from) (drop from listed.boxes))
          (omega (arith, length-take (is.end - from) (drop from listed.boxes), length-drop from listed.boxes)) (ap test body ∙ passes) in
          image_in (slice_index listed.slots) at place there;
    }
