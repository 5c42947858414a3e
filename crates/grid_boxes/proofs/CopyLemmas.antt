-- Copies of boxes: which of them packets pass by, and which stand behind a place.
use Rattle.std.proofs.Common.{◌≡◌, ◌⊎◌, ℕ, zero, suc, ◌+◌, ◌-◌, ◌*◌, ◌≤◌, Bool, true, false, cond, ◌||◌, ◌==◌, refl, sym, ap, ◌∙◌}
use Rattle.std.proofs.Common.{List, [], ◌∷◌, ◌++◌, ◌<◌, length, map, take, drop, get_or, All, inl, inr, subst, arith}
use Rattle.std.specs.List.{take-map}
use Rattle.std.specs.Simd.Lanes.{mask_l}
use Rattle.std.proofs.lemmas.Bool.{or_cases, false≢true}
use Rattle.std.proofs.lemmas.List.{get_or-drop, get_or-take, get_or_append_left, get_or_push, length-append, length-drop, length-take}
use Rattle.std.proofs.lemmas.List.Elements.{All-cons, All-nil}
use Rattle.fixed_box.specs.Bounds.{Bounds, meets}
use Rattle.broad_index.specs.Members.{has_slot}
use Rattle.lane_boxes.specs.Places.{next_eight}
use Rattle.grid_boxes.specs.declared.slot_box.SlotBox.{SlotBox}
use Rattle.grid_boxes.specs.Copies.{ArePacked, bodies_in, slots_of, stretch}

-- ---- what packets pass by
none_met : (body : Bounds) (es : List SlotBox) → mask_l (map (meets body) (bodies_in es)) ≡ 0 → All (λ e. meets body e.body ≡ false) es
none_met body [] h = All-nil (λ (e : SlotBox). meets body e.body ≡ false)
none_met body (e ∷ es) h =
    let later = mask_l (map (meets body) (bodies_in es)) in
    elim (meets body e.body) as (λ t. t ≡ meets body e.body → cond t 1 0 + 2 * later ≡ 0 → All (λ (x : SlotBox). meets body x.body ≡ false) (e ∷ es)) [
      | true ↦ λ _ z. absurd (omega arith)
      | false ↦ λ f z. All-cons (λ (x : SlotBox). meets body x.body ≡ false) e es (sym f) (none_met body es (omega arith))
    ] refl h

-- a stretch before the end of a front
in_front : {X : Type 0} (xs : List X) (at count n : ℕ) → at + count ≤ n → take count (drop at (take n xs)) ≡ take count (drop at xs)
in_front [] zero count zero le = refl
in_front [] zero count (suc n) le = refl
in_front [] (suc at) count zero le = absurd (omega arith)
in_front [] (suc at) count (suc n) le = refl
in_front (x ∷ xs) zero zero n le = refl
in_front (x ∷ xs) zero (suc count) zero le = absurd (omega arith)
in_front (x ∷ xs) zero (suc count) (suc n) le = ap (λ l. x ∷ l) (in_front xs zero count n (omega arith))
in_front (x ∷ xs) (suc at) count zero le = absurd (omega arith)
in_front (x ∷ xs) (suc at) count (suc n) le = in_front xs at count n (omega arith)

pub passed_by : (body : Bounds) (es : List SlotBox) (packet : List Bounds) (at : ℕ) → packet ≡ bodies_in (take 8 (drop at es))
    → next_eight (meets body) 0 packet ≡ 0 → All (λ e. meets body e.body ≡ false) (take 8 (drop at es))
passed_by body es packet at is none =
    let eight = take 8 (drop at es) in
    let same : take 8 packet ≡ bodies_in eight =
    ap (take 8) is ∙ take-map (λ (e : SlotBox). e.body) 8 eight ∙ ap bodies_in (in_front (drop at es) 0 8 8 (omega arith)) in
    none_met body eight (ap (λ l. mask_l (map (meets body) l)) (sym same) ∙ none)

-- ---- what stands in a stretch
or_true : (b : Bool) → (b || true) ≡ true
or_true true = refl
or_true false = refl

later_in : (e : SlotBox) (es : List SlotBox) (q : ℕ) → has_slot (slots_of es) q ≡ true → has_slot (slots_of (e ∷ es)) q ≡ true
later_in e es q h = ap (λ t. (q == e.slot) || t) h ∙ or_true (q == e.slot)

-- the first of a list stand among more of its first
first_in : (es : List SlotBox) (n m q : ℕ) → n ≤ m → has_slot (slots_of (take n es)) q ≡ true → has_slot (slots_of (take m es)) q ≡ true
first_in [] zero m q le h = absurd (false≢true h)
first_in [] (suc n) m q le h = absurd (false≢true h)
first_in (e ∷ es) zero m q le h = absurd (false≢true h)
first_in (e ∷ es) (suc n) zero q le h = absurd (omega arith)
first_in (e ∷ es) (suc n) (suc m) q le h = elim (or_cases (q == e.slot) (has_slot (slots_of (take n es)) q) h) as
    (λ _. has_slot (slots_of (take (suc m) (e ∷ es))) q ≡ true) [
      | inl is ↦ ap (λ t. t || has_slot (slots_of (take m es)) q) is
      | inr there ↦ later_in e (take m es) q (first_in es n m q (omega arith) there)
    ]

-- what stands behind a place stands among the first
behind_in : (es : List SlotBox) (from count n q : ℕ) → from + count ≤ n → has_slot (slots_of (take count (drop from es))) q ≡ true
    → has_slot (slots_of (take n es)) q ≡ true
behind_in [] from zero n q le h = absurd (false≢true h)
behind_in [] zero (suc count) n q le h = absurd (false≢true h)
behind_in [] (suc from) (suc count) n q le h = absurd (false≢true h)
behind_in (e ∷ es) zero count n q le h = first_in (e ∷ es) count n q (omega arith) h
behind_in (e ∷ es) (suc from) count zero q le h = absurd (omega arith)
behind_in (e ∷ es) (suc from) count (suc n) q le h = later_in e (take n es) q (behind_in es from count n q (omega arith) h)

none_taken : (n q : ℕ) → has_slot (slots_of (take n [])) q ≡ true → ⊥
none_taken zero q h = false≢true h
none_taken (suc n) q h = false≢true h

-- what is among the first stands up to a place, or behind it
in_halves : (es : List SlotBox) (mid count q : ℕ) → has_slot (slots_of (take (mid + count) es)) q ≡ true
    → (has_slot (slots_of (take mid es)) q ≡ true) ⊎ (has_slot (slots_of (take count (drop mid es))) q ≡ true)
in_halves [] mid count q h = absurd (none_taken (mid + count) q h)
in_halves (e ∷ es) zero count q h =
    let n : zero + count ≡ count = omega arith in inr (subst (λ k. has_slot (slots_of (take k (e ∷ es))) q ≡ true) n h)
in_halves (e ∷ es) (suc mid) count q h =
    let n : suc mid + count ≡ suc (mid + count) = omega arith in
    let there : has_slot (slots_of (take (suc (mid + count)) (e ∷ es))) q ≡ true = subst (λ k. has_slot (slots_of (take k (e ∷ es))) q ≡ true) n h in
    elim (or_cases (q == e.slot) (has_slot (slots_of (take (mid + count) es)) q) there) as
    (λ _. (has_slot (slots_of (take (suc mid) (e ∷ es))) q ≡ true) ⊎ (has_slot (slots_of (take count (drop mid es))) q ≡ true)) [
      | inl is ↦ inl (ap (λ t. t || has_slot (slots_of (take mid es)) q) is)
      | inr later ↦ elim (in_halves es mid count q later) as
          (λ _. (has_slot (slots_of (take (suc mid) (e ∷ es))) q ≡ true) ⊎ (has_slot (slots_of (take count (drop mid es))) q ≡ true)) [
            | inl low ↦ inl (later_in e (take mid es) q low)
            | inr high ↦ inr high
          ]
    ]

-- what stands in a stretch before an end stands up to a place, or behind it
pub behind_or_before : (es : List SlotBox) (from to mid end q : ℕ) → from ≤ to → to ≤ end → mid ≤ end
    → has_slot (slots_of (stretch from to es)) q ≡ true
    → (has_slot (slots_of (take mid es)) q ≡ true) ⊎ (has_slot (slots_of (stretch mid end es)) q ≡ true)
behind_or_before es from to mid end q rises low within h =
    let whole : mid + (end - mid) ≡ end = omega arith in
    let among = behind_in es from (to - from) end q (omega arith) h in
    in_halves es mid (end - mid) q (ap (λ n. has_slot (slots_of (take n es)) q) whole ∙ among)

-- ---- places of a stretch
at_stretch : (es : List SlotBox) (from to i : ℕ) (d : SlotBox) → i < to - from → get_or (stretch from to es) i d ≡ get_or es (from + i) d
at_stretch es from to i d l = get_or-take (to - from) (drop from es) i d l ∙ get_or-drop from es i d

in_stretch : (es : List SlotBox) (from to i : ℕ) → i < length (stretch from to es) → (i < to - from) × (from + i < length es)
in_stretch es from to i l =
    let first = length-take (to - from) (drop from es) in
    let rest = length-drop from es in
    (omega (arith, first, l), omega (arith, first, rest, l))

of_stretch : (es : List SlotBox) (from to i : ℕ) → i < to - from → from + i < length es → i < length (stretch from to es)
of_stretch es from to i low within =
    let first = length-take (to - from) (drop from es) in
    let rest = length-drop from es in
    omega (arith, first, rest)

below_or_not : (x y : ℕ) → (x < y) ⊎ (y ≤ x)
below_or_not x y = grind arith

-- the next eight are passed by too, also where the first of them stand before the stretch
pub eight_more : (body : Bounds) (es : List SlotBox) (from at : ℕ) → All (λ e. meets body e.body ≡ false) (stretch from at es)
    → All (λ e. meets body e.body ≡ false) (take 8 (drop at es)) → All (λ e. meets body e.body ≡ false) (stretch from (at + 8) es)
eight_more body es from at before here i d l =
    let P : SlotBox → Type 0 = λ e. meets body e.body ≡ false in
    let there = in_stretch es from (at + 8) i l in
    let is = at_stretch es from (at + 8) i d there.0 in
    elim (below_or_not (from + i) at) as (λ _. P (get_or (stretch from (at + 8) es) i d)) [
      | inl sooner ↦
          let low : i < at - from = omega arith in
          subst P (at_stretch es from at i d low ∙ sym is) (before i d (of_stretch es from at i low there.1))
      | inr later ↦
          let k : ℕ = from + i - at in
          let eight : at + 8 - at ≡ 8 = omega arith in
          let low : k < at + 8 - at = omega (arith, there.0) in
          let place : at + k ≡ from + i = omega arith in
          let within : at + k < length es = omega (arith, there.1) in
          subst P (at_stretch es at (at + 8) k d low ∙ ap (λ n. get_or es n d) place ∙ sym is)
          (subst (λ n. All P (take n (drop at es))) (sym eight) here k d (of_stretch es at (at + 8) k low within))
    ]

-- what is passed by up to a place is so up to a sooner one
pub up_to : (body : Bounds) (es : List SlotBox) (from at end : ℕ) → end - from ≤ at - from → All (λ e. meets body e.body ≡ false) (stretch from at es)
    → All (λ e. meets body e.body ≡ false) (stretch from end es)
up_to body es from at end le before i d l =
    let P : SlotBox → Type 0 = λ e. meets body e.body ≡ false in
    let there = in_stretch es from end i l in
    let low : i < at - from = omega (arith, le, there.0) in
    subst P (at_stretch es from at i d low ∙ sym (at_stretch es from end i d there.0)) (before i d (of_stretch es from at i low there.1))

-- one packet more
pub one_more : (es : List SlotBox) (packets : List (List Bounds)) (packet : List Bounds) → ArePacked es packets → 8 * length packets + 8 ≤ length es
    → packet ≡ bodies_in (take 8 (drop (8 * length packets) es)) → ArePacked es (packets ++ packet ∷ [])
one_more es packets packet was room is =
    let longer = length-append packets (packet ∷ []) in
    record {
      within = omega (arith, longer);
      each = λ k d l. elim (below_or_not k (length packets)) as
          (λ _. get_or (packets ++ packet ∷ []) k d ≡ bodies_in (take 8 (drop (8 * k) es))) [
            | inl sooner ↦ get_or_append_left packets (packet ∷ []) d k sooner ∙ was.each k d sooner
            | inr later ↦
                let last : length packets ≡ k = omega (arith, longer, l) in
                get_or_push packets packet d k last ∙ is ∙ ap (λ n. bodies_in (take 8 (drop (8 * n) es))) last
          ];
    }
