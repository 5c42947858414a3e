-- Boxes beside their slots: what is found in a stretch of them.
use Rattle.std.proofs.Common.{inl, inr, zero, ◌+◌, All}
use Rattle.std.proofs.lemmas.List.Elements.{All-drop, All-take}
use Rattle.std.proofs.lemmas.Bool.{or_cases}
use Rattle.std.proofs.Common.{◌≡◌, ◌⊎◌, ℕ, suc, ◌-◌, ◌<◌, ◌≤◌, Bool, true, false, cond, not, ◌&&◌, ◌||◌, ◌==◌, nat_lt, refl, sym, ap, ◌∙◌, subst}
use Rattle.std.proofs.Common.{List, [], ◌∷◌, ◌++◌, map, length, take, drop, get_or, Some, arith}
use Rattle.std.specs.List.{filter}
use Rattle.std.proofs.lemmas.Bool.Decides.{nat_tests}
use Rattle.std.specs.Ordering.{nat_cmp}
use Rattle.std.specs.FinMap.{FinMap, get}
use Rattle.fixed_box.specs.Bounds.{Bounds, meets}
use Rattle.broad_index.specs.declared.pair.Pair.{Pair}
use Rattle.broad_index.specs.Members.{has_pair, has_slot, both_meet}
use Rattle.broad_index.specs.Touched.{ordered}
use Rattle.grid_boxes.specs.declared.slot_box.SlotBox.{SlotBox}
use Rattle.grid_boxes.specs.Buckets.{AreOf}
use Rattle.grid_boxes.specs.Copies.{slots_of, stretch}
use Rattle.hier_grid.specs.Listing.{pairs_up, met_pairs}
use Rattle.hier_grid.specs.Search.{is_partner, IsSound}
use Rattle.hier_grid.proofs.PartnerLemmas.{found_pairs, sound_pairs, pair_in}

-- what stands among one more of the first is the next one, or stood there before
pub next_or_before : (es : List SlotBox) (place : ℕ) (d : SlotBox) → place < length es → (s : ℕ) → has_slot (slots_of (take (place + 1) es)) s ≡ true
    → (has_slot (slots_of (take place es)) s ≡ true) ⊎ (s ≡ (get_or es place d).slot)
next_or_before [] place d l s h = absurd (omega arith)
next_or_before (e ∷ es) zero d l s h = elim (or_cases (s == e.slot) false h) as (λ _. (false ≡ true) ⊎ (s ≡ e.slot)) [
  | inl is ↦ inr (grind (arith, nat_tests))
  | inr wrong ↦ inl wrong
]
next_or_before (e ∷ es) (suc place) d l s h =
    let n : suc place + 1 ≡ suc (place + 1) = omega arith in
    let there : has_slot (slots_of (take (suc (place + 1)) (e ∷ es))) s ≡ true = subst (λ k. has_slot (slots_of (take k (e ∷ es))) s ≡ true) n h in
    elim (or_cases (s == e.slot) (has_slot (slots_of (take (place + 1) es)) s) there) as
    (λ _. (has_slot (slots_of (take (suc place) (e ∷ es))) s ≡ true) ⊎ (s ≡ (get_or es place d).slot)) [
      | inl is ↦ inl (ap (λ t. t || has_slot (slots_of (take place es)) s) is)
      | inr later ↦ elim (next_or_before es place d (omega arith) s later) as
          (λ _. (has_slot (slots_of (take (suc place) (e ∷ es))) s ≡ true) ⊎ (s ≡ (get_or es place d).slot)) [
            | inl before ↦ inl (ap (λ t. (s == e.slot) || t) before ∙ or_true (s == e.slot))
            | inr is ↦ inr is
          ]
    ]
  where
    or_true : (b : Bool) → (b || true) ≡ true
    or_true true = refl
    or_true false = refl

-- a pair of two slots is the same from either of them
pub turned_pair : (s q : ℕ) → not (q == s) ≡ true → ordered q s ≡ ordered s q
turned_pair s q other = elim (nat_lt s q) as (λ t. nat_lt s q ≡ t → ordered q s ≡ cond t (record { a = s; b = q }) (record { a = q; b = s })) [
  | true ↦ λ t. let no : nat_lt q s ≡ false = grind (arith, nat_tests) in ap (λ u. cond u (record { a = q; b = s }) (record { a = s; b = q })) no
  | false ↦ λ f. let yes : nat_lt q s ≡ true = grind (arith, nat_tests) in ap (λ u. cond u (record { a = q; b = s }) (record { a = s; b = q })) yes
] refl

pub not_back : (s q : ℕ) → not (q == s) ≡ true → not (s == q) ≡ true
not_back s q other = grind (arith, nat_tests)

pub not_itself : (s q : ℕ) → not (q == s) ≡ true → q ≡ s → ⊥
not_itself s q other is = absurd (grind (arith, nat_tests))

-- ---- stretches
front_of : (es : List SlotBox) (k n : ℕ) → k ≤ n → take k (take n es) ≡ take k es
front_of [] zero zero le = refl
front_of [] zero (suc n) le = refl
front_of [] (suc k) zero le = absurd (omega arith)
front_of [] (suc k) (suc n) le = refl
front_of (e ∷ es) zero n le = refl
front_of (e ∷ es) (suc k) zero le = absurd (omega arith)
front_of (e ∷ es) (suc k) (suc n) le = ap (λ l. e ∷ l) (front_of es k n (omega arith))

pub met_more : (own : SlotBox) (any : Bool) (xs ys : List SlotBox) → met_pairs own any (xs ++ ys) ≡ met_pairs own any xs ++ met_pairs own any ys
met_more own any [] ys = refl
met_more own any (x ∷ xs) ys = elim (pairs_up own any x) as (λ t. map (λ (e : SlotBox). ordered own.slot e.slot)
    (cond t (x ∷ filter (pairs_up own any) (xs ++ ys)) (filter (pairs_up own any) (xs ++ ys)))
    ≡ map (λ (e : SlotBox). ordered own.slot e.slot) (cond t (x ∷ filter (pairs_up own any) xs) (filter (pairs_up own any) xs)) ++ met_pairs own any ys) [
      | true ↦ ap (λ ps. ordered own.slot x.slot ∷ ps) (met_more own any xs ys)
      | false ↦ met_more own any xs ys
    ]

met_none : (own : SlotBox) (any : Bool) (es : List SlotBox) → All (λ e. meets own.body e.body ≡ false) es → met_pairs own any es ≡ []
met_none own any [] h = refl
met_none own any (e ∷ es) h =
    ap (λ t. map (λ (x : SlotBox). ordered own.slot x.slot) (cond t (e ∷ filter (pairs_up own any) es) (filter (pairs_up own any) es)))
    (ap (λ m. not (e.slot == own.slot) && (any || nat_lt own.slot e.slot) && m) (h 0 e (omega arith))
    ∙ and_false (not (e.slot == own.slot) && (any || nat_lt own.slot e.slot)))
    ∙ met_none own any es (λ i d l. h (suc i) d (omega arith))
  where
    and_false : (b : Bool) → (b && false) ≡ false
    and_false true = refl
    and_false false = refl

-- those that don't meet a box make no pair with it
pub none_passed : (own : SlotBox) (any : Bool) (es : List SlotBox) (at near start : ℕ) → start ≤ near
    → All (λ e. meets own.body e.body ≡ false) (stretch at near es)
    → met_pairs own any (stretch at start es) ≡ []
none_passed own any es at near start le h =
    let P : SlotBox → Type 0 = λ e. meets own.body e.body ≡ false in
    met_none own any (stretch at start es)
    (subst (All P) (front_of (drop at es) (start - at) (near - at) (omega arith)) (All-take P (start - at) (stretch at near es) h))

-- the box beside a slot is met where the slot is a partner
met_one : (bodies : FinMap nat_cmp Bounds) (own : SlotBox) (any : Bool) (e : SlotBox) → get bodies e.slot ≡ Some e.body
    → pairs_up own any e ≡ is_partner bodies own.slot own.body any e.slot
met_one bodies own any e h = ap (λ o. not (e.slot == own.slot) && (any || nat_lt own.slot e.slot) && both_meet (Some own.body) o) (sym h)

met_is : (bodies : FinMap nat_cmp Bounds) (own : SlotBox) (any : Bool) (es : List SlotBox) → AreOf bodies es
    → met_pairs own any es ≡ found_pairs bodies own.slot own.body any (slots_of es)
met_is bodies own any [] h = refl
met_is bodies own any (e ∷ es) h =
    ap (λ t. map (λ (x : SlotBox). ordered own.slot x.slot) (cond t (e ∷ filter (pairs_up own any) es) (filter (pairs_up own any) es)))
    (met_one bodies own any e (h 0 e (omega arith)))
    ∙ either (is_partner bodies own.slot own.body any e.slot) (met_is bodies own any es (λ i d l. h (suc i) d (omega arith)))
  where
    either : (t : Bool) → met_pairs own any es ≡ found_pairs bodies own.slot own.body any (slots_of es)
        → map (λ (x : SlotBox). ordered own.slot x.slot) (cond t (e ∷ filter (pairs_up own any) es) (filter (pairs_up own any) es))
        ≡ map (ordered own.slot) (cond t (e.slot ∷ filter (is_partner bodies own.slot own.body any) (slots_of es))
        (filter (is_partner bodies own.slot own.body any) (slots_of es)))
    either true rest = ap (λ ps. ordered own.slot e.slot ∷ ps) rest
    either false rest = rest

pub sound_met : (bodies : FinMap nat_cmp Bounds) (own : SlotBox) (any : Bool) (es : List SlotBox) (old : List Pair) → AreOf bodies es
    → get bodies own.slot ≡ Some own.body → IsSound bodies old → IsSound bodies (old ++ met_pairs own any es)
sound_met bodies own any es old h mine s =
    subst (λ ps. IsSound bodies (old ++ ps)) (sym (met_is bodies own any es h)) (sound_pairs bodies own.slot own.body any (slots_of es) old mine s)

pub pair_met : (bodies : FinMap nat_cmp Bounds) (own : SlotBox) (any : Bool) (es : List SlotBox) (old : List Pair) (q : ℕ) (b : Bounds) → AreOf bodies es
    → get bodies q ≡ Some b → meets own.body b ≡ true → not (q == own.slot) ≡ true → (any || nat_lt own.slot q) ≡ true
    → has_slot (slots_of es) q ≡ true → has_pair (old ++ met_pairs own any es) (ordered own.slot q) ≡ true
pair_met bodies own any es old q b h e m other due i =
    ap (λ ps. has_pair (old ++ ps) (ordered own.slot q)) (met_is bodies own any es h)
    ∙ pair_in bodies own.slot own.body any (slots_of es) old q b e m other due i

-- beside each slot of a stretch stands its box
pub right_stretch : (bodies : FinMap nat_cmp Bounds) (es : List SlotBox) (from to : ℕ) → AreOf bodies es → AreOf bodies (stretch from to es)
right_stretch bodies es from to h =
    let P : SlotBox → Type 0 = λ e. get bodies e.slot ≡ Some e.body in All-take P (to - from) (drop from es) (All-drop P from es h)
