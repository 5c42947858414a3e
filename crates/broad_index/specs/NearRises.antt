-- Serves proofs alone: the pairs of a map that meet stand in rising order.
use Rattle.std.specs.Prelude.{◌≡◌, ℕ, ◌<◌, Bool, true, ◌&&◌, ◌||◌, nat_lt, ◌==◌, List, [], ◌∷◌, filter, refl}
use Rattle.std.proofs.Common.{arith, ap, ◌∙◌}
use Rattle.std.specs.Ordering.{nat_cmp, is_lt}
use Rattle.std.specs.declared.cmp.Ordering.TheVariants.{Less, Equal, Greater}
use Rattle.std.specs.Cmp.{ranked, first_so, second_so}
use Rattle.std.specs.Cmp.Derive.{both_true}
use Rattle.std.specs.List.{list_all}
use Rattle.std.specs.FinMap.{FinMap, entries, entries_sorted, is_sorted}
use Rattle.std.specs.FinMap.Entries.{below_all}
use Rattle.std.proofs.lemmas.Bool.Decides.{nat_tests}
use Rattle.std.proofs.lemmas.List.Folds.{list_all-append, list_all-map}
use Rattle.fixed_box.specs.Bounds.{Bounds, meets}
use Rattle.slot_lists.specs.Rising.{rises_by}
use Rattle.slot_lists.specs.RisingLaws.{all_hold, filtered_rise, joined_rise, mapped_rise}
use Rattle.broad_index.specs.declared.pair.Pair.{Pair}
use Rattle.broad_index.specs.Near.{partners, near_of, near, precedes, rises}
use Rattle.fixed_box.proofs.Bools.{true_from}

lt_from : (x y : ℕ) → is_lt (nat_cmp x y) ≡ true → nat_lt x y ≡ true
lt_from x y h = elim (nat_cmp x y) as (λ r. r ≡ nat_cmp x y → is_lt r ≡ true → nat_lt x y ≡ true) [
  | Less ↦ λ e _. let lt : x < y = ranked x y Less e in grind (arith, nat_tests)
  | Equal ↦ λ _ h. cc
  | Greater ↦ λ _ h. cc
] refl h

by_first : (p q : Pair) → nat_lt p.a q.a ≡ true → precedes p q ≡ true
by_first p q lt = ap (λ b. b || (p.a == q.a && nat_lt p.b q.b)) lt

by_second : (p q : Pair) → p.a ≡ q.a → nat_lt p.b q.b ≡ true → precedes p q ≡ true
by_second p q same lt = grind (arith, nat_tests)

-- the entries of a map rise by their slots
abbrev pub slot_lt : ℕ × Bounds → ℕ × Bounds → Bool
slot_lt e f = nat_lt e.0 f.0

slots_above : (slot : ℕ) (es : List (ℕ × Bounds)) → below_all nat_cmp slot es ≡ true → list_all (λ e. nat_lt slot e.0) es ≡ true
slots_above slot [] h = refl
slots_above slot (e ∷ es) h = both_true (lt_from slot e.0 (first_so _ _ h)) (slots_above slot es (second_so _ _ h))

pub entries_rise : (es : List (ℕ × Bounds)) → is_sorted nat_cmp es ≡ true → rises_by slot_lt es ≡ true
entries_rise [] h = refl
entries_rise (e ∷ es) h = both_true (slots_above e.0 es (first_so _ _ h)) (entries_rise es (second_so _ _ h))

abbrev pair : ℕ → ℕ × Bounds → Pair
pair slot e = record { a = slot; b = e.0 }

partners_rise : (slot : ℕ) (body : Bounds) (later : List (ℕ × Bounds)) → rises_by slot_lt later ≡ true → rises (partners slot body later) ≡ true
partners_rise slot body later h =
    mapped_rise slot_lt precedes (pair slot) (λ e f lt. by_second (pair slot e) (pair slot f) refl lt) (filter (λ e. meets body e.1) later)
    (filtered_rise slot_lt (λ e. meets body e.1) later h)

-- a pair whose first slot is below those of a list stands before the list's pairs
before_near : (p : Pair) (es : List (ℕ × Bounds)) → list_all (λ e. nat_lt p.a e.0) es ≡ true → list_all (precedes p) (near_of es) ≡ true
before_near p [] h = refl
before_near p (e ∷ later) h =
    list_all-append (precedes p) (partners e.0 e.1 later) (near_of later)
    ∙ both_true
    (list_all-map (precedes p) (pair e.0) (filter (λ o. meets e.1 o.1) later)
    ∙ all_hold (λ o. precedes p (pair e.0 o)) (λ o. by_first p (pair e.0 o) (first_so _ _ h)) (filter (λ o. meets e.1 o.1) later))
    (before_near p later (second_so _ _ h))

near_of_rises : (es : List (ℕ × Bounds)) → rises_by slot_lt es ≡ true → rises (near_of es) ≡ true
near_of_rises [] h = refl
near_of_rises (e ∷ later) h =
    joined_rise precedes (partners e.0 e.1 later) (near_of later)
    (partners_rise e.0 e.1 later (second_so _ _ h))
    (near_of_rises later (second_so _ _ h))
    (list_all-map (λ p. list_all (precedes p) (near_of later)) (pair e.0) (filter (λ o. meets e.1 o.1) later)
    ∙ all_hold (λ o. list_all (precedes (pair e.0 o)) (near_of later)) (λ o. before_near (pair e.0 o) later (first_so _ _ h))
    (filter (λ o. meets e.1 o.1) later))

pub near_rises : (bodies : FinMap nat_cmp Bounds) → rises (near bodies) ≡ true
near_rises bodies = near_of_rises (entries bodies) (entries_rise (entries bodies) (true_from _ (entries_sorted bodies)))
