-- The boxes of a map within a distance are those of the slots that a search found, where it found all of them.
use Rattle.std.proofs.Common.{◌≡◌, ℕ, ◌≤◌, Bool, true, false, cond, ◌&&◌, ◌||◌, ◌==◌, nat_lt, nat_le, List}
use Rattle.std.proofs.Common.{[], ◌∷◌, map, filter, Option, None, Some, refl, sym, ap, ◌∙◌, arith, inl, inr}
use Rattle.std.specs.Prelude.{is_some}
use Rattle.std.specs.List.{filter_map, cons_option, list_all}
use Rattle.std.specs.Ordering.{nat_cmp}
use Rattle.std.specs.Cmp.Derive.{both_true}
use Rattle.std.specs.Cmp.{first_so, second_so}
use Rattle.std.specs.FinMap.{FinMap, entries, get}
use Rattle.std.proofs.lemmas.Bool.{eq-eqb, eqb-true, cases_Bool, false≢true, true≢false, ltb-true}
use Rattle.std.proofs.lemmas.Bool.Decides.{nat_tests}
use Rattle.fixed_box.specs.Bounds.{Bounds, meets, fattened}
use Rattle.fixed_box.specs.Space.{space}
use Rattle.slot_lists.specs.RisingLaws.{Tells, one_rising, filtered_rise}
use Rattle.slot_lists.specs.Present.{present}
use Rattle.broad_index.specs.Found.{found}
use Rattle.broad_index.specs.Members.{has_slot, slots_rise, is_found, meets_query}
use Rattle.broad_index.specs.declared.query.Query.{Query}
use Rattle.broad_index.specs.declared.query.Query.TheVariants.{Region}
use Rattle.near_boxes.specs.declared.near.Near.{Near}
use Rattle.near_boxes.specs.Bodies.{AreInSpace, AreAmong}
use Rattle.near_boxes.specs.Nearest.{square_apart, seen_about}
use Rattle.near_boxes.specs.Within.{is_within, all_within, within_of, within, Reaches}
use Rattle.broad_index.specs.MapEntries.{Looked, looked_in, slots_up, has_slots}
use Rattle.near_boxes.proofs.Reached.{near_meets, all_near}
use Rattle.fixed_box.proofs.Bools.{and_false}

-- ---- slots of a list

slots_tell : Tells (λ x y. x == y) nat_lt
slots_tell = record {
  means = λ x y e. eqb-true x y e;
  self = λ x. eq-eqb x x refl;
  one_way = λ x y h g. let a = ltb-true x y h in let b = ltb-true y x g in absurd (omega arith);
}

has_cons : (k x : ℕ) (b : Bool) (xs : List ℕ) → has_slot (cond b (x ∷ xs) xs) k ≡ ((b && (k == x)) || has_slot xs k)
has_cons k x true xs = refl
has_cons k x false xs = refl

spread : (a b c s : Bool) → (c ≡ true → a ≡ b) → ((b && c) || (a && s)) ≡ (a && (c || s))
spread a b false s h = ap (λ z. z || (a && s)) (and_false b)
spread true true true s h = refl
spread true false true s h = absurd (true≢false (h refl))
spread false true true s h = absurd (false≢true (h refl))
spread false false true s h = refl

has_filter : (t : ℕ → Bool) (k : ℕ) (xs : List ℕ) → has_slot (filter t xs) k ≡ (t k && has_slot xs k)
has_filter t k [] = sym (and_false (t k))
has_filter t k (x ∷ xs) =
    has_cons k x (t x) (filter t xs) ∙ ap (λ z. (t x && (k == x)) || z) (has_filter t k xs)
    ∙ spread (t k) (t x) (k == x) (has_slot xs k) (λ e. ap t (eqb-true k x e))

-- rising lists that both have all slots that pass a test
same_passing : (t : ℕ → Bool) (xs ys : List ℕ) → slots_rise xs ≡ true → slots_rise ys ≡ true → ((k : ℕ) → t k ≡ true → has_slot xs k ≡ true)
    → ((k : ℕ) → t k ≡ true → has_slot ys k ≡ true) → filter t xs ≡ filter t ys
same_passing t xs ys up down left right =
    one_rising (λ x y. x == y) nat_lt slots_tell (filter t xs) (filter t ys) (filtered_rise nat_lt t xs up) (filtered_rise nat_lt t ys down)
    (λ k. has_filter t k xs ∙ alike k ∙ sym (has_filter t k ys))
  where
    alike : (k : ℕ) → (t k && has_slot xs k) ≡ (t k && has_slot ys k)
    alike k = elim (cases_Bool (t k)) as (λ _. (t k && has_slot xs k) ≡ (t k && has_slot ys k)) [
      | inl h ↦ ap (λ z. t k && z) (left k h ∙ sym (right k h))
      | inr h ↦ ap (λ z. z && has_slot xs k) h ∙ sym (ap (λ z. z && has_slot ys k) h)
    ]

-- where a function gives nothing an element may be left out
left_out : (f : ℕ → Option Near) (x : ℕ) (xs ys : List ℕ) → filter_map f xs ≡ filter_map f ys → (o : Option Near) → f x ≡ o
    → cons_option (f x) (filter_map f xs) ≡ filter_map f (cond (is_some (f x)) (x ∷ ys) ys)
left_out f x xs ys same None e = ap (λ o. cons_option o (filter_map f xs)) e ∙ same ∙ sym (ap (λ o. filter_map f (cond (is_some o) (x ∷ ys) ys)) e)
left_out f x xs ys same (Some n) e = ap (cons_option (f x)) same ∙ sym (ap (λ o. filter_map f (cond (is_some o) (x ∷ ys) ys)) e)

filtered : (f : ℕ → Option Near) (xs : List ℕ) → filter_map f xs ≡ filter_map f (filter (λ k. is_some (f k)) xs)
filtered f [] = refl
filtered f (x ∷ xs) = left_out f x xs (filter (λ k. is_some (f k)) xs) (filtered f xs) (f x) refl

-- ---- slots within a distance

module _ (to : Bounds) (most : ℕ) where
  kept : (b : Bool) (n : Near) (xs ys : List Near) → xs ≡ ys → cons_option (cond b (Some n) None) xs ≡ cond b (n ∷ ys) ys
  kept true n xs ys e = ap (λ l. n ∷ l) e
  kept false n xs ys e = e

  filter_looked : (look : ℕ → Option Bounds) (es : List (ℕ × Bounds)) → Looked look es
      → filter_map (λ k. within_of to most k (look k)) (map (λ e. e.0) es) ≡ filter (is_within most) (map (seen_about to) es)
  filter_looked look [] l = refl
  filter_looked look (e ∷ es) l =
      ap (λ o. cons_option (within_of to most e.0 o) (filter_map (λ k. within_of to most k (look k)) (map (λ e. e.0) es))) l.0
      ∙ kept (nat_le (square_apart to e.1) most) (seen_about to e) _ _ (filter_looked look es l.1)

  pub there : (k : ℕ) (o : Option Bounds) → is_some (within_of to most k o) ≡ true → is_some o ≡ true
  there k None h = h
  there k (Some b) h = refl

  some_if : (b : Bool) (n : Near) → is_some (cond b (Some n) None) ≡ true → b ≡ true
  some_if true n h = refl
  some_if false n h = h

  near_le : (a : ℕ) → nat_le a most ≡ true → a ≤ most
  near_le a h = grind (arith, nat_tests)

  module _ (bodies : FinMap nat_cmp Bounds) where
    -- Slots in order, among which are all whose boxes are within the distance, give these.
    pub gathered : (slots : List ℕ) → slots_rise slots ≡ true → ((k : ℕ) → is_some (within bodies to most k) ≡ true → has_slot slots k ≡ true)
        → filter_map (within bodies to most) slots ≡ all_within bodies to most
    gathered slots up have =
        filtered (within bodies to most) slots
        ∙ ap (filter_map (within bodies to most))
        (same_passing (λ k. is_some (within bodies to most k)) slots (present bodies) up (slots_up bodies) have
        (λ k h. has_slots bodies k (there k (get bodies k) h)))
        ∙ sym (filtered (within bodies to most) (present bodies)) ∙ filter_looked (get bodies) (entries bodies) (looked_in bodies)

    -- The slots that an index finds by the fattened box are such.
    covered : (index : FinMap nat_cmp Bounds) (margin : ℕ) → meets space to ≡ true → AreInSpace bodies → AreAmong bodies index → Reaches margin most
        → (k : ℕ) → is_some (within bodies to most k) ≡ true → is_found index (Region (fattened to margin)) k ≡ true
    covered index margin here in_space among reaches k = by_box (get bodies k) refl
      where
        by_box : (o : Option Bounds) → get bodies k ≡ o → is_some (within_of to most k o) ≡ true → meets_query (Region (fattened to margin)) (get index k) ≡ true
        by_box None e h = absurd (false≢true h)
        by_box (Some b) e h =
            let le : square_apart to b ≤ most = near_le (square_apart to b) (some_if (nat_le (square_apart to b) most) (record { slot = k; square = square_apart to b }) h) in
            ap (meets_query (Region (fattened to margin))) (among k b e) ∙ near_meets to here b (in_space k b e) margin most reaches le

    -- So what is kept of its slots are the boxes within the distance.
    pub gathered_by : (index : FinMap nat_cmp Bounds) (margin : ℕ) → meets space to ≡ true → AreInSpace bodies → AreAmong bodies index → Reaches margin most
        → ((query : Query) → slots_rise (found index query) ≡ true) → ((query : Query) (k : ℕ) → has_slot (found index query) k ≡ is_found index query k)
        → filter_map (within bodies to most) (found index (Region (fattened to margin))) ≡ all_within bodies to most
    gathered_by index margin here in_space among reaches rising members =
        gathered (found index (Region (fattened to margin))) (rising (Region (fattened to margin)))
        (λ k h. members (Region (fattened to margin)) k ∙ covered index margin here in_space among reaches k h)

-- where all pass
pub all_pass : {X : Type 0} (p : X → Bool) (xs : List X) → list_all p xs ≡ true → filter p xs ≡ xs
all_pass p [] h = refl
all_pass p (x ∷ xs) h = ap (λ b. cond b (x ∷ filter p xs) (filter p xs)) (first_so _ _ h) ∙ ap (λ l. x ∷ l) (all_pass p xs (second_so _ _ h))

-- Where no limit is set all boxes in space are within it.
pub all_gathered : (to : Bounds) (bodies : FinMap nat_cmp Bounds) → meets space to ≡ true → AreInSpace bodies
    → all_within bodies to 340282366920938463463374607431768211455 ≡ map (seen_about to) (entries bodies)
all_gathered to bodies here in_space =
    all_pass (is_within 340282366920938463463374607431768211455) (map (seen_about to) (entries bodies)) (each (entries bodies) (looked_in bodies))
  where
    le_near : (a most : ℕ) → a ≤ most → nat_le a most ≡ true
    le_near a most h = grind (arith, nat_tests)

    each : (es : List (ℕ × Bounds)) → Looked (get bodies) es
        → list_all (is_within 340282366920938463463374607431768211455) (map (seen_about to) es) ≡ true
    each [] l = refl
    each (e ∷ es) l =
        both_true (le_near (square_apart to e.1) 340282366920938463463374607431768211455 (all_near to here e.1 (in_space e.0 e.1 l.0))) (each es l.1)
