-- The pairs of live boxes stand in order.
use Rattle.std.proofs.Common.{◌≡◌, ℕ, Bool, true, false, cond, List, [], ◌∷◌, ◌++◌, map, filter, refl, ◌∙◌, arith, nat_lt}
use Rattle.std.specs.List.{list_all}
use Rattle.std.specs.Cmp.{first_so, second_so}
use Rattle.std.specs.Cmp.Derive.{both_true}
use Rattle.std.proofs.lemmas.Bool.Decides.{nat_tests}
use Rattle.std.proofs.lemmas.List.Folds.{list_all-append}
use Rattle.live_table.specs.declared.live.Live.{Live}
use Rattle.live_table.specs.Entries.{slot_of, rises as slots_rise}
use Rattle.pair_events.specs.declared.hpair.HPair.{HPair}
use Rattle.pair_events.specs.PairEvents.{precedes, rises, is_in_order}
use Rattle.live_queries.specs.Pairs.{may_touch, partners, pairs_of}

-- the slots of boxes are above one
abbrev above : ℕ → List Live → Bool
above slot es = list_all (λ o. nat_lt slot (slot_of o)) es

by_first : (p q : HPair) → nat_lt p.a.slot q.a.slot ≡ true → precedes p q ≡ true
by_first p q lt = rw lt refl

by_second : (p q : HPair) → p.a.slot ≡ q.a.slot → nat_lt p.b.slot q.b.slot ≡ true → precedes p q ≡ true
by_second p q same lt = grind (arith, nat_tests)

abbrev rising_pair : HPair → Bool
rising_pair p = nat_lt p.a.slot p.b.slot

abbrev pair : Live → Live → HPair
pair a b = record { a = a.handle; b = b.handle }

partners_behind : (a b : Live) (later : List Live) → above (slot_of b) later ≡ true → list_all (precedes (pair a b)) (partners a later) ≡ true
partners_behind a b [] h = refl
partners_behind a b (e ∷ later) h =
    let rest : list_all (precedes (pair a b)) (partners a later) ≡ true = partners_behind a b later (second_so _ _ h) in
    elim (may_touch a e) as (λ m. list_all (precedes (pair a b)) (map (pair a) (cond m (e ∷ filter (may_touch a) later) (filter (may_touch a) later))) ≡ true) [
      | true ↦ both_true (by_second (pair a b) (pair a e) refl (first_so _ _ h)) rest
      | false ↦ rest
    ]

partners_rise : (a : Live) (later : List Live) → slots_rise later ≡ true → rises (partners a later) ≡ true
partners_rise a [] h = refl
partners_rise a (e ∷ later) h =
    let rest : rises (partners a later) ≡ true = partners_rise a later (second_so _ _ h) in
    elim (may_touch a e) as (λ m. rises (map (pair a) (cond m (e ∷ filter (may_touch a) later) (filter (may_touch a) later))) ≡ true) [
      | true ↦ both_true (partners_behind a e later (first_so _ _ h)) rest
      | false ↦ rest
    ]

partners_up : (a : Live) (later : List Live) → above (slot_of a) later ≡ true → list_all rising_pair (partners a later) ≡ true
partners_up a [] h = refl
partners_up a (e ∷ later) h =
    let rest : list_all rising_pair (partners a later) ≡ true = partners_up a later (second_so _ _ h) in
    elim (may_touch a e) as (λ m. list_all rising_pair (map (pair a) (cond m (e ∷ filter (may_touch a) later) (filter (may_touch a) later))) ≡ true) [
      | true ↦ both_true (first_so _ _ h) rest
      | false ↦ rest
    ]

before_partners : (p : HPair) (a : Live) (later : List Live) → nat_lt p.a.slot (slot_of a) ≡ true → list_all (precedes p) (partners a later) ≡ true
before_partners p a [] lt = refl
before_partners p a (e ∷ later) lt =
    let rest : list_all (precedes p) (partners a later) ≡ true = before_partners p a later lt in
    elim (may_touch a e) as (λ m. list_all (precedes p) (map (pair a) (cond m (e ∷ filter (may_touch a) later) (filter (may_touch a) later))) ≡ true) [
      | true ↦ both_true (by_first p (pair a e) lt) rest
      | false ↦ rest
    ]

before_pairs : (p : HPair) (es : List Live) → above p.a.slot es ≡ true → list_all (precedes p) (pairs_of es) ≡ true
before_pairs p [] h = refl
before_pairs p (a ∷ later) h =
    list_all-append (precedes p) (partners a later) (pairs_of later)
    ∙ both_true (before_partners p a later (first_so _ _ h)) (before_pairs p later (second_so _ _ h))

partners_before : (a : Live) (later es : List Live) → above (slot_of a) es ≡ true → rises (partners a later) ≡ true → rises (pairs_of es) ≡ true
    → rises (partners a later ++ pairs_of es) ≡ true
partners_before a [] es h = λ r s. s
partners_before a (e ∷ later) es h =
    elim (may_touch a e) as (λ m. rises (map (pair a) (cond m (e ∷ filter (may_touch a) later) (filter (may_touch a) later))) ≡ true
    → rises (pairs_of es) ≡ true
    → rises (map (pair a) (cond m (e ∷ filter (may_touch a) later) (filter (may_touch a) later)) ++ pairs_of es) ≡ true) [
      | true ↦ λ r s. both_true (list_all-append (precedes (pair a e)) (partners a later) (pairs_of es)
          ∙ both_true (first_so _ _ r) (before_pairs (pair a e) es h)) (partners_before a later es h (second_so _ _ r) s)
      | false ↦ λ r s. partners_before a later es h r s
    ]

pairs_rise : (es : List Live) → slots_rise es ≡ true → rises (pairs_of es) ≡ true
pairs_rise [] h = refl
pairs_rise (a ∷ later) h = partners_before a later later (first_so _ _ h) (partners_rise a later (second_so _ _ h)) (pairs_rise later (second_so _ _ h))

pairs_up : (es : List Live) → slots_rise es ≡ true → list_all rising_pair (pairs_of es) ≡ true
pairs_up [] h = refl
pairs_up (a ∷ later) h =
    list_all-append rising_pair (partners a later) (pairs_of later) ∙ both_true (partners_up a later (first_so _ _ h)) (pairs_up later (second_so _ _ h))

pub pairs_in_order : (es : List Live) → slots_rise es ≡ true → is_in_order (pairs_of es) ≡ true
pairs_in_order es h = both_true (pairs_up es h) (pairs_rise es h)
