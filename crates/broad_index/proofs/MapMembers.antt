-- The members of what is found in a map, and that they rise.
use Rattle.std.proofs.Common.{◌≡◌, ℕ, ◌<◌, ◌≤◌, Bool, true, false, cond, not, ◌&&◌, ◌||◌, ◌==◌, nat_lt, List, [], ◌∷◌, map, Option, Some, None, refl}
use Rattle.std.proofs.Common.{sym, ap, ◌∙◌, arith, inl, inr, subst}
use Rattle.std.specs.List.{filter}
use Rattle.std.specs.Ordering.{nat_cmp}
use Rattle.std.specs.Cmp.{first_so, second_so}
use Rattle.std.specs.FinMap.{FinMap, entries, entries_sorted, is_sorted, find, get, get-entries}
use Rattle.std.specs.FinMap.Entries.{below_all}
use Rattle.std.proofs.lemmas.Bool.{eqb-true, cases_Bool, ltb-true}
use Rattle.std.proofs.lemmas.Bool.Decides.{nat_tests}
use Rattle.std.proofs.lemmas.List.Folds.{list_any-append}
use Rattle.fixed_box.specs.Bounds.{Bounds, meets}
use Rattle.broad_index.specs.declared.pair.Pair.{Pair}
use Rattle.broad_index.specs.declared.query.Query.{Query}
use Rattle.broad_index.specs.Found.{found, listed, query_meets}
use Rattle.slot_lists.specs.RisingLaws.{filtered_rise, mapped_rise}
use Rattle.broad_index.specs.Near.{partners, near_of, near}
use Rattle.broad_index.specs.NearRises.{slot_lt, entries_rise}
use Rattle.fixed_box.proofs.Bools.{true_from, or_false, and_false, and_true}
use Rattle.broad_index.specs.Members.{same_pair, has_pair, has_slot, slots_rise, both_meet, is_near, passes, is_listed, meets_query, is_found, is_reached}
use Rattle.broad_index.specs.Reach.{reach, reach_of}
use Rattle.fixed_box.proofs.Numbers.{lt_from, eq_cmp, eq_le}

pub not_eq : (k x : ℕ) → x < k → (k == x) ≡ false
not_eq k x l = grind (arith, nat_tests)

not_same : (a b x : ℕ) → a < b → a ≡ x → (b == x) ≡ false
not_same a b x l e = grind (arith, nat_tests)

less_le : (a b x : ℕ) → a < b → b ≡ x → a ≤ x
less_le a b x l e = omega arith

none_less : (a b : ℕ) → nat_lt a b ≡ false → b ≤ a
none_less a b l = grind (arith, nat_tests)

-- the entries of which a slot is looked for
abbrev at : ℕ → List (ℕ × Bounds) → Option Bounds
at k es = find nat_cmp k es

at_cons : (k : ℕ) (e : ℕ × Bounds) (es : List (ℕ × Bounds)) → at k (e ∷ es) ≡ cond (k == e.0) (Some e.1) (at k es)
at_cons k e es = ap (λ b. cond b (Some e.1) (at k es)) (eq_cmp k e.0)

none_below : (k x : ℕ) (es : List (ℕ × Bounds)) → k ≤ x → below_all nat_cmp x es ≡ true → at k es ≡ None
none_below k x [] le h = refl
none_below k x (e ∷ es) le h =
    let lt : x < e.0 = lt_from x e.0 (first_so _ _ h) in
    let ne : (k == e.0) ≡ false = grind (arith, nat_tests) in
    at_cons k e es ∙ ap (λ b. cond b (Some e.1) (at k es)) ne ∙ none_below k x es le (second_so _ _ h)

abbrev pub slots_where : (ℕ × Bounds → Bool) → List (ℕ × Bounds) → List ℕ
slots_where p es = map (λ e. e.0) (filter p es)

pub has_cons : (p : ℕ × Bounds → Bool) (k : ℕ) (e : ℕ × Bounds) (es : List (ℕ × Bounds))
    → has_slot (slots_where p (e ∷ es)) k ≡ ((p e && (k == e.0)) || has_slot (slots_where p es) k)
has_cons p k e es =
    elim (p e) as
    (λ b. has_slot (map (λ e. e.0) (cond b (e ∷ filter p es) (filter p es))) k
    ≡ ((b && (k == e.0)) || has_slot (slots_where p es) k)) [ true ↦ refl | false ↦ refl ]

pub has_where : (p : ℕ × Bounds → Bool) (k : ℕ) (es : List (ℕ × Bounds)) → is_sorted nat_cmp es ≡ true → has_slot (slots_where p es) k ≡ passes p k (at k es)
has_where p k [] h = refl
has_where p k (e ∷ es) h =
    let rest : has_slot (slots_where p es) k ≡ passes p k (at k es) = has_where p k es (second_so _ _ h) in
    has_cons p k e es ∙ elim (cases_Bool (k == e.0)) as (λ _. ((p e && (k == e.0)) || has_slot (slots_where p es) k) ≡ passes p k (at k (e ∷ es))) [
      | inl t ↦
          let same : k ≡ e.0 = eqb-true k e.0 t in
          let le : k ≤ e.0 = eq_le k e.0 same in
          let none : at k es ≡ None = none_below k e.0 es le (first_so _ _ h) in
          let gone : has_slot (slots_where p es) k ≡ false = rest ∙ ap (passes p k) none in
          let here : at k (e ∷ es) ≡ Some e.1 = at_cons k e es ∙ ap (λ b. cond b (Some e.1) (at k es)) t in
          ap (λ b. (p e && b) || has_slot (slots_where p es) k) t ∙ ap (λ b. (p e && true) || b) gone ∙ or_false (p e && true) ∙ and_true (p e)
          ∙ sym (ap (passes p k) here ∙ ap (λ x. p (x, e.1)) same)
      | inr f ↦
          let past : at k (e ∷ es) ≡ at k es = at_cons k e es ∙ ap (λ b. cond b (Some e.1) (at k es)) f in
          ap (λ b. (p e && b) || has_slot (slots_where p es) k) f ∙ ap (λ b. b || has_slot (slots_where p es) k) (and_false (p e)) ∙ rest
          ∙ sym (ap (passes p k) past)
    ]

-- slots of sorted entries rise
pub where_rise : (p : ℕ × Bounds → Bool) (es : List (ℕ × Bounds)) → is_sorted nat_cmp es ≡ true → slots_rise (slots_where p es) ≡ true
where_rise p es h = mapped_rise slot_lt nat_lt (λ e. e.0) (λ e f lt. lt) (filter p es) (filtered_rise slot_lt p es (entries_rise es h))

-- ---- pairs
has_partners : (p : Pair) (slot : ℕ) (body : Bounds) (later : List (ℕ × Bounds))
    → has_pair (partners slot body later) p ≡ ((p.a == slot) && has_slot (slots_where (λ e. meets body e.1) later) p.b)
has_partners p slot body [] = sym (and_false (p.a == slot))
has_partners p slot body (e ∷ later) =
    let rest = has_partners p slot body later in
    elim (meets body e.1) as
    (λ m. has_pair (map (λ e. record { a = slot; b = e.0 }) (cond m (e ∷ filter (λ e. meets body e.1) later) (filter (λ e. meets body e.1) later))) p
    ≡ ((p.a == slot) && has_slot (map (λ e. e.0) (cond m (e ∷ filter (λ e. meets body e.1) later) (filter (λ e. meets body e.1) later))) p.b)) [
      | true ↦ ap (λ b. ((p.a == slot) && (p.b == e.0)) || b) rest ∙ spread (p.a == slot) (p.b == e.0) (has_slot (slots_where (λ e. meets body e.1) later) p.b)
      | false ↦ rest
    ]
  where
    spread : (a b c : Bool) → ((a && b) || (a && c)) ≡ (a && (b || c))
    spread true b c = refl
    spread false b c = refl

-- of which pairs the entries are near
abbrev near_at : List (ℕ × Bounds) → Pair → Bool
near_at es p = nat_lt p.a p.b && both_meet (at p.a es) (at p.b es)

meet_some : (body : Bounds) (o : Option Bounds) (k : ℕ) → passes (λ e. meets body e.1) k o ≡ both_meet (Some body) o
meet_some body None k = refl
meet_some body (Some b) k = refl

pub has_near_of : (es : List (ℕ × Bounds)) (p : Pair) → is_sorted nat_cmp es ≡ true → has_pair (near_of es) p ≡ near_at es p
has_near_of [] p h = sym (and_false (nat_lt p.a p.b))
has_near_of (e ∷ es) p h =
    let below : below_all nat_cmp e.0 es ≡ true = first_so _ _ h in
    let sorted : is_sorted nat_cmp es ≡ true = second_so _ _ h in
    let mine : has_pair (partners e.0 e.1 es) p ≡ ((p.a == e.0) && both_meet (Some e.1) (at p.b es)) =
    has_partners p e.0 e.1 es ∙ ap (λ b. (p.a == e.0) && b) (has_where (λ x. meets e.1 x.1) p.b es sorted ∙ meet_some e.1 (at p.b es) p.b) in
    let parts : has_pair (near_of (e ∷ es)) p ≡ (((p.a == e.0) && both_meet (Some e.1) (at p.b es)) || near_at es p) =
    list_any-append (same_pair p) (partners e.0 e.1 es) (near_of es) ∙ ap (λ b. b || has_pair (near_of es) p) mine
    ∙ ap (λ b. ((p.a == e.0) && both_meet (Some e.1) (at p.b es)) || b) (has_near_of es p sorted) in
    parts ∙ elim (cases_Bool (p.a == e.0)) as (λ _. (((p.a == e.0) && both_meet (Some e.1) (at p.b es)) || near_at es p) ≡ near_at (e ∷ es) p) [
      | inl t ↦
          let same : p.a ≡ e.0 = eqb-true p.a e.0 t in
          let le_a : p.a ≤ e.0 = eq_le p.a e.0 same in
          let gone : at p.a es ≡ None = none_below p.a e.0 es le_a below in
          let here : at p.a (e ∷ es) ≡ Some e.1 = at_cons p.a e es ∙ ap (λ b. cond b (Some e.1) (at p.a es)) t in
          let left : (((p.a == e.0) && both_meet (Some e.1) (at p.b es)) || near_at es p) ≡ both_meet (Some e.1) (at p.b es) =
          ap (λ b. (b && both_meet (Some e.1) (at p.b es)) || near_at es p) t
          ∙ ap (λ o. both_meet (Some e.1) (at p.b es) || (nat_lt p.a p.b && both_meet o (at p.b es))) gone
          ∙ ap (λ b. both_meet (Some e.1) (at p.b es) || b) (and_false (nat_lt p.a p.b)) ∙ or_false _ in
          left ∙ elim (cases_Bool (nat_lt p.a p.b)) as (λ _. both_meet (Some e.1) (at p.b es) ≡ near_at (e ∷ es) p) [
            | inl l ↦
                let lt : p.a < p.b = ltb-true p.a p.b l in
                let ne : (p.b == e.0) ≡ false = not_same p.a p.b e.0 lt same in
                let past : at p.b (e ∷ es) ≡ at p.b es = at_cons p.b e es ∙ ap (λ b. cond b (Some e.1) (at p.b es)) ne in
                sym
                (ap (λ b. b && both_meet (at p.a (e ∷ es)) (at p.b (e ∷ es))) l ∙ ap (λ o. both_meet o (at p.b (e ∷ es))) here
                ∙ ap (λ o. both_meet (Some e.1) o) past)
            | inr l ↦
                let le : p.b ≤ e.0 = subst (λ x. p.b ≤ x) same (none_less p.a p.b l) in
                let none : at p.b es ≡ None = none_below p.b e.0 es le below in
                ap (λ o. both_meet (Some e.1) o) none ∙ sym (ap (λ b. b && both_meet (at p.a (e ∷ es)) (at p.b (e ∷ es))) l)
          ]
      | inr f ↦
          let past_a : at p.a (e ∷ es) ≡ at p.a es = at_cons p.a e es ∙ ap (λ b. cond b (Some e.1) (at p.a es)) f in
          ap (λ b. (b && both_meet (Some e.1) (at p.b es)) || near_at es p) f ∙ elim (cases_Bool (p.b == e.0)) as (λ _. near_at es p ≡ near_at (e ∷ es) p) [
            | inl t ↦ elim (cases_Bool (nat_lt p.a p.b)) as (λ _. near_at es p ≡ near_at (e ∷ es) p) [
              | inl l ↦
                  let lt : p.a < p.b = ltb-true p.a p.b l in
                  let same : p.b ≡ e.0 = eqb-true p.b e.0 t in
                  let le_a : p.a ≤ e.0 = less_le p.a p.b e.0 lt same in
                  let none : at p.a es ≡ None = none_below p.a e.0 es le_a below in
                  ap (λ o. nat_lt p.a p.b && both_meet o (at p.b es)) none ∙ sym (ap (λ o. nat_lt p.a p.b && both_meet o (at p.b (e ∷ es))) (past_a ∙ none))
              | inr l ↦ ap (λ b. b && both_meet (at p.a es) (at p.b es)) l ∙ sym (ap (λ b. b && both_meet (at p.a (e ∷ es)) (at p.b (e ∷ es))) l)
            ]
            | inr g ↦
                let past_b : at p.b (e ∷ es) ≡ at p.b es = at_cons p.b e es ∙ ap (λ b. cond b (Some e.1) (at p.b es)) g in
                sym (ap (λ o. nat_lt p.a p.b && both_meet o (at p.b (e ∷ es))) past_a ∙ ap (λ o. nat_lt p.a p.b && both_meet (at p.a es) o) past_b)
          ]
    ]

module _ (bodies : FinMap nat_cmp Bounds) where
  sorted : is_sorted nat_cmp (entries bodies) ≡ true
  sorted = true_from _ (entries_sorted bodies)

  pub near_members : (p : Pair) → has_pair (near bodies) p ≡ is_near bodies p
  near_members p =
      has_near_of (entries bodies) p sorted
      ∙ sym
      (ap (λ o. nat_lt p.a p.b && both_meet o (get bodies p.b)) (get-entries bodies p.a)
      ∙ ap (λ o. nat_lt p.a p.b && both_meet (at p.a (entries bodies)) o) (get-entries bodies p.b))

  pub listed_members : (p : ℕ × Bounds → Bool) (k : ℕ) → has_slot (listed p bodies) k ≡ is_listed p bodies k
  listed_members p k = has_where p k (entries bodies) sorted ∙ sym (ap (passes p k) (get-entries bodies k))

  pub listed_rises : (p : ℕ × Bounds → Bool) → slots_rise (listed p bodies) ≡ true
  listed_rises p = where_rise p (entries bodies) sorted

  pub found_members : (query : Query) (k : ℕ) → has_slot (found bodies query) k ≡ is_found bodies query k
  found_members query k =
      has_where (λ e. query_meets query e.1) k (entries bodies) sorted ∙ by_query (at k (entries bodies)) ∙ sym (ap (meets_query query) (get-entries bodies k))
    where
      by_query : (o : Option Bounds) → passes (λ e. query_meets query e.1) k o ≡ meets_query query o
      by_query None = refl
      by_query (Some b) = refl

  pub found_rises : (query : Query) → slots_rise (found bodies query) ≡ true
  found_rises query = where_rise (λ e. query_meets query e.1) (entries bodies) sorted

  pub reach_members : (slot k : ℕ) → has_slot (reach bodies slot) k ≡ is_reached bodies slot k
  reach_members slot k = by_box (get bodies slot)
    where
      by_other : (body : Bounds) (o : Option Bounds) → passes (λ e. not (e.0 == slot) && meets body e.1) k o ≡ (not (k == slot) && both_meet (Some body) o)
      by_other body None = sym (and_false (not (k == slot)))
      by_other body (Some b) = refl

      by_box : (box : Option Bounds) → has_slot (reach_of slot box (entries bodies)) k ≡ (not (k == slot) && both_meet box (get bodies k))
      by_box None = sym (and_false (not (k == slot)))
      by_box (Some body) =
          has_where (λ e. not (e.0 == slot) && meets body e.1) k (entries bodies) sorted ∙ by_other body (at k (entries bodies))
          ∙ sym (ap (λ o. not (k == slot) && both_meet (Some body) o) (get-entries bodies k))

  pub reach_rises : (slot : ℕ) → slots_rise (reach bodies slot) ≡ true
  reach_rises slot =
      elim (get bodies slot) as
      (λ o. slots_rise (reach_of slot o (entries bodies))
      ≡ true) [ None ↦ refl | Some body ↦ where_rise (λ e. not (e.0 == slot) && meets body e.1) (entries bodies) sorted ]
