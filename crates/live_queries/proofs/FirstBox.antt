-- A search for the box that is met first: what each box that is shown, and each hull that is passed by, makes of the first so far.
use Rattle.std.proofs.Common.{◌≡◌, refl, sym, ap, ◌∙◌, subst, ℕ, Bool, true, false, not, cond, List, [], ◌∷◌, ◌++◌, filter, Option, None, Some}
use Rattle.std.proofs.Common.{IsTrue, is_some, option_map, inl, inr, ◌==◌}
use Rattle.std.specs.List.{All, Contains}
use Rattle.std.specs.Option.{option_cmp}
use Rattle.std.specs.Ordering.{nat_cmp, is_lt, is_gt, ordering_then, ordering_reverse}
use Rattle.std.specs.declared.cmp.Ordering.{Ordering}
use Rattle.std.specs.declared.cmp.Ordering.TheVariants.{Less, Equal, Greater}
use Rattle.std.specs.Cmp.{first_so, ranked}
use Rattle.std.proofs.lemmas.Bool.{cases_Bool, true≢false}
use Rattle.std.proofs.lemmas.Cmp.{upto, tied_itself, tied_back, alike_right}
use Rattle.std.proofs.lemmas.List.Elements.{All-contains, All-from_recursion, Contains-append_cases}
use Rattle.std.proofs.lemmas.List.Sorted.{Contains-permutation}
use Rattle.fixed_box.specs.Bounds.{Bounds, encloses}
use Rattle.ray_slabs.specs.Crossing.{Fraction}
use Rattle.ray_slabs.specs.First.{value_cmp}
use Rattle.ray_slabs.specs.FirstLaws.{value_total}
use Rattle.box_cast.specs.Cast.{IsSameValue}
use Rattle.ordered_lists.specs.Ordered.{ordered_by}
use Rattle.ordered_lists.specs.OrderedLaws.{ordered_moves, ordered_member, ordered_ascends}
use Rattle.ordered_lists.specs.Ascending.{Ascends, equal_is}
use Rattle.live_table.specs.declared.live.Live.{Live}
use Rattle.live_table.specs.declared.handle.Handle.{Handle}
use Rattle.live_table.specs.Bodies.{slots_with_bodies}
use Rattle.live_table.specs.Entries.{slot_of, live_at}
use Rattle.live_table.specs.Table.{Table, IsTable}
use Rattle.live_queries.specs.declared.groups.Groups.{Groups}
use Rattle.live_queries.specs.declared.hit.Hit.{Hit}
use Rattle.live_queries.specs.declared.face.Face.{Face}
use Rattle.live_queries.specs.declared.first_hit.FirstHit.{FirstHit}
use Rattle.live_queries.specs.Beside.{IsBeside, IsHit, passing, met_at}
use Rattle.live_queries.specs.First.{IsHitOf, IsHitOfFirst, first_of}
use Rattle.live_queries.specs.FirstSeen.{IsMetNoLater, IsSeenMet, IsFirstSeen, FirstSeen, IsToldOf, IsBehind, by_hit, of_fewer, sooner}
use Rattle.live_queries.specs.Pairs.{is_asked_for}
use Rattle.live_queries.specs.Queries.{handles, is_met, by_place, met_in_order}
use Rattle.live_queries.proofs.Members.{here, there, head_or_later, nothing, passes, passed, mapped}
use Rattle.live_queries.proofs.MetOnWay.{agree, last_tied}
use Rattle.live_queries.proofs.PlaceLaws.{some_of}
use Rattle.live_queries.proofs.QueryLaws.{place_total}
use Rattle.live_queries.proofs.Touches.{AreFound, all_found}

-- ---- orders

less_not_greater : (o : Ordering) → is_lt o ≡ true → is_gt o ≡ false
less_not_greater Less e = refl
less_not_greater Equal e = refl
less_not_greater Greater e = sym e

back_not_greater : (o : Ordering) → is_lt o ≡ false → is_gt (ordering_reverse o) ≡ false
back_not_greater Less e = e
back_not_greater Equal e = refl
back_not_greater Greater e = refl

equal_of : (o : Ordering) → is_lt o ≡ false → is_gt o ≡ false → o ≡ Equal
equal_of Less e f = let no : ⊥ = cc in absurd no
equal_of Equal e f = refl
equal_of Greater e f = let no : ⊥ = cc in absurd no

-- a hull that is met at a place behind the first so far
pub behind_by : (at : Option Fraction) (u : Fraction) → IsSameValue (Some u) at → (hit : Hit) → not (is_gt (value_cmp u hit.entry)) ≡ false
    → IsBehind at (Some hit)
behind_by None u same hit out t e = absurd same
behind_by (Some v) u same hit out t e =
    let met : v ≡ t = cc in
    ap is_gt (sym (value_total.congr u t hit.entry (ap (value_cmp u) (sym met) ∙ equal_is (value_cmp u v) same)))
    ∙ was_true (is_gt (value_cmp u hit.entry)) out
  where
    was_true : (b : Bool) → not b ≡ false → b ≡ true
    was_true true f = refl
    was_true false f = sym f

pub unmet_by : (at : Option Fraction) → IsSameValue None at → (hit : Hit) → IsBehind at (Some hit)
unmet_by None same hit t e = let no : ⊥ = cc in absurd no
unmet_by (Some v) same hit t e = absurd same

-- what is later than a place that w is before comes behind w
strictly : (s t w : Fraction) → is_gt (value_cmp s w) ≡ true → is_gt (value_cmp s t) ≡ false → value_cmp w t ≡ Less
strictly s t w gt le = by_case (value_cmp w t) refl
  where
    clash : is_gt (value_cmp t w) ≡ false → ⊥
    clash back = true≢false (sym gt ∙ upto value_total s t w le back)

    by_case : (o : Ordering) → value_cmp w t ≡ o → o ≡ Less
    by_case Less e = refl
    by_case Equal e = absurd (clash (ap is_gt (value_total.antisymm t w) ∙ ap (λ r. is_gt (ordering_reverse r)) e))
    by_case Greater e = absurd (clash (ap is_gt (value_total.antisymm t w) ∙ ap (λ r. is_gt (ordering_reverse r)) e))

-- ---- the first so far

module _ (place : Bounds → Option Fraction) (groups : Groups) (entries : List Live) where
  -- boxes that aren't met and asked for change nothing
  none_more : (best : Option Hit) (shown more : List (ℕ × Bounds)) → FirstSeen place groups entries best shown
      → ((e : Live) → IsSeenMet place groups entries more e → ⊥) → FirstSeen place groups entries best (shown ++ more)
  none_more best shown more has none =
      of_fewer place groups entries best shown (shown ++ more)
      (λ e is. record {
        seen = elim (Contains-append_cases shown more (slot_of e, e.body) is.seen) as (λ _. Contains shown (slot_of e, e.body)) [
          | inl c ↦ c
          | inr c ↦ absurd (none e (record { seen = c; live = is.live; met = is.met }))
        ];
        live = is.live;
        met = is.met;
      }) has

  place_is_some : (e : Live) → is_met place groups e ≡ true → is_some (place e.body) ≡ true
  place_is_some e met = first_so (is_some (place e.body)) (is_asked_for groups e) met

  -- boxes that the query misses
  pub missed : (meets : Bounds → Bool) → ((b : Bounds) → meets b ≡ is_some (place b)) → (best : Option Hit) (shown more : List (ℕ × Bounds))
      → FirstSeen place groups entries best shown → All (λ e. meets e.1 ≡ false) more → FirstSeen place groups entries best (shown ++ more)
  missed meets asks best shown more has out =
      none_more best shown more has
      (λ e is. true≢false (sym (place_is_some e is.met) ∙ sym (asks e.body)
      ∙ All-contains (λ x. meets x.1 ≡ false) more (slot_of e, e.body) out is.seen))

  module _ (law : (outer inner : Bounds) → IsTrue (encloses outer inner) → IsMetNoLater (place outer) (place inner)) (hull : Bounds) where
    -- boxes in a hull that isn't met
    pub passed_unmet : is_some (place hull) ≡ false → (best : Option Hit) (shown more : List (ℕ × Bounds)) → FirstSeen place groups entries best shown
        → All (λ e. IsTrue (encloses hull e.1)) more → FirstSeen place groups entries best (shown ++ more)
    passed_unmet unmet best shown more has inside =
        none_more best shown more has
        (λ e is.
        let t = some_of (place e.body) (place_is_some e is.met) in
        let s = law hull e.body (All-contains (λ x. IsTrue (encloses hull x.1)) more (slot_of e, e.body) inside is.seen) t.0 t.1 in
        true≢false (sym (ap is_some s.1.0) ∙ unmet))

    -- a box in a hull that is met behind the first so far
    behind : (hit : Hit) → IsBehind (place hull) (Some hit) → (entry : Live) → IsHit place entries hit entry → (other : Live)
        → IsTrue (encloses hull other.body) → is_met place groups other ≡ true → is_gt (by_place place entry other) ≡ false
    behind hit late entry is other inside met =
        let t = some_of (place other.body) (place_is_some other met) in
        let s = law hull other.body inside t.0 t.1 in
        let w = valued hit.entry (place entry.body) is.same in
        let later : is_gt (value_cmp s.0 w.0) ≡ true =
        ap is_gt (alike_right value_total w.0 hit.entry s.0 (tied_back value_total hit.entry w.0 w.1.1)) ∙ late s.0 s.1.0 in
        let less : value_cmp w.0 t.0 ≡ Less = strictly s.0 t.0 w.0 later s.1.1 in
        (λ i. is_gt (ordering_then (option_cmp value_cmp (w.1.0 i) (t.1 i)) (nat_cmp (slot_of entry) (slot_of other))))
        ∙ ap (λ o. is_gt (ordering_then o (nat_cmp (slot_of entry) (slot_of other)))) less
      where
        valued : (a : Fraction) (o : Option Fraction) → IsSameValue (Some a) o → (b : Fraction) × ((o ≡ Some b) × (value_cmp a b ≡ Equal))
        valued a None h = absurd h
        valued a (Some b) h = (b, (refl, equal_is (value_cmp a b) h))

    pub passed_behind : (best : Option Hit) → IsBehind (place hull) best → (shown more : List (ℕ × Bounds)) → FirstSeen place groups entries best shown
        → All (λ e. IsTrue (encloses hull e.1)) more → FirstSeen place groups entries best (shown ++ more)
    passed_behind None late shown more has inside = absurd late
    passed_behind (Some hit) late shown more has inside = record {
      entry = has.entry;
      is = has.is;
      met = has.met;
      first = λ other is. elim (Contains-append_cases shown more (slot_of other, other.body) is.seen) as
          (λ _. is_gt (by_place place has.entry other) ≡ false) [
            | inl c ↦ has.first other (record { seen = c; live = is.live; met = is.met })
            | inr c ↦ behind hit late has.entry has.is other
                (All-contains (λ x. IsTrue (encloses hull x.1)) more (slot_of other, other.body) inside c) is.met
          ];
    }

  -- ---- a box that is shown

  passing_at : (o : Option Live) (e : Live) → o ≡ Some e → is_met place groups e ≡ true → passing (is_met place groups) o ≡ Some e
  passing_at o e is met = ap (passing (is_met place groups)) is ∙ ap (λ b. cond b (Some e) None) met

  met_here : (slot : ℕ) (body : Bounds) (e : Live) → IsSeenMet place groups entries ((slot, body) ∷ []) e → met_at place groups entries slot ≡ Some e
  met_here slot body e is = elim (head_or_later (slot, body) [] (slot_of e, e.body) is.seen) as (λ _. met_at place groups entries slot ≡ Some e) [
    | inl s ↦ passing_at (live_at slot entries) e (ap (λ (x : ℕ × Bounds). live_at x.0 entries) s ∙ is.live) is.met
    | inr r ↦ absurd (nothing (slot_of e, e.body) r)
  ]

  -- one that isn't met or asked for
  pub met_none : (best : Option Hit) (shown : List (ℕ × Bounds)) (slot : ℕ) (body : Bounds)
      → IsBeside (IsHit place entries) None (met_at place groups entries slot) → FirstSeen place groups entries best shown
      → FirstSeen place groups entries best (shown ++ (slot, body) ∷ [])
  met_none best shown slot body beside has =
      none_more best shown ((slot, body) ∷ []) has (λ e is. subst (IsBeside (IsHit place entries) None) (met_here slot body e is) beside)

  -- the live box of a hit
  record IsMetAt (hit : Hit) (slot : ℕ) : Type 0 where
    entry : Live
    at : met_at place groups entries slot ≡ Some entry
    is : IsHit place entries hit entry
    met : is_met place groups entry ≡ true

  met_at_slot : (hit : Hit) (slot : ℕ) → IsBeside (IsHit place entries) (Some hit) (met_at place groups entries slot) → IsMetAt hit slot
  met_at_slot hit slot beside = by_live (live_at slot entries) refl beside
    where
      by_test : (b : Bool) (e : Live) → is_met place groups e ≡ b → live_at slot entries ≡ Some e
          → IsBeside (IsHit place entries) (Some hit) (cond b (Some e) None) → IsMetAt hit slot
      by_test true e met at is = record { entry = e; at = passing_at (live_at slot entries) e at met; is = is; met = met }
      by_test false e met at is = absurd is

      by_live : (o : Option Live) → live_at slot entries ≡ o → IsBeside (IsHit place entries) (Some hit) (passing (is_met place groups) o) → IsMetAt hit slot
      by_live None at is = absurd is
      by_live (Some e) at is = by_test (is_met place groups e) e refl at is

  tied : (e : Live) → is_gt (by_place place e e) ≡ false
  tied e = ap is_gt (tied_itself (place_total place) e)

  -- one that is met and asked for
  pub met_some : (hit : Hit) (best : Option Hit) (shown : List (ℕ × Bounds)) (slot : ℕ) (body : Bounds)
      → IsBeside (IsHit place entries) (Some hit) (met_at place groups entries slot) → FirstSeen place groups entries best shown
      → FirstSeen place groups entries (Some (sooner hit best)) (shown ++ (slot, body) ∷ [])
  met_some hit best shown slot body beside has = by_best best has
    where
      here_is : IsMetAt hit slot
      here_is = met_at_slot hit slot beside

      one : (other : Live) → IsSeenMet place groups entries ((slot, body) ∷ []) other → here_is.entry ≡ other
      one other is = let same : Some here_is.entry ≡ Some other = sym here_is.at ∙ met_here slot body other is in let e : here_is.entry ≡ other = cc in e

      first_by : (entry : Live) → ((other : Live) → IsSeenMet place groups entries shown other → is_gt (by_place place entry other) ≡ false)
          → is_gt (by_place place entry here_is.entry) ≡ false → (other : Live) → IsSeenMet place groups entries (shown ++ (slot, body) ∷ []) other
          → is_gt (by_place place entry other) ≡ false
      first_by entry before this other is =
          elim (Contains-append_cases shown ((slot, body) ∷ []) (slot_of other, other.body) is.seen) as (λ _. is_gt (by_place place entry other) ≡ false) [
            | inl c ↦ before other (record { seen = c; live = is.live; met = is.met })
            | inr c ↦ subst (λ o. is_gt (by_place place entry o) ≡ false) (one other (record { seen = c; live = is.live; met = is.met })) this
          ]

      by_best : (best : Option Hit) → FirstSeen place groups entries best shown
          → FirstSeen place groups entries (Some (sooner hit best)) (shown ++ (slot, body) ∷ [])
      by_best None has = record {
        entry = here_is.entry;
        is = here_is.is;
        met = here_is.met;
        first = first_by here_is.entry (λ other is. absurd (has other is)) (tied here_is.entry);
      }
      by_best (Some b) has =
          let order : by_hit b hit ≡ by_place place has.entry here_is.entry = agree place entries b hit has.entry here_is.entry has.is here_is.is in
          elim (cases_Bool (is_lt (by_hit b hit))) as
          (λ _. IsFirstSeen place groups entries (cond (is_lt (by_hit b hit)) b hit) (shown ++ (slot, body) ∷ [])) [
            | inl t ↦ subst (λ c. IsFirstSeen place groups entries (cond c b hit) (shown ++ (slot, body) ∷ [])) (sym t)
                (record {
                  entry = has.entry;
                  is = has.is;
                  met = has.met;
                  first = first_by has.entry has.first (less_not_greater (by_place place has.entry here_is.entry) (sym (ap is_lt order) ∙ t));
                })
            | inr f ↦ subst (λ c. IsFirstSeen place groups entries (cond c b hit) (shown ++ (slot, body) ∷ [])) (sym f)
                (record {
                  entry = here_is.entry;
                  is = here_is.is;
                  met = here_is.met;
                  first = first_by here_is.entry
                      (λ other is. upto (place_total place) here_is.entry has.entry other
                      (ap is_gt ((place_total place).antisymm here_is.entry has.entry)
                      ∙ back_not_greater (by_place place has.entry here_is.entry) (sym (ap is_lt order) ∙ f)) (has.first other is))
                      (tied here_is.entry);
                })
          ]

-- ---- all boxes

found_at : (all es : List Live) → AreFound all es → (e : Live) → Contains es e → live_at (slot_of e) all ≡ Some e
found_at all [] found e c = absurd (nothing e c)
found_at all (x ∷ es) found e c = elim (head_or_later x es e c) as (λ _. live_at (slot_of e) all ≡ Some e) [
  | inl s ↦ subst (λ o. live_at (slot_of o) all ≡ Some o) s found.0
  | inr r ↦ found_at all es found.1 e r
]

live_in : (k : ℕ) (es : List Live) (e : Live) → live_at k es ≡ Some e → Contains es e
live_in k [] e is = let no : ⊥ = cc in absurd no
live_in k (x ∷ es) e is = elim (cases_Bool (slot_of x == k)) as (λ _. Contains (x ∷ es) e) [
  | inl t ↦
      let found : Some x ≡ Some e = sym (ap (λ b. cond b (Some x) (live_at k es)) t) ∙ is in
      let one : x ≡ e = cc in subst (Contains (x ∷ es)) one (here x es)
  | inr f ↦ there x es e (live_in k es e (sym (ap (λ b. cond b (Some x) (live_at k es)) f) ∙ is))
]

pub none_seen : (place : Bounds → Option Fraction) (groups : Groups) (entries : List Live) → FirstSeen place groups entries None []
none_seen place groups entries = λ e is. nothing (slot_of e, e.body) is.seen

module _ (place : Bounds → Option Fraction) (side : Fraction → Bounds → Option Face) (groups : Groups) (t : Table) (is : IsTable t) where
  abbrev met : List Live
  met = filter (is_met place groups) t.entries

  seen_met : (e : Live) → Contains met e → IsSeenMet place groups t.entries (slots_with_bodies t.entries) e
  seen_met e c =
      let p = passed (is_met place groups) t.entries e c in
      record {
        seen = mapped (λ (x : Live). (slot_of x, x.body)) t.entries e p.0;
        live = found_at t.entries t.entries (all_found t.entries is.rising) e p.0;
        met = p.1;
      }

  -- the head of the boxes in order is the first
  head_is : (hit : Hit) (has : IsFirstSeen place groups t.entries hit (slots_with_bodies t.entries)) (ys : List Live) → ordered_by (by_place place) met ≡ ys
      → (told : FirstHit) → IsHitOf place side has.entry told → IsHitOfFirst place side ys (Some told)
  head_is hit has ys e told of = by_list ys e
    where
      among : Contains met has.entry
      among = passes (is_met place groups) t.entries has.entry (live_in (slot_of has.entry) t.entries has.entry has.is.live) has.met

      placed : Contains (ordered_by (by_place place) met) has.entry
      placed = Contains-permutation met (ordered_by (by_place place) met) has.entry (ordered_moves (by_place place) met) among

      by_list : (ys : List Live) → ordered_by (by_place place) met ≡ ys → IsHitOfFirst place side ys (Some told)
      by_list [] e = absurd (nothing has.entry (subst (λ l. Contains l has.entry) e placed))
      by_list (h ∷ hs) e =
          let up : Ascends (by_place place) (h ∷ hs) = subst (Ascends (by_place place)) e (ordered_ascends (by_place place) (place_total place) met) in
          let listed : Contains met h = ordered_member (by_place place) met h (subst (λ l. Contains l h) (sym e) (here h hs)) in
          let seen : IsSeenMet place groups t.entries (slots_with_bodies t.entries) h = seen_met h listed in
          let same : has.entry ≡ h = elim (head_or_later h hs has.entry (subst (λ l. Contains l has.entry) e placed)) as (λ _. has.entry ≡ h) [
            | inl s ↦ sym s
            | inr r ↦
                let equal : by_place place has.entry h ≡ Equal =
                equal_of (by_place place has.entry h)
                (All-contains (λ y. is_lt (by_place place y h) ≡ false) hs has.entry (All-from_recursion (λ y. is_lt (by_place place y h) ≡ false) hs up.0) r)
                (has.first h seen) in
                let slots : slot_of has.entry ≡ slot_of h =
                ranked (slot_of has.entry) (slot_of h) Equal
                (sym (last_tied place t.entries (option_cmp value_cmp (place has.entry.body) (place h.body)) (nat_cmp (slot_of has.entry) (slot_of h)) equal)) in
                let found : Some has.entry ≡ Some h = sym has.is.live ∙ ap (λ k. live_at k t.entries) slots ∙ seen.live in
                let one : has.entry ≡ h = cc in one
          ] in
          subst (λ x. IsHitOf place side x told) same of

  none_is : ((e : Live) → IsSeenMet place groups t.entries (slots_with_bodies t.entries) e → ⊥) → (ys : List Live) → ordered_by (by_place place) met ≡ ys
      → IsHitOfFirst place side ys None
  none_is none [] e = tt
  none_is none (h ∷ hs) e =
      none h (seen_met h (ordered_member (by_place place) met h (subst (λ l. Contains l h) (sym e) (here h hs))))

  pub first_told : (best : Option Hit) → FirstSeen place groups t.entries best (slots_with_bodies t.entries) → (told : Option FirstHit)
      → IsToldOf place side t.entries best told → IsHitOfFirst place side (met_in_order place t.entries groups) told
  first_told None none told is_none =
      subst (IsHitOfFirst place side (met_in_order place t.entries groups)) (sym is_none) (none_is none (met_in_order place t.entries groups) refl)
  first_told (Some hit) has told tells =
      let first = tells has.entry has.is in
      subst (IsHitOfFirst place side (met_in_order place t.entries groups)) (sym first.1.0)
      (head_is hit has (met_in_order place t.entries groups) refl first.0 first.1.1)

-- the first box's handle is the first of all
pub first_handle : (place : Bounds → Option Fraction) (side : Fraction → Bounds → Option Face) (ys : List Live) (told : Option FirstHit)
    → IsHitOfFirst place side ys told → option_map (λ (h : FirstHit). h.handle) told ≡ first_of (handles ys)
first_handle place side [] None is = refl
first_handle place side [] (Some hit) is = absurd is
first_handle place side (e ∷ ys) None is = absurd is
first_handle place side (e ∷ ys) (Some hit) is = ap (λ (h : Handle). Some h) is.handle
