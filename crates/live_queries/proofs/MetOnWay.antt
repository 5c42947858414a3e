-- The hits of a way, in order, are those of the boxes that are met, in the order in which they are met.
use Rattle.std.proofs.Common.{◌≡◌, ◌≢◌, ℕ, zero, suc, ◌<◌, Bool, true, false, cond, ◌&&◌, nat_lt, List, [], ◌∷◌, map, filter, Option, Some, None}
use Rattle.std.proofs.Common.{refl, sym, ap, ◌∙◌, subst, arith, inl, inr}
use Rattle.std.specs.Prelude.{is_some}
use Rattle.std.specs.List.{AllByRecursion, Contains, filter_map, cons_option, list_all}
use Rattle.std.specs.Option.{option_cmp}
use Rattle.std.specs.declared.cmp.Ordering.{Ordering}
use Rattle.std.specs.declared.cmp.Ordering.TheVariants.{Less, Equal, Greater}
use Rattle.std.specs.Ordering.{nat_cmp, ordering_then}
use Rattle.std.specs.Cmp.{alike_right, first_so, second_so, ranked}
use Rattle.std.specs.Cmp.Derive.{both_true}
use Rattle.std.proofs.lemmas.Bool.{cases_Bool, ltb-true}
use Rattle.std.proofs.lemmas.List.Elements.{recursion_from_All}
use Rattle.fixed_box.specs.Bounds.{Bounds}
use Rattle.ray_slabs.specs.Crossing.{Fraction}
use Rattle.ray_slabs.specs.First.{value_cmp}
use Rattle.ray_slabs.specs.FirstLaws.{value_total}
use Rattle.box_cast.specs.Cast.{IsSameValue}
use Rattle.ordered_lists.specs.Ordered.{ordered_by, TiesAreOne}
use Rattle.live_table.specs.declared.live.Live.{Live}
use Rattle.live_table.specs.Entries.{slot_of, live_at, rises}
use Rattle.live_table.specs.Table.{Table, IsTable}
use Rattle.live_queries.specs.declared.groups.Groups.{Groups}
use Rattle.live_queries.specs.Pairs.{is_asked_for}
use Rattle.live_queries.specs.Queries.{handles, is_met, by_place, met_in_order}
use Rattle.live_queries.specs.Beside.{AreBeside, IsHit, ListsMet, handle_at, passing, met_at}
use Rattle.live_queries.specs.declared.hit.Hit.{Hit}
use Rattle.live_queries.specs.FirstSeen.{by_hit}
use Rattle.live_queries.proofs.BesideLaws.{ordered_beside, handles_beside}
use Rattle.live_queries.proofs.Touches.{AreFound, all_found}
use Rattle.ordered_lists.specs.Ascending.{equal_is}

-- ---- the slots that are looked at have all that are met

module _ (place : Bounds → Option Fraction) (groups : Groups) (all : List Live) (passes : Live → Bool) where
  abbrev test : Live → Bool
  test = is_met place groups

  met_of_slots : (es : List Live) → AreFound all es → AllByRecursion (λ e. is_some (place e.body) ≡ true → passes e ≡ true) es
      → filter_map (met_at place groups all) (map slot_of (filter passes es)) ≡ filter test es
  met_of_slots [] found h = refl
  met_of_slots (e ∷ es) found h =
      let rest : filter_map (met_at place groups all) (map slot_of (filter passes es)) ≡ filter test es = met_of_slots es found.1 h.1 in
      elim (cases_Bool (passes e)) as (λ _. filter_map (met_at place groups all) (map slot_of (filter passes (e ∷ es))) ≡ filter test (e ∷ es)) [
        | inl t ↦
            ap (λ b. filter_map (met_at place groups all) (map slot_of (cond b (e ∷ filter passes es) (filter passes es)))) t
            ∙ ap (λ o. cons_option (passing test o) (filter_map (met_at place groups all) (map slot_of (filter passes es)))) found.0
            ∙ kept (test e) e _ _ rest
        | inr f ↦
            ap (λ b. filter_map (met_at place groups all) (map slot_of (cond b (e ∷ filter passes es) (filter passes es)))) f
            ∙ rest ∙ sym (ap (λ b. cond (b && is_asked_for groups e) (e ∷ filter test es) (filter test es)) (missed (is_some (place e.body)) (passes e) f h.0))
      ]
    where
      kept : (b : Bool) (e : Live) (xs ys : List Live) → xs ≡ ys → cons_option (cond b (Some e) None) xs ≡ cond b (e ∷ ys) ys
      kept true e xs ys same = ap (λ zs. e ∷ zs) same
      kept false e xs ys same = same

      missed : (p q : Bool) → q ≡ false → (p ≡ true → q ≡ true) → p ≡ false
      missed true q f h = sym (h refl) ∙ f
      missed false q f h = refl

met_of_listed : (place : Bounds → Option Fraction) (groups : Groups) (t : Table) (slots : List ℕ) → IsTable t → ListsMet place t.entries slots
    → filter_map (met_at place groups t.entries) slots ≡ filter (is_met place groups) t.entries
met_of_listed place groups t slots is lists =
    ap (filter_map (met_at place groups t.entries)) lists.listed
    ∙ met_of_slots place groups t.entries lists.passes t.entries (all_found t.entries is.rising)
    (recursion_from_All (λ e. is_some (place e.body) ≡ true → lists.passes e ≡ true) t.entries lists.met)

-- ---- hits and boxes in the same order

same_order : (a b : Fraction) (o p : Option Fraction) → IsSameValue (Some a) o → IsSameValue (Some b) p → value_cmp a b ≡ option_cmp value_cmp o p
same_order a b None p h g = absurd h
same_order a b (Some u) None h g = absurd g
same_order a b (Some u) (Some v) h g =
    value_total.congr a u b (equal_is (value_cmp a u) h) ∙ alike_right value_total b v u (equal_is (value_cmp b v) g)

module _ (place : Bounds → Option Fraction) (all : List Live) where
  pub agree : (h k : Hit) (e f : Live) → IsHit place all h e → IsHit place all k f → by_hit h k ≡ by_place place e f
  agree h k e f r s = λ i. ordering_then (same_order h.entry k.entry (place e.body) (place f.body) r.same s.same i) (nat_cmp (r.slot i) (s.slot i))

  -- ---- no two hits have one slot

  abbrev AreApart : List Hit → Type 0
  AreApart [] = Unit {0}
  AreApart (h ∷ hs) = AllByRecursion (λ k. k.slot ≢ h.slot) hs × AreApart hs

  later_apart : (h : Hit) (e : Live) → h.slot ≡ slot_of e → (hs : List Hit) (es : List Live) → list_all (λ o. nat_lt (slot_of e) (slot_of o)) es ≡ true
      → AreBeside (IsHit place all) hs es → AllByRecursion (λ k. k.slot ≢ h.slot) hs
  later_apart h e same [] es above b = tt
  later_apart h e same (k ∷ hs) [] above b = absurd b
  later_apart h e same (k ∷ hs) (f ∷ es) above b =
      let lt : slot_of e < slot_of f = ltb-true (slot_of e) (slot_of f) (first_so _ _ above) in
      let there : k.slot ≡ slot_of f = b.0.slot in
      ((λ one. absurd (omega arith)), later_apart h e same hs es (second_so _ _ above) b.1)

  apart : (hs : List Hit) (es : List Live) → rises es ≡ true → AreBeside (IsHit place all) hs es → AreApart hs
  apart [] es r b = tt
  apart (h ∷ hs) [] r b = absurd b
  apart (h ∷ hs) (e ∷ es) r b = (later_apart h e b.0.slot hs es (first_so _ _ r) b.1, apart hs es (second_so _ _ r) b.1)

  holds_of : (P : Hit → Type 0) (hs : List Hit) → AllByRecursion P hs → (h : Hit) → Contains hs h → P h
  holds_of P [] all h (n, l, e) = absurd (omega arith)
  holds_of P (k ∷ hs) all h (zero, l, e) = subst P e all.0
  holds_of P (k ∷ hs) all h (suc n, l, e) = holds_of P hs all.1 h (n, omega arith, e)

  one_of : (hs : List Hit) → AreApart hs → (x y : Hit) → Contains hs x → Contains hs y → x.slot ≡ y.slot → x ≡ y
  one_of [] a x y (n, l, e) c same = absurd (omega arith)
  one_of (h ∷ hs) a x y (zero, l, e) (zero, m, f) same = sym e ∙ f
  one_of (h ∷ hs) a x y (zero, l, e) (suc j, m, f) same =
      absurd (holds_of (λ k. k.slot ≢ h.slot) hs a.0 y (j, omega arith, f) (sym same ∙ sym (ap (λ (k : Hit). k.slot) e)))
  one_of (h ∷ hs) a x y (suc j, m, f) (zero, l, e) same =
      absurd (holds_of (λ k. k.slot ≢ h.slot) hs a.0 x (j, omega arith, f) (same ∙ sym (ap (λ (k : Hit). k.slot) e)))
  one_of (h ∷ hs) a x y (suc i, l, e) (suc j, m, f) same = one_of hs a.1 x y (i, omega arith, e) (j, omega arith, f) same

  pub last_tied : (r q : Ordering) → ordering_then r q ≡ Equal → q ≡ Equal
  last_tied Less q e = let no : ⊥ = cc in absurd no
  last_tied Equal q e = e
  last_tied Greater q e = let no : ⊥ = cc in absurd no

  ties_are_one : (hs : List Hit) (es : List Live) → rises es ≡ true → AreBeside (IsHit place all) hs es → TiesAreOne by_hit hs
  ties_are_one hs es r b x y cx cy e =
      one_of hs (apart hs es r b) x y cx cy (ranked x.slot y.slot Equal (sym (last_tied (value_cmp x.entry y.entry) (nat_cmp x.slot y.slot) e)))

-- ---- boxes that pass a test rise too

filter_above : (p : Live → Bool) (slot : ℕ) (es : List Live) → list_all (λ o. nat_lt slot (slot_of o)) es ≡ true
    → list_all (λ o. nat_lt slot (slot_of o)) (filter p es) ≡ true
filter_above p slot [] h = refl
filter_above p slot (e ∷ es) h =
    let rest = filter_above p slot es (second_so _ _ h) in
    elim (p e) as (λ b. list_all (λ o. nat_lt slot (slot_of o)) (cond b (e ∷ filter p es) (filter p es)) ≡ true) [
      | true ↦ both_true (first_so _ _ h) rest
      | false ↦ rest
    ]

filter_rises : (p : Live → Bool) (es : List Live) → rises es ≡ true → rises (filter p es) ≡ true
filter_rises p [] h = refl
filter_rises p (e ∷ es) h =
    let rest = filter_rises p es (second_so _ _ h) in
    elim (p e) as (λ b. rises (cond b (e ∷ filter p es) (filter p es)) ≡ true) [
      | true ↦ both_true (filter_above p (slot_of e) es (first_so _ _ h)) rest
      | false ↦ rest
    ]

-- the handles of the hits in order
pub handles_in_order : (place : Bounds → Option Fraction) (groups : Groups) (t : Table) (slots : List ℕ) → IsTable t → ListsMet place t.entries slots
    → (hits sorted : List Hit) → AreBeside (IsHit place t.entries) hits (filter_map (met_at place groups t.entries) slots)
    → (TiesAreOne by_hit hits → sorted ≡ ordered_by by_hit hits)
    → filter_map (λ (h : Hit). handle_at t.entries h.slot) sorted ≡ handles (met_in_order place t.entries groups)
handles_in_order place groups t slots is lists hits sorted beside by_order =
    let met : List Live = filter (is_met place groups) t.entries in
    let b : AreBeside (IsHit place t.entries) hits met = subst (AreBeside (IsHit place t.entries) hits) (met_of_listed place groups t slots is lists) beside in
    let ordered : sorted ≡ ordered_by by_hit hits = by_order (ties_are_one place t.entries hits met (filter_rises (is_met place groups) t.entries is.rising) b) in
    ap (filter_map (λ (h : Hit). handle_at t.entries h.slot)) ordered
    ∙ handles_beside (λ (h : Hit). h.slot) (IsHit place t.entries) t.entries (λ h e r. ap (λ k. live_at k t.entries) r.slot ∙ r.live) (ordered_by by_hit hits)
    (ordered_by (by_place place) met) (ordered_beside (IsHit place t.entries) by_hit (by_place place) (agree place t.entries) hits met b)
