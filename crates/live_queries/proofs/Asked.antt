-- The live boxes of some groups that lie far enough from a box, as a map from slot to box.
use Rattle.std.proofs.Common.{◌≡◌, ℕ, suc, ◌<◌, Bool, true, false, cond, ◌&&◌, ◌==◌, nat_lt, nat_le, List, [], ◌∷◌, filter, Option, None, Some, refl, sym, ap, ◌∙◌}
use Rattle.std.proofs.Common.{subst, arith, inl, inr}
use Rattle.std.specs.List.{All, list_all}
use Rattle.std.specs.Ordering.{nat_cmp, is_lt, eq_by_cmp}
use Rattle.std.specs.declared.cmp.Ordering.TheVariants.{Less, Equal, Greater}
use Rattle.std.specs.Cmp.{first_so, second_so}
use Rattle.std.specs.Cmp.Derive.{both_true}
use Rattle.std.specs.FinMap.{entries, find, get, is_sorted, get-from_sorted, entries-from_sorted}
use Rattle.std.specs.FinMap.Entries.{below_all}
use Rattle.std.proofs.lemmas.Bool.Decides.{nat_tests}
use Rattle.std.proofs.lemmas.Bool.{eq-eqb, eqb-true, cases_Bool, false≢true, ltb-true}
use Rattle.fixed_box.specs.Bounds.{Bounds, meets}
use Rattle.slot_lists.specs.SlotMapLaws.{tie_same, tie_other}
use Rattle.fixed_box.specs.Space.{space}
use Rattle.live_table.specs.declared.live.Live.{Live}
use Rattle.live_table.specs.Entries.{slot_of, live_at, rises}
use Rattle.live_table.specs.Table.{Table, IsTable}
use Rattle.near_boxes.specs.Bodies.{AreInSpace, AreAmong}
use Rattle.live_table.specs.Bodies.{slots_with_bodies, bodies_of}
use Rattle.near_boxes.specs.Nearest.{square_apart}
use Rattle.live_queries.specs.declared.groups.Groups.{Groups}
use Rattle.live_queries.specs.Pairs.{is_asked_for}
use Rattle.live_queries.specs.Queries.{is_from, asked_from}
use Rattle.fixed_box.proofs.Bools.{true_to}

-- a box, where there is one that passes a test
abbrev pub picked : (Live → Bool) → Option Live → Option Bounds
picked p None = None
picked p (Some e) = cond (p e) (Some e.body) None

above : ℕ → List Live → Bool
above k es = list_all (λ o. nat_lt k (slot_of o)) es

module _ (p : Live → Bool) where
  below_of : (k : ℕ) (es : List Live) → list_all (λ o. nat_lt k (slot_of o)) es ≡ true → below_all nat_cmp k (slots_with_bodies (filter p es)) ≡ true
  below_of k [] h = refl
  below_of k (e ∷ es) h =
      let rest = below_of k es (second_so _ _ h) in
      elim (p e) as (λ b. below_all nat_cmp k (slots_with_bodies (cond b (e ∷ filter p es) (filter p es))) ≡ true) [
        | true ↦ both_true (ap (λ b. is_lt (cond b Less (cond (k == slot_of e) Equal Greater))) (first_so _ _ h)) rest
        | false ↦ rest
      ]

  sorted_of : (es : List Live) → rises es ≡ true → is_sorted nat_cmp (slots_with_bodies (filter p es)) ≡ true
  sorted_of [] h = refl
  sorted_of (e ∷ es) h =
      let rest = sorted_of es (second_so _ _ h) in
      elim (p e) as (λ b. is_sorted nat_cmp (slots_with_bodies (cond b (e ∷ filter p es) (filter p es))) ≡ true) [
        | true ↦ both_true (below_of (slot_of e) es (first_so _ _ h)) rest
        | false ↦ rest
      ]

  find_cons : (k : ℕ) (e : Live) (b : Bool) (es : List Live) → eq_by_cmp nat_cmp k (slot_of e) ≡ false
      → find nat_cmp k (slots_with_bodies (cond b (e ∷ es) es)) ≡ find nat_cmp k (slots_with_bodies es)
  find_cons k e true es h = ap (λ t. cond t (Some e.body) (find nat_cmp k (slots_with_bodies es))) h
  find_cons k e false es h = refl

  none_above : (k : ℕ) (es : List Live) → list_all (λ o. nat_lt k (slot_of o)) es ≡ true → find nat_cmp k (slots_with_bodies (filter p es)) ≡ None
  none_above k [] h = refl
  none_above k (e ∷ es) h =
      let lt : k < slot_of e = ltb-true k (slot_of e) (first_so _ _ h) in
      find_cons k e (p e) (filter p es) (tie_other k (slot_of e) (λ g. absurd (omega arith))) ∙ none_above k es (second_so _ _ h)

  pub found_live : (k : ℕ) (es : List Live) → rises es ≡ true → find nat_cmp k (slots_with_bodies (filter p es)) ≡ picked p (live_at k es)
  found_live k [] h = refl
  found_live k (e ∷ es) h =
      elim (cases_Bool (slot_of e == k)) as (λ _. find nat_cmp k (slots_with_bodies (filter p (e ∷ es))) ≡ picked p (live_at k (e ∷ es))) [
        | inl t ↦
            let same : slot_of e ≡ k = eqb-true (slot_of e) k t in
            let none : find nat_cmp k (slots_with_bodies (filter p es)) ≡ None =
            none_above k es (subst (λ n. list_all (λ o. nat_lt n (slot_of o)) es ≡ true) same (first_so _ _ h)) in
            here k e (p e) (filter p es) (tie_same k (slot_of e) (sym same)) none ∙ sym (ap (λ b. picked p (cond b (Some e) (live_at k es))) t)
        | inr f ↦
            find_cons k e (p e) (filter p es) (tie_other k (slot_of e) (λ g. absurd (false≢true (sym f ∙ eq-eqb (slot_of e) k (sym g)))))
            ∙ found_live k es (second_so _ _ h) ∙ sym (ap (λ b. picked p (cond b (Some e) (live_at k es))) f)
      ]
    where
      here : (k : ℕ) (e : Live) (b : Bool) (es : List Live) → eq_by_cmp nat_cmp k (slot_of e) ≡ true → find nat_cmp k (slots_with_bodies es) ≡ None
          → find nat_cmp k (slots_with_bodies (cond b (e ∷ es) es)) ≡ cond b (Some e.body) None
      here k e true es h n = ap (λ t. cond t (Some e.body) (find nat_cmp k (slots_with_bodies es))) h
      here k e false es h n = n

-- what a slot has among the boxes that pass a test
get_passing : (p : Live → Bool) (t : Table) → IsTable t → (k : ℕ) → get (bodies_of (filter p t.entries)) k ≡ picked p (live_at k t.entries)
get_passing p t table k =
    get-from_sorted nat_cmp (slots_with_bodies (filter p t.entries)) k (true_to _ (sorted_of p t.entries table.rising)) ∙ found_live p k t.entries table.rising

-- what passes one test and then another passes both
both_pass : (p q : Live → Bool) (es : List Live) → filter q (filter p es) ≡ filter (λ e. p e && q e) es
both_pass p q [] = refl
both_pass p q (e ∷ es) = one (p e) (both_pass p q es)
  where
    one : (b : Bool) → filter q (filter p es) ≡ filter (λ x. p x && q x) es
        → filter q (cond b (e ∷ filter p es) (filter p es)) ≡ cond (b && q e) (e ∷ filter (λ x. p x && q x) es) (filter (λ x. p x && q x) es)
    one true rest = ap (λ l. cond (q e) (e ∷ l) l) rest
    one false rest = rest

-- a box of one of the groups, and far enough
abbrev pub is_asked_from : Bounds → ℕ → Groups → Live → Bool
is_asked_from body from groups e = is_asked_for groups e && is_from body from e

all_pass : (es : List Live) → filter (λ _. true) es ≡ es
all_pass [] = refl
all_pass (e ∷ es) = ap (λ rest. e ∷ rest) (all_pass es)

-- no box is nearer than 0
pub from_none : (body : Bounds) (es : List Live) → filter (is_from body 0) es ≡ es
from_none body [] = refl
from_none body (e ∷ es) =
    ap (λ b. cond b (e ∷ filter (is_from body 0) es) (filter (is_from body 0) es)) (least (square_apart body e.body)) ∙ ap (λ rest. e ∷ rest) (from_none body es)
  where
    least : (n : ℕ) → nat_le 0 n ≡ true
    least n = grind (arith, nat_tests)

-- what a slot has among all boxes
get_all : (t : Table) → IsTable t → (k : ℕ) → get (bodies_of t.entries) k ≡ picked (λ _. true) (live_at k t.entries)
get_all t table k =
    ap (λ es. get (bodies_of es) k) (sym (all_pass t.entries)) ∙ get_passing (λ _. true) t table k

live_holds : (P : Live → Type 0) (k : ℕ) (es : List Live) → All P es → (e : Live) → live_at k es ≡ Some e → P e
live_holds P k [] h e is = absurd (cc)
live_holds P k (x ∷ es) h e is = elim (cases_Bool (slot_of x == k)) as (λ _. P e) [
  | inl t ↦
      let first : P x = h 0 x (omega arith) in
      let found : Some x ≡ Some e = sym (ap (λ b. cond b (Some x) (live_at k es)) t) ∙ is in
      let one : x ≡ e = cc in subst P one first
  | inr f ↦ live_holds P k es (λ j d l. h (suc j) d (omega arith)) e (sym (ap (λ b. cond b (Some x) (live_at k es)) f) ∙ is)
]

picked_is : (p : Live → Bool) (o : Option Live) (b : Bounds) → picked p o ≡ Some b → (e : Live) × (o ≡ Some e) × (e.body ≡ b)
picked_is p None b h = absurd (cc)
picked_is p (Some e) b h = by_test (p e) h
  where
    by_test : (t : Bool) → cond t (Some e.body) None ≡ Some b → (x : Live) × (Some e ≡ Some x) × (x.body ≡ b)
    by_test true h = (e, refl, (let s : e.body ≡ b = cc in s))
    by_test false h = absurd (cc)

module _ (body : Bounds) (from : ℕ) (groups : Groups) (t : Table) (table : IsTable t) where
  abbrev test : Live → Bool
  test = is_asked_from body from groups

  asked_both : asked_from t.entries body from groups ≡ filter test t.entries
  asked_both = both_pass (is_asked_for groups) (is_from body from) t.entries

  -- what a slot has among the boxes that are asked for
  pub get_asked : (k : ℕ) → get (bodies_of (asked_from t.entries body from groups)) k ≡ picked test (live_at k t.entries)
  get_asked k = ap (λ es. get (bodies_of es) k) asked_both ∙ get_passing test t table k

  -- and their entries
  pub entries_asked : entries (bodies_of (asked_from t.entries body from groups)) ≡ slots_with_bodies (asked_from t.entries body from groups)
  entries_asked =
      subst (λ es. entries (bodies_of es) ≡ slots_with_bodies es) (sym asked_both)
      (entries-from_sorted nat_cmp (slots_with_bodies (filter test t.entries)) (true_to _ (sorted_of test t.entries table.rising)))

  pub space_asked : AreInSpace (bodies_of (asked_from t.entries body from groups))
  space_asked k b h =
      let p = picked_is test (live_at k t.entries) b (sym (get_asked k) ∙ h) in
      ap (meets space) (sym p.2) ∙ live_holds (λ e. meets space e.body ≡ true) k t.entries table.in_space p.0 p.1

  pub among_asked : AreAmong (bodies_of (asked_from t.entries body from groups)) (bodies_of t.entries)
  among_asked k b h =
      let p = picked_is test (live_at k t.entries) b (sym (get_asked k) ∙ h) in
      get_all t table k ∙ ap (picked (λ _. true)) p.1 ∙ ap (λ x. Some x) p.2
