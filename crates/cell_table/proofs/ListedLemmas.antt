-- What is listed of a table.
use Rattle.std.proofs.Common.{◌≡◌, ◌≢◌, ℕ, zero, suc, ◌+◌, ◌<◌, ◌≤◌, Bool, true, false, eqb, ◌==◌, ◌||◌, List, [], ◌∷◌, ◌++◌, length, get_or, set}
use Rattle.std.proofs.Common.{Result, Ok, Err, OnErr, Option, None, Some, is_some, refl, sym, ap, ◌∙◌, subst, arith, inl, inr, append-nil, append_assoc}
use Rattle.std.specs.Ordering.{nat_cmp}
use Rattle.std.specs.FinMap.{empty, get-empty}
use Rattle.std.proofs.lemmas.Bool.{false≢true, true≢false, cases_eq, cases_lt, cases_Bool, or_cases}
use Rattle.std.proofs.lemmas.Bool.Decides.{nat_tests}
use Rattle.std.proofs.lemmas.Grind.{get_or_default_zero}
use Rattle.std.proofs.lemmas.List.{length-append, get_or_append_left, get_or-append-add, get_or_past, get_or-set_other, get_or-set_same}
use Rattle.fixed_box.specs.declared.TheConstants.{SLOTS}
use Rattle.slot_lists.specs.Links.{Distinct}
use Rattle.slot_lists.specs.LinkLaws.{Fresh-append, length-le}
use Rattle.slot_lists.specs.SlotMap.{map_of}
use Rattle.slot_lists.specs.SlotMapLaws.{get_map}
use Rattle.cell_table.specs.declared.TheConstants.{BUCKETS}
use Rattle.cell_table.specs.declared.cell_key.CellKey.{CellKey}
use Rattle.cell_table.specs.Cells.{bucket_of, IsDistinct, has}
use Rattle.cell_table.specs.Kept.{IsCellTable, AreRings, AreStarts, in_bucket, ring_in, rings_to}
use Rattle.cell_table.specs.Listed.{Lists, Stands}
use Rattle.cell_table.proofs.EachLemmas.{has_contains, distinct_has, some_passes, bucketed}
use Rattle.cell_table.proofs.KeptLemmas.{bucket_below}
use Rattle.cell_table.proofs.RingLemmas.{apart_here, below_from, fresh_from, has_append, has_head, walk_ring, within_keys}

-- ---- where a member stands
pub has_place : (xs : List ℕ) (place : ℕ) → place < length xs → has xs (get_or xs place 0) ≡ true
has_place [] place lt = absurd (omega arith)
has_place (x ∷ xs) zero lt = let e : eqb x x ≡ true = grind (arith, nat_tests) in rw e refl
has_place (x ∷ xs) (suc place) lt =
    let r = has_place xs place (omega arith) in elim (eqb x (get_or xs place 0)) as (λ b. (b || has xs (get_or xs place 0)) ≡ true) [ true ↦ refl | false ↦ r ]

-- ---- an empty table
some_not : {X : Type 0} (v : X) → ◌≡◌ {A = Option X} None (Some v) → ⊥
some_not v e = false≢true (ap is_some e)

pub lists_none : (starts slots : List ℕ) → slots ≡ [] → Lists empty (record { starts = starts; slots = slots })
lists_none starts slots e = record {
  whole = λ s key h. absurd (some_not key (sym (get-empty nat_cmp s) ∙ h));
  present = λ place lt. absurd (let l = ap length e in omega (arith, l));
  once = subst IsDistinct (sym e) tt;
  few = let l = ap length e in omega (arith, l);
}

-- ---- the rings of the buckets, one after another
rings_more : (N : List ℕ) (n : ℕ) → rings_to N (suc n) ≡ rings_to N n ++ ring_in N n
unfolding rings_to
rings_more N n = refl

pub rings_none : (N : List ℕ) → rings_to N 0 ≡ []
unfolding rings_to
rings_none N = refl

pub rings_len : (N : List ℕ) (n : ℕ) → length (rings_to N (n + 1)) ≡ length (rings_to N n) + length (ring_in N n)
rings_len N n =
    let e : n + 1 ≡ suc n = omega arith in
    ap (λ m. length (rings_to N m)) e ∙ ap length (rings_more N n) ∙ length-append (rings_to N n) (ring_in N n)

-- what follows the rings of the first b buckets
rest_of : (N : List ℕ) (b n : ℕ) → b ≤ n → (rest : List ℕ) × (rings_to N n ≡ rings_to N b ++ rest)
rest_of N b zero le = let e : b ≡ 0 = omega arith in ([], rw e (sym (append-nil (rings_to N 0))))
rest_of N b (suc n) le = elim (cases_eq b (suc n)) as (λ _. (rest : List ℕ) × (rings_to N (suc n) ≡ rings_to N b ++ rest)) [
  | inl e ↦ ([], ap (rings_to N) (sym e) ∙ sym (append-nil (rings_to N b)))
  | inr ne ↦
      let r = rest_of N b n (let lt : b ≤ n = omega arith in lt) in
      (r.0 ++ ring_in N n, rings_more N n ∙ ap (λ l. l ++ ring_in N n) r.1 ∙ append_assoc (rings_to N b) r.0 (ring_in N n))
]

rings_rise : (N : List ℕ) (b n : ℕ) → b ≤ n → length (rings_to N b) ≤ length (rings_to N n)
rings_rise N b n le =
    let r = rest_of N b n le in let e = ap length r.1 in let l = length-append (rings_to N b) r.0 in omega (arith, e, l)

-- a slot of a bucket stands between where its ring starts and where the next one starts
stands_between : (N : List ℕ) (b n s : ℕ) → b < n → has (ring_in N b) s ≡ true
    → Stands (rings_to N n) (length (rings_to N b)) (length (rings_to N (suc b))) s
stands_between N b n s lt h =
    let front = rings_to N b in
    let ring = ring_in N b in
    let r = rest_of N (suc b) n (omega arith) in
    let c = has_contains ring s h in
    let more = ap length (rings_more N b) ∙ length-append front ring in
    let whole : rings_to N n ≡ (front ++ ring) ++ r.0 = r.1 ∙ ap (λ l. l ++ r.0) (rings_more N b) in
    let len = ap length whole ∙ length-append (front ++ ring) r.0 in
    let here : length front + c.0 < length (front ++ ring) = (let l = length-append front ring in let i = c.1 in omega (arith, l, i)) in
    record {
      place = length front + c.0;
      low = omega arith;
      high = let i = c.1 in omega (arith, more, i);
      inside = omega (arith, len, here);
      is = ap (λ l. get_or l (length front + c.0) 0) whole
          ∙ get_or_append_left (front ++ ring) r.0 0 (length front + c.0) here
          ∙ get_or-append-add front ring c.0 0 ∙ sym (get_or_default_zero ring c.0 s c.1) ∙ c.2;
    }

-- the bucket in whose ring a slot stands
ring_with : (N : List ℕ) (n s : ℕ) → has (rings_to N n) s ≡ true → (b : ℕ) × (b < n) × (has (ring_in N b) s ≡ true)
ring_with N zero s h = absurd (false≢true (sym (ap (λ l. has l s) (rings_none N)) ∙ h))
ring_with N (suc n) s h =
    elim (or_cases (has (rings_to N n) s) (has (ring_in N n) s)
    (sym (ap (λ l. has l s) (rings_more N n) ∙ has_append (rings_to N n) (ring_in N n) s) ∙ h)) as
    (λ _. (b : ℕ) × (b < suc n) × (has (ring_in N b) s ≡ true)) [
      | inl e ↦ let r = ring_with N n s e in (r.0, (let l = r.1 in omega arith), r.2)
      | inr e ↦ (n, omega arith, e)
    ]

distinct_append : (xs ys : List ℕ) → Distinct xs → Distinct ys → ((w : ℕ) → has ys w ≡ true → has xs w ≡ false) → Distinct (xs ++ ys)
distinct_append [] ys dx dy apart = dy
distinct_append (x ∷ xs) ys dx dy apart =
    let none : has ys x ≡ false = elim (cases_Bool (has ys x)) as (λ _. has ys x ≡ false) [
      | inl e ↦ absurd (true≢false (sym (has_head x xs) ∙ apart x e))
      | inr e ↦ e
    ] in
    (Fresh-append x xs ys dx.0 (fresh_from x ys none), distinct_append xs ys dx.1 dy (λ w i. tail_false (eqb x w) (has xs w) (apart w i)))
  where
    tail_false : (a b : Bool) → (a || b) ≡ false → b ≡ false
    tail_false true b h = absurd (true≢false h)
    tail_false false b h = h

-- one bucket more
pub starts_more : (N starts : List ℕ) (n v : ℕ) → n < length starts → ((b : ℕ) → b < n → get_or starts b 0 ≡ length (rings_to N b))
    → v ≡ length (rings_to N n) → (b : ℕ) → b < n + 1 → get_or (set starts n v) b 0 ≡ length (rings_to N b)
starts_more N starts n v len were last b lt = elim (cases_eq b n) as (λ _. get_or (set starts n v) b 0 ≡ length (rings_to N b)) [
  | inl e ↦ ap (λ i. get_or (set starts n v) i 0) e ∙ get_or-set_same starts n v 0 len ∙ last ∙ ap (λ m. length (rings_to N m)) (sym e)
  | inr ne ↦ get_or-set_other starts n b v 0 ne ∙ were b (let lt : b < n = omega arith in lt)
]

pub rings_next : (N slots out : List ℕ) (n : ℕ) → slots ≡ rings_to N n → out ≡ slots ++ ring_in N n → out ≡ rings_to N (n + 1)
rings_next N slots out n was is =
    let e : suc n ≡ n + 1 = omega arith in is ∙ ap (λ l. l ++ ring_in N n) was ∙ sym (rings_more N n) ∙ ap (rings_to N) e

module _ (keys : List (Option CellKey)) (N P L : List ℕ) (k : IsCellTable keys N P L) where
  -- what a ring has are the slots of its bucket
  ring_members : (b s : ℕ) → b < BUCKETS → has (ring_in N b) s ≡ in_bucket keys b s
  ring_members b s bl = let r = k.rings b bl in ap (λ l. has l s) (walk_ring keys N P b r k.keys_len) ∙ r.members s

  rings_members : (n s : ℕ) → n ≤ BUCKETS → has (rings_to N n) s ≡ true → (b : ℕ) × (b < n) × (in_bucket keys b s ≡ true)
  rings_members n s le h =
      let r = ring_with N n s h in (r.0, r.1, sym (ring_members r.0 s (let l = r.1 in omega (arith, l, le))) ∙ r.2)

  rings_distinct : (n : ℕ) → n ≤ BUCKETS → Distinct (rings_to N n)
  rings_distinct zero le = subst Distinct (sym (rings_none N)) tt
  rings_distinct (suc n) le =
      let r = k.rings n (omega (arith, le)) in
      let ring : ring_in N n ≡ r.slots = walk_ring keys N P n r k.keys_len in
      subst Distinct (sym (rings_more N n))
      (distinct_append (rings_to N n) (ring_in N n) (rings_distinct n (omega (arith, le))) (subst Distinct (sym ring) r.distinct)
      (λ w i. elim (cases_Bool (has (rings_to N n) w)) as (λ _. has (rings_to N n) w ≡ false) [
        | inl e ↦
            let m = rings_members n w (omega (arith, le)) e in
            let ne : m.0 ≢ n = λ q. absurd (let l = m.1 in omega (arith, l, q)) in
            let other = apart_here (get_or keys w None) m.0 n ne (sym (ring_members n w (omega (arith, le))) ∙ i) in
            absurd (true≢false (sym m.2 ∙ other))
        | inr e ↦ e
      ]))

  pub rings_few : (n : ℕ) → n ≤ BUCKETS → length (rings_to N n) ≤ SLOTS
  rings_few n le = length-le SLOTS (rings_to N n) (rings_distinct n le) (below_from SLOTS (rings_to N n) (λ s h.
      let m = rings_members n s le h in let l = within_keys keys m.0 s m.2 in omega (arith, l, k.keys_len)))

  pub rings_listed : (starts slots : List ℕ) → AreRings N starts slots → Lists (map_of keys) (record { starts = starts; slots = slots })
  rings_listed starts slots a =
      let distinct : Distinct slots = subst Distinct (sym a.slots_are) (rings_distinct BUCKETS (omega arith)) in
      let member : (s : ℕ) → has slots s ≡ true → (b : ℕ) × (b < BUCKETS) × (in_bucket keys b s ≡ true) =
      λ s h. rings_members BUCKETS s (omega arith) (sym (ap (λ l. has l s) a.slots_are) ∙ h) in
      record {
        whole = λ s key h.
            let b = bucket_of key in
            let bl : b < BUCKETS = bucket_below key in
            let t = stands_between N b BUCKETS s bl ((bucketed keys N P L key k bl).members s h) in
            let from = a.starts_are b (omega (arith, bl)) in
            let e : b + 1 ≡ suc b = omega arith in
            let to = a.starts_are (b + 1) (omega (arith, bl)) ∙ ap (λ n. length (rings_to N n)) e in
            record {
              place = t.place;
              low = let l = t.low in omega (arith, l, from);
              high = let l = t.high in omega (arith, l, to);
              inside = let l = t.inside in let n = ap length a.slots_are in omega (arith, l, n);
              is = ap (λ l. get_or l t.place 0) a.slots_are ∙ t.is;
            };
        present = λ place lt. let m = member (get_or slots place 0) (has_place slots place lt) in
            ap is_some (get_map keys (get_or slots place 0)) ∙ some_passes (λ c. bucket_of c == m.0) (get_or keys (get_or slots place 0) None) m.2;
        once = distinct_has slots distinct;
        few = let n = ap length a.slots_are in let l = rings_few BUCKETS (omega arith) in omega (arith, n, l);
      }

pub rings_started : (N starts slots : List ℕ) → AreRings N starts slots → AreStarts starts slots
rings_started N starts slots a = record {
  rising = λ b c le lt.
      let l = rings_rise N b c le in
      let first = a.starts_are b (omega (arith, a.len, le, lt)) in
      let second = a.starts_are c (omega (arith, a.len, lt)) in
      omega (arith, l, first, second);
  inside = λ b. elim (cases_lt BUCKETS b) as (λ _. get_or starts b 0 ≤ length slots) [
    | inl lt ↦ let e = get_or_past starts b 0 (omega (arith, a.len, lt)) in omega (arith, e)
    | inr le ↦
        let l = rings_rise N b BUCKETS le in
        let first = a.starts_are b le in
        let n = ap length a.slots_are in
        omega (arith, l, first, n)
  ];
}

-- ---- after want of memory
pub on_err_of : {T E P : Type 0} (r : Result T E) → P → OnErr r P
on_err_of (Ok v) p = tt
on_err_of (Err e) p = p
