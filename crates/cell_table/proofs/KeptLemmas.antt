-- A table keeps what it keeps.
use Rattle.std.proofs.Common.{◌≡◌, ℕ, zero, suc, ◌+◌, ◌-◌, ◌<◌, ◌≤◌, Bool, List, [], ◌∷◌, length, get_or, set, Option}
use Rattle.std.proofs.Common.{None, Some, is_some, cond, ◌==◌, refl, sym, ap, ◌∙◌, arith, subst, false, true, inl, inr, count_by, map}
use Rattle.std.specs.List.{filter}
use Rattle.std.proofs.lemmas.List.{get_or_read, get_or-set_same, get_or-set_other, length-set}
use Rattle.std.proofs.lemmas.List.Sums.{count_by-le-length, sum_by-set, sum_by-cons}
use Rattle.std.proofs.lemmas.Bool.{cases_eq, false≢true, true≢false}
use Rattle.std.proofs.lemmas.Bool.Decides.{nat_tests}
use Rattle.std.specs.FinMap.{FinMap, contains_key}
use Rattle.std.specs.Ordering.{nat_cmp}
use Rattle.fixed_box.specs.declared.TheConstants.{SLOTS}
use Rattle.cell_table.specs.declared.TheConstants.{BUCKETS, LEVELS}
use Rattle.cell_table.specs.declared.rings.TheConstants.{NODES}
use Rattle.cell_table.specs.declared.cell_key.CellKey.{CellKey}
use Rattle.slot_lists.specs.SlotMap.{entries_from, map_of}
use Rattle.cell_table.specs.Cells.{bucket_of, slots_at}
use Rattle.cell_table.specs.Kept.{Ring, IsCellTable, in_bucket, meets_test, put_next, put_prev, take_next, take_prev, slots_from}
use Rattle.slot_lists.specs.SlotMapLaws.{get_map, entries_of_map}
use Rattle.cell_table.proofs.RingLemmas.{put_same, put_other, take_same, take_other, Beside, take_inside}
use Rattle.fixed_box.proofs.Numbers.{eqb_other}

abbrev pub one_if : Bool → ℕ
one_if b = cond b 1 0

-- one element changes
pub count_set : {X : Type 0} (p : X → Bool) (xs : List X) (i : ℕ) (y d : X) → i < length xs
    → count_by p (set xs i y) + one_if (p (get_or xs i d)) ≡ count_by p xs + one_if (p y)
count_set p xs i y d l = sum_by-set (λ x. cond (p x) 1 0) xs i y d l

same_tie : (x y : ℕ) → x ≡ y → (x == y) ≡ true
same_tie x y e = grind (arith, nat_tests)

abbrev level_is : ℕ → Option CellKey → Bool
level_is l = meets_test (λ k. k.level == l)

pub kept_put : (keys : List (Option CellKey)) (N P L : List ℕ) (s : ℕ) (key : CellKey) → IsCellTable keys N P L → s < SLOTS → key.level < LEVELS
    → bucket_of key < BUCKETS → get_or keys s None ≡ None
    → IsCellTable (set keys s (Some key)) (put_next N s (SLOTS + bucket_of key)) (put_prev N P s (SLOTS + bucket_of key))
    (set L key.level (get_or L key.level 0 + 1))
kept_put keys N P L s key k sl ll bl absent = record {
  keys_len = length-set keys s (Some key) ∙ k.keys_len;
  next_len =
      length-set (set N s (get_or N (SLOTS + bucket_of key) 0)) (SLOTS + bucket_of key) s ∙ length-set N s (get_or N (SLOTS + bucket_of key) 0) ∙ k.next_len;
  prev_len =
      length-set (set P (get_or N (SLOTS + bucket_of key) 0) s) s (SLOTS + bucket_of key) ∙ length-set P (get_or N (SLOTS + bucket_of key) 0) s ∙ k.prev_len;
  levels_len = length-set L key.level (get_or L key.level 0 + 1) ∙ k.levels_len;
  rings = λ c cl. elim (cases_eq (bucket_of key) c) as
      (λ _. Ring (set keys s (Some key)) (put_next N s (SLOTS + bucket_of key)) (put_prev N P s (SLOTS + bucket_of key)) c) [
        | inl e ↦ subst (Ring (set keys s (Some key)) (put_next N s (SLOTS + bucket_of key)) (put_prev N P s (SLOTS + bucket_of key))) e
            (put_same keys N P (bucket_of key) s key (k.rings (bucket_of key) bl) k.keys_len k.next_len k.prev_len bl sl absent refl)
        | inr ne ↦ put_other keys N P (bucket_of key) c s key (k.rings (bucket_of key) bl) (k.rings c cl) ne k.keys_len bl sl absent refl
      ];
  counted = λ l ok. let n = count_set (level_is l) keys s (Some key) None (omega (arith, k.keys_len)) in
      let was : one_if (level_is l (get_or keys s None)) ≡ 0 = ap (λ o. one_if (level_is l o)) absent in
      elim (cases_eq key.level l) as (λ _. get_or (set L key.level (get_or L key.level 0 + 1)) l 0 ≡ count_by (level_is l) (set keys s (Some key))) [
        | inl e ↦
            let t : one_if (key.level == l) ≡ 1 = ap one_if (same_tie key.level l e) in
            let c = k.counted l ok in
            let g : get_or (set L key.level (get_or L key.level 0 + 1)) key.level 0 ≡ get_or L key.level 0 + 1 =
            get_or-set_same L key.level (get_or L key.level 0 + 1) 0 (omega (arith, k.levels_len)) in
            let h : get_or (set L key.level (get_or L key.level 0 + 1)) l 0 ≡ get_or L l 0 + 1 =
            subst (λ z. get_or (set L key.level (get_or L key.level 0 + 1)) z 0 ≡ get_or L z 0 + 1) e g in
            omega (arith, n, was, t, c, h)
        | inr ne ↦
            let t : one_if (key.level == l) ≡ 0 = ap one_if (eqb_other key.level l ne) in
            let c = k.counted l ok in
            let h : get_or (set L key.level (get_or L key.level 0 + 1)) l 0 ≡ get_or L l 0 =
            get_or-set_other L key.level l (get_or L key.level 0 + 1) 0 (λ e. ne (sym e)) in
            omega (arith, n, was, t, c, h)
      ];
  low = λ q other h. elim (cases_eq q s) as (λ _. other.level < LEVELS) [
    | inl e ↦ let g : get_or (set keys s (Some key)) q None ≡ Some key =
        subst (λ z. get_or (set keys s (Some key)) z None ≡ Some key) (sym e) (get_or-set_same keys s (Some key) None (omega (arith, k.keys_len))) in
        let same : key ≡ other = cc in rw (sym same) ll
    | inr ne ↦ k.low q other (sym (get_or-set_other keys s q (Some key) None ne) ∙ h)
  ];
}

pub kept_take : (keys : List (Option CellKey)) (N P L : List ℕ) (s : ℕ) (key : CellKey) → IsCellTable keys N P L → s < SLOTS → bucket_of key < BUCKETS
    → get_or keys s None ≡ Some key
    → IsCellTable (set keys s None) (take_next N P s) (take_prev N P s) (set L key.level (get_or L key.level 0 - 1))
kept_take keys N P L s key k sl bl here =
    let ll : key.level < LEVELS = k.low s key here in
    let inb : in_bucket keys (bucket_of key) s ≡ true =
    ap (meets_test (λ z. bucket_of z == bucket_of key)) here ∙ same_tie (bucket_of key) (bucket_of key) refl in
    record {
      keys_len = length-set keys s None ∙ k.keys_len;
      next_len = length-set N (get_or P s 0) (get_or N s 0) ∙ k.next_len;
      prev_len = length-set P (get_or N s 0) (get_or P s 0) ∙ k.prev_len;
      levels_len = length-set L key.level (get_or L key.level 0 - 1) ∙ k.levels_len;
      rings = λ c cl. elim (cases_eq (bucket_of key) c) as (λ _. Ring (set keys s None) (take_next N P s) (take_prev N P s) c) [
        | inl e ↦ subst (Ring (set keys s None) (take_next N P s) (take_prev N P s)) e
            (take_same keys N P (bucket_of key) s (k.rings (bucket_of key) bl) k.keys_len k.next_len k.prev_len bl inb)
        | inr ne ↦ take_other keys N P (bucket_of key) c s (k.rings (bucket_of key) bl) (k.rings c cl) ne k.keys_len inb
      ];
      counted = λ l ok. let n = count_set (level_is l) keys s None None (omega (arith, k.keys_len)) in
          elim (cases_eq key.level l) as (λ _. get_or (set L key.level (get_or L key.level 0 - 1)) l 0 ≡ count_by (level_is l) (set keys s None)) [
            | inl e ↦
                let t : one_if (level_is l (get_or keys s None)) ≡ 1 = ap (λ o. one_if (level_is l o)) here ∙ ap one_if (same_tie key.level l e) in
                let c = k.counted l ok in
                let g : get_or (set L key.level (get_or L key.level 0 - 1)) key.level 0 ≡ get_or L key.level 0 - 1 =
                get_or-set_same L key.level (get_or L key.level 0 - 1) 0 (omega (arith, k.levels_len)) in
                let h : get_or (set L key.level (get_or L key.level 0 - 1)) l 0 ≡ get_or L l 0 - 1 =
                subst (λ z. get_or (set L key.level (get_or L key.level 0 - 1)) z 0 ≡ get_or L z 0 - 1) e g in
                omega (arith, n, t, c, h)
            | inr ne ↦
                let t : one_if (level_is l (get_or keys s None)) ≡ 0 = ap (λ o. one_if (level_is l o)) here ∙ ap one_if (eqb_other key.level l ne) in
                let c = k.counted l ok in
                let h : get_or (set L key.level (get_or L key.level 0 - 1)) l 0 ≡ get_or L l 0 =
                get_or-set_other L key.level l (get_or L key.level 0 - 1) 0 (λ e. ne (sym e)) in
                omega (arith, n, t, c, h)
          ];
      low = λ q other h. elim (cases_eq q s) as (λ _. other.level < LEVELS) [
        | inl e ↦ let g : get_or (set keys s None) q None ≡ None =
            subst (λ z. get_or (set keys s None) z None ≡ None) (sym e) (get_or-set_same keys s None None (omega (arith, k.keys_len))) in cc
        | inr ne ↦ k.low q other (sym (get_or-set_other keys s q None None ne) ∙ h)
      ];
    }

-- the counts are small, and that of a present slot's level isn't 0
pub count_few : (keys : List (Option CellKey)) (N P L : List ℕ) (l : ℕ) → IsCellTable keys N P L → l < LEVELS → get_or L l 0 ≤ SLOTS
count_few keys N P L l k ok = omega (arith, k.counted l ok, count_by-le-length (level_is l) keys, k.keys_len)

pub count_some : (keys : List (Option CellKey)) (N P L : List ℕ) (s : ℕ) (key : CellKey) → IsCellTable keys N P L → s < SLOTS → get_or keys s None ≡ Some key
    → 1 ≤ get_or L key.level 0
count_some keys N P L s key k sl here =
    let n = count_set (level_is key.level) keys s None None (omega (arith, k.keys_len)) in
    let t : one_if (level_is key.level (get_or keys s None)) ≡ 1 =
    ap (λ o. one_if (level_is key.level o)) here ∙ ap one_if (same_tie key.level key.level refl) in
    omega (arith, n, t, k.counted key.level (k.low s key here))

-- what the map says of a slot
none_from : {X : Type 0} (o : Option X) → is_some o ≡ false → o ≡ None
none_from None h = refl
none_from (Some v) h = absurd (true≢false h)

pub absent_is : (keys : List (Option CellKey)) (s : ℕ) → contains_key (map_of keys) s ≡ false → get_or keys s None ≡ None
absent_is keys s h = none_from (get_or keys s None) (ap is_some (sym (get_map keys s)) ∙ h)

pub present_is : (keys : List (Option CellKey)) (s : ℕ) → contains_key (map_of keys) s ≡ true → is_some (get_or keys s None) ≡ true
present_is keys s h = ap is_some (sym (get_map keys s)) ∙ h

pub within : (keys : List (Option CellKey)) (s : ℕ) → is_some (get_or keys s None) ≡ true → s < length keys
within [] s h = absurd (false≢true h)
within (o ∷ keys) zero h = omega arith
within (o ∷ keys) (suc s) h = let l = within keys s h in omega arith

pub beside_of : (keys : List (Option CellKey)) (N P L : List ℕ) (s : ℕ) (key : CellKey) → IsCellTable keys N P L → bucket_of key < BUCKETS
    → get_or keys s None ≡ Some key → Beside N P s
beside_of keys N P L s key k bl here =
    take_inside keys N P (bucket_of key) s (k.rings (bucket_of key) bl) k.keys_len bl
    (ap (meets_test (λ z. bucket_of z == bucket_of key)) here ∙ same_tie (bucket_of key) (bucket_of key) refl)

-- a bucket's number is small
pub bucket_below : (k : CellKey) → bucket_of k < BUCKETS
bucket_below k = omega arith

-- a slot that the map has stands in the list
pub present_within : (keys : List (Option CellKey)) (cells : FinMap nat_cmp CellKey) (s : ℕ) → map_of keys ≡ cells → contains_key cells s ≡ true
    → s < length keys
present_within keys cells s seen has = within keys s (present_is keys s (subst (λ m. contains_key m s ≡ true) (sym seen) has))

-- what is read at it is a key
pub present_some : (keys : List (Option CellKey)) (cells : FinMap nat_cmp CellKey) (s : ℕ) (read : Option CellKey) → map_of keys ≡ cells
    → contains_key cells s ≡ true
    → read ≡ get_or keys s read → is_some read ≡ true
present_some keys cells s read seen has is =
    ap is_some (get_or_read keys s read (present_within keys cells s seen has) is None)
    ∙ present_is keys s (subst (λ m. contains_key m s ≡ true) (sym seen) has)

-- a present slot with its key, the level of which is small, and which stands in a ring
pub record IsPresent (keys : List (Option CellKey)) (N P L : List ℕ) (s : ℕ) (key : CellKey) : Type 0 where
  pub small : s < SLOTS
  pub here : get_or keys s None ≡ Some key
  pub low : key.level < LEVELS
  pub some : 1 ≤ get_or L key.level 0
  pub beside : Beside N P s

pub present : (keys : List (Option CellKey)) (N P L : List ℕ) (cells : FinMap nat_cmp CellKey) (s : ℕ) (read : Option CellKey) (key : CellKey)
    → IsCellTable keys N P L
    → map_of keys ≡ cells → contains_key cells s ≡ true → read ≡ get_or keys s read → read ≡ Some key → IsPresent keys N P L s key
present keys N P L cells s read key k seen has is key_is =
    let within : s < length keys = present_within keys cells s seen has in
    let small : s < SLOTS = omega (arith, k.keys_len) in
    let here : get_or keys s None ≡ Some key = sym (get_or_read keys s read within is None) ∙ key_is in
    record {
      small = small;
      here = here;
      low = k.low s key here;
      some = count_some keys N P L s key k small here;
      beside = beside_of keys N P L s key k (bucket_below key) here;
    }

count_by_cons : {X : Type 0} (p : X → Bool) (x : X) (xs : List X) → count_by p (x ∷ xs) ≡ one_if (p x) + count_by p xs
count_by_cons p x xs = sum_by-cons (λ y. one_if (p y)) x xs

-- how many slots of the map have keys that pass a test
pub len_passing : (p : CellKey → Bool) (n : ℕ) (keys : List (Option CellKey))
    → length (map (λ (e : ℕ × CellKey). e.0) (filter (λ e. p e.1) (entries_from n keys))) ≡ count_by (meets_test p) keys
len_passing p n [] = refl
len_passing p n (None ∷ keys) =
    let r = len_passing p (n + 1) keys in
    let c : count_by (meets_test p) (None ∷ keys) ≡ 0 + count_by (meets_test p) keys = count_by_cons (meets_test p) None keys in
    omega (arith, r, c)
len_passing p n (Some k ∷ keys) =
    let r = len_passing p (n + 1) keys in
    let c : count_by (meets_test p) (Some k ∷ keys) ≡ one_if (p k) + count_by (meets_test p) keys = count_by_cons (meets_test p) (Some k) keys in
    elim (p k) as
    (λ b. count_by (meets_test p) (Some k ∷ keys) ≡ one_if b + count_by (meets_test p) keys → length
    (map (λ (e : ℕ × CellKey). e.0)
    (cond b ((n, k) ∷ filter (λ e. p e.1) (entries_from (n + 1) keys)) (filter (λ e. p e.1) (entries_from (n + 1) keys)))) ≡ count_by
    (meets_test p) (Some k ∷ keys)) [
      | true ↦ λ c. omega (arith, c, r)
      | false ↦ λ c. omega (arith, c, r)
    ] c

pub past : (keys : List (Option CellKey)) (s : ℕ) → length keys ≤ s → get_or keys s None ≡ None
past [] s le = refl
past (o ∷ keys) zero le = absurd (omega arith)
past (o ∷ keys) (suc s) le = past keys s (omega arith)

-- an empty table
count_none : (p : CellKey → Bool) (keys : List (Option CellKey)) → ((k : ℕ) → get_or keys k None ≡ None) → count_by (meets_test p) keys ≡ 0
count_none p [] none = refl
count_none p (o ∷ keys) none =
    let c = count_by_cons (meets_test p) o keys in
    let r = count_none p keys (λ k. none (suc k)) in
    let z : one_if (meets_test p o) ≡ 0 = ap (λ x. one_if (meets_test p x)) (none 0) in
    omega (arith, c, r, z)

pub kept_new : (keys : List (Option CellKey)) (N P L : List ℕ) → length keys ≡ SLOTS → ((k : ℕ) → get_or keys k None ≡ None) → length N ≡ NODES
    → length P ≡ NODES → ((k : ℕ) → k < NODES → get_or N k 0 ≡ k) → ((k : ℕ) → k < NODES → get_or P k 0 ≡ k)
    → length L ≡ LEVELS → ((k : ℕ) → get_or L k 0 ≡ 0) → IsCellTable keys N P L
kept_new keys N P L kl none nl pl ns ps ll zs = record {
  keys_len = kl;
  next_len = nl;
  prev_len = pl;
  levels_len = ll;
  rings = λ b bl. record {
    slots = [];
    linked = (ns (SLOTS + b) (omega arith), ps (SLOTS + b) (omega arith));
    distinct = tt;
    members = λ s. sym (ap (meets_test (λ k. bucket_of k == b)) (none s));
  };
  counted = λ l ok. zs l ∙ sym (count_none (λ k. k.level == l) keys none);
  low = λ s k h. absurd (some_not k (sym h ∙ none s));
}
  where
    some_not : (k : CellKey) → ◌≡◌ {A = Option CellKey} (Some k) None → ⊥
    some_not k e = true≢false (ap is_some e)

pub at_is : (keys : List (Option CellKey)) (level : ℕ) → slots_from (λ k. k.level == level) 0 keys ≡ slots_at (map_of keys) level
at_is keys level = sym (ap (λ es. map (λ (e : ℕ × CellKey). e.0) (filter (λ e. e.1.level == level) es)) (entries_of_map keys))
