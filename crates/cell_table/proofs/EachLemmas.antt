-- What is found in a bucket, sorted.
use Rattle.std.proofs.Common.{◌≡◌, ℕ, zero, suc, ◌+◌, ◌<◌, ◌≤◌, Bool, true, false, cond, eqb, ◌==◌, ◌&&◌, ◌||◌, List, []}
use Rattle.std.proofs.Common.{◌∷◌, ◌++◌, length, get_or, take, drop, map, Option, None, Some, is_some, refl, sym, ap, ◌∙◌, subst, arith, ⊎_elim, ◌⊎◌}
use Rattle.std.specs.List.{filter, Contains}
use Rattle.std.specs.List.Sorted.{IsPermutation, IsSorted, IsStrictlyIncreasing}
use Rattle.std.specs.Ordering.{nat_cmp}
use Rattle.std.proofs.lemmas.List.{take-append-drop}
use Rattle.std.proofs.Math.Seq.{take-append_seam, drop-append_seam}
use Rattle.std.proofs.lemmas.List.Sorted.{Contains-permutation, IsPermutation-sym, IsNonDecreasingBy-from_sort}
use Rattle.std.proofs.lemmas.Map.Keys.{IsDistinct-IsPermutation, IsStrictlyIncreasing-from_distinct}
use Rattle.std.proofs.lemmas.Bool.{and_parts}
use Rattle.std.proofs.lemmas.Bool.Decides.{nat_tests}
use Rattle.std.specs.Prelude.{ℤ}
use Rattle.fixed_box.specs.declared.TheConstants.{SLOTS}
use Rattle.cell_table.specs.declared.TheConstants.{BUCKETS}
use Rattle.cell_table.specs.declared.cell_key.CellKey.{CellKey}
use Rattle.slot_lists.specs.SlotMap.{entries_from, map_of}
use Rattle.cell_table.specs.Cells.{bucket_of, IsDistinct as DistinctSlots, VisitsRow, has, same_cell, slots_in}
use Rattle.slot_lists.specs.Links.{Fresh, Distinct}
use Rattle.slot_lists.specs.LinkLaws.{distinct_is}
use Rattle.cell_table.specs.Kept.{IsBucket, IsCellTable, Rings, picked, at, meets_test, ring_of, walk}
use Rattle.slot_lists.specs.SlotMapLaws.{entries_of_map, get_map}
use Rattle.cell_table.proofs.RingLemmas.{fresh_not, walk_ring}
use Rattle.fixed_box.proofs.Numbers.{eqb_same, same_int}
use Rattle.fixed_box.proofs.Bools.{same_bool}

abbrev pub Above : ℕ → List ℕ → Type 0
Above x [] = Unit {0}
Above x (y ∷ ys) = (x < y) × Above x ys

-- each number is below all later ones
abbrev pub Up : List ℕ → Type 0
Up [] = Unit {0}
Up (x ∷ xs) = Above x xs × Up xs

above_trans : (x y : ℕ) (ys : List ℕ) → x < y → Above y ys → Above x ys
above_trans x y [] lt a = tt
above_trans x y (z ∷ ys) lt a = (omega arith, above_trans x y ys lt a.1)

not_above : (x k : ℕ) (xs : List ℕ) → k ≤ x → Above x xs → has xs k ≡ false
not_above x k [] le a = refl
not_above x k (y ∷ ys) le a = let e : eqb y k ≡ false = (let lt = a.0 in grind (arith, nat_tests)) in let r = not_above x k ys le a.1 in rw (e, r) refl

has_head : (x : ℕ) (xs : List ℕ) → has (x ∷ xs) x ≡ true
has_head x xs = let e = eqb_same x in rw e refl

pub same : (xs ys : List ℕ) → Up xs → Up ys → ((k : ℕ) → has xs k ≡ has ys k) → xs ≡ ys
same [] [] u v h = refl
same [] (y ∷ ys) u v h = let a = h y in let b = has_head y ys in cc
same (x ∷ xs) [] u v h = let a = h x in let b = has_head x xs in cc
same (x ∷ xs) (y ∷ ys) u v h =
    let heads : x ≡ y = head_is in
    let tails : xs ≡ ys = same xs ys u.1 v.1 rest in
    cc
  where
    head_is : x ≡ y
    head_is = ⊎_elim
        (λ (lt : x < y). let a = h x in let b = has_head x xs in let e : eqb y x ≡ false = grind (arith, nat_tests) in
        let n : has ys x ≡ false = not_above y x ys (omega arith) v.0 in let z : has (y ∷ ys) x ≡ false = (rw (e, n) refl) in cc)
        (λ r. ⊎_elim (λ (e : x ≡ y). e)
        (λ (lt : y < x). let a = h y in let b = has_head y ys in let e : eqb x y ≡ false = grind (arith, nat_tests) in
        let n : has xs y ≡ false = not_above x y xs (omega arith) u.0 in let z : has (x ∷ xs) y ≡ false = (rw (e, n) refl) in cc) r)
        three
      where
        three : (x < y) ⊎ ((x ≡ y) ⊎ (y < x))
        three = grind (arith)

    rest : (k : ℕ) → has xs k ≡ has ys k
    rest k = elim (eqb x k) as (λ b. eqb x k ≡ b → has xs k ≡ has ys k) [
      | true ↦ λ e. let at : x ≡ k = grind (arith, nat_tests) in let a = not_above x k xs (omega arith) u.0 in let yk : y ≡ k = sym head_is ∙ at in let b =
          not_above y k ys (omega arith) v.0 in cc
      | false ↦ λ e. let a = h k in let f : eqb y k ≡ false = subst (λ z. eqb z k ≡ false) head_is e in let p : has (x ∷ xs) k ≡ has xs k =
          (rw e refl) in let q : has (y ∷ ys) k ≡ has ys k = (rw f refl) in cc
    ] refl

pub has_filter : (p : ℕ → Bool) (xs : List ℕ) (k : ℕ) → has (filter p xs) k ≡ (has xs k && p k)
has_filter p [] k = refl
has_filter p (x ∷ xs) k = elim (eqb x k) as (λ b. eqb x k ≡ b → has (cond (p x) (x ∷ filter p xs) (filter p xs)) k ≡ ((b || has xs k) && p k)) [
  | true ↦ λ e. let at : x ≡ k = grind (arith, nat_tests) in let r = has_filter p xs k in
      elim (p x) as (λ c. p x ≡ c → has (cond c (x ∷ filter p xs) (filter p xs)) k ≡ p k) [
        | true ↦ λ q. let pk : p k ≡ true = subst (λ z. p z ≡ true) at q in rw (e, pk) refl
        | false ↦ λ q. let pk : p k ≡ false = subst (λ z. p z ≡ false) at q in r ∙ rw pk (and_false (has xs k))
      ] refl
  | false ↦ λ e. elim (p x) as
      (λ c. has (cond c (x ∷ filter p xs) (filter p xs)) k ≡ (has xs k && p k)) [ true ↦ rw e (has_filter p xs k) | false ↦ has_filter p xs k ]
] refl
  where
    and_false : (b : Bool) → (b && false) ≡ false
    and_false true = refl
    and_false false = refl

pub has_contains : (xs : List ℕ) (k : ℕ) → has xs k ≡ true → Contains xs k
has_contains [] k h = cc
has_contains (x ∷ xs) k h = elim (eqb x k) as (λ b. eqb x k ≡ b → (b || has xs k) ≡ true → Contains (x ∷ xs) k) [
  | true ↦ λ e _. let at : x ≡ k = grind (arith, nat_tests) in (0, omega arith, at)
  | false ↦ λ _ h. let r = has_contains xs k h in (suc r.0, (let l = r.1 in omega arith), r.2)
] refl h

has_at : (xs : List ℕ) (k i : ℕ) → i < length xs → get_or xs i k ≡ k → has xs k ≡ true
has_at [] k i l e = absurd (omega arith)
has_at (x ∷ xs) k zero l e = let s : eqb x k ≡ true = grind (arith, nat_tests) in rw s refl
has_at (x ∷ xs) k (suc i) l e = let r = has_at xs k i (omega arith) e in elim (eqb x k) as (λ b. (b || has xs k) ≡ true) [ true ↦ refl | false ↦ r ]

pub contains_has : (xs : List ℕ) (k : ℕ) → Contains xs k → has xs k ≡ true
contains_has xs k c = has_at xs k c.0 c.1 c.2

pub up_increasing : (xs : List ℕ) → IsStrictlyIncreasing xs → Up xs
up_increasing [] h = tt
up_increasing (x ∷ []) h = (tt, tt)
up_increasing (x ∷ y ∷ ys) h =
    let lt : x < y = h 0 (omega arith) in
    let r : Up (y ∷ ys) =
    up_increasing (y ∷ ys)
    (λ k l. let e : suc k + 1 ≡ suc (k + 1) = omega arith in subst (λ z. get_or (y ∷ ys) k 0 < get_or (x ∷ y ∷ ys) z 0) e (h (suc k) (omega arith))) in
    ((lt, above_trans x y ys lt r.0), r)

flips : (x y : ℕ) → eqb x y ≡ eqb y x
flips x y = grind (arith, nat_tests)

-- a sort of distinct numbers
pub sorted_up : (ps xs : List ℕ) → Distinct ps → IsPermutation ps xs → IsSorted nat_cmp xs → Up xs
sorted_up ps xs d p s =
    up_increasing xs
    (IsStrictlyIncreasing-from_distinct xs (IsNonDecreasingBy-from_sort (λ x. x) xs s) (IsDistinct-IsPermutation eqb flips ps xs p (distinct_is ps d)))

pub has_moved : (ps xs : List ℕ) (k : ℕ) → IsPermutation ps xs → has xs k ≡ has ps k
has_moved ps xs k p = same_bool _ _
    (λ h. contains_has ps k (Contains-permutation xs ps k (IsPermutation-sym ps xs p) (has_contains xs k h)))
    (λ h. contains_has xs k (Contains-permutation ps xs k p (has_contains ps k h)))

fresh_filter : (k : ℕ) (p : ℕ → Bool) (xs : List ℕ) → Fresh k xs → Fresh k (filter p xs)
fresh_filter k p [] f = tt
fresh_filter k p (x ∷ xs) f =
    elim (p x) as (λ b. Fresh k (cond b (x ∷ filter p xs) (filter p xs))) [ true ↦ (f.0, fresh_filter k p xs f.1) | false ↦ fresh_filter k p xs f.1 ]

pub distinct_filter : (p : ℕ → Bool) (xs : List ℕ) → Distinct xs → Distinct (filter p xs)
distinct_filter p [] d = tt
distinct_filter p (x ∷ xs) d =
    elim (p x) as
    (λ b. Distinct (cond b (x ∷ filter p xs) (filter p xs))) [
      | true ↦
          (fresh_filter x p xs d.0, distinct_filter p xs d.1)
      | false ↦ distinct_filter p xs d.1
    ]

-- ---- the slots of a list whose values pass a test
module _ {X : Type 0} (p : X → Bool) where
  abbrev pub passing : ℕ → List (Option X) → List ℕ
  passing n xs = map (λ (e : ℕ × X). e.0) (filter (λ e. p e.1) (entries_from n xs))

  abbrev pub passes : Option X → Bool
  passes None = false
  passes (Some v) = p v

  above_passing : (k n : ℕ) (xs : List (Option X)) → k < n → Above k (passing n xs)
  above_passing k n [] lt = tt
  above_passing k n (None ∷ xs) lt = above_passing k (n + 1) xs (omega arith)
  above_passing k n (Some v ∷ xs) lt =
      elim (p v) as
      (λ b. Above k
      (map (λ (e : ℕ × X). e.0) (cond b ((n, v) ∷ filter (λ e. p e.1) (entries_from (n + 1) xs)) (filter (λ e. p e.1) (entries_from (n + 1) xs))))) [
        | true ↦ (lt, above_passing k (n + 1) xs (omega arith))
        | false ↦ above_passing k (n + 1) xs (omega arith)
      ]

  pub passing_up : (n : ℕ) (xs : List (Option X)) → Up (passing n xs)
  passing_up n [] = tt
  passing_up n (None ∷ xs) = passing_up (n + 1) xs
  passing_up n (Some v ∷ xs) =
      elim (p v) as
      (λ b. Up (map (λ (e : ℕ × X). e.0)
      (cond b ((n, v) ∷ filter (λ e. p e.1) (entries_from (n + 1) xs)) (filter (λ e. p e.1) (entries_from (n + 1) xs))))) [
        | true ↦ (above_passing n (n + 1) xs (omega arith), passing_up (n + 1) xs)
        | false ↦ passing_up (n + 1) xs
      ]

  has_cons : (b : Bool) (n q : ℕ) (v : X) (es : List (ℕ × X))
      → has (map (λ (e : ℕ × X). e.0) (cond b ((n, v) ∷ es) es)) q ≡ ((b && eqb n q) || has (map (λ (e : ℕ × X). e.0) es) q)
  has_cons true n q v es = refl
  has_cons false n q v es = refl

  pub has_passing : (n k : ℕ) (xs : List (Option X)) → has (passing n xs) (n + k) ≡ passes (get_or xs k None)
  has_passing n k [] = refl
  has_passing n zero (None ∷ xs) = not_above n (n + 0) (passing (n + 1) xs) (omega arith) (above_passing n (n + 1) xs (omega arith))
  has_passing n (suc k) (None ∷ xs) = let e : n + suc k ≡ (n + 1) + k = omega arith in ap (has (passing (n + 1) xs)) e ∙ has_passing (n + 1) k xs
  has_passing n zero (Some v ∷ xs) =
      let t : eqb n (n + 0) ≡ true = grind (arith, nat_tests) in
      let no_later = not_above n (n + 0) (passing (n + 1) xs) (omega arith) (above_passing n (n + 1) xs (omega arith)) in
      has_cons (p v) n (n + 0) v (filter (λ e. p e.1) (entries_from (n + 1) xs))
      ∙ rw (t, no_later) (elim (p v) as (λ b. ((b && true) || false) ≡ b) [ true ↦ refl | false ↦ refl ])
  has_passing n (suc k) (Some v ∷ xs) =
      let e : n + suc k ≡ (n + 1) + k = omega arith in
      let t : eqb n (n + suc k) ≡ false = grind (arith, nat_tests) in
      has_cons (p v) n (n + suc k) v (filter (λ e. p e.1) (entries_from (n + 1) xs)) ∙ ap (λ b. (p v && b) || has (passing (n + 1) xs) (n + suc k)) t
      ∙ elim (p v) as (λ b. ((b && false) || has (passing (n + 1) xs) (n + suc k)) ≡ has (passing (n + 1) xs) (n + suc k)) [ true ↦ refl | false ↦ refl ]
      ∙ ap (has (passing (n + 1) xs)) e ∙ has_passing (n + 1) k xs

-- ---- a key's slots are in its bucket
same_level : (x y : ℕ) → eqb x y ≡ true → x ≡ y
same_level x y h = grind (arith, nat_tests)

one_key : (a b : CellKey) → same_cell a b ≡ true → bucket_of a ≡ bucket_of b
one_key a b h =
    let r = and_parts _ _ h in
    let s = and_parts _ _ r.0 in
    let t = and_parts _ _ s.0 in
    let l = same_level a.level b.level t.0 in
    let x = same_int a.x b.x t.1 in
    let y = same_int a.y b.y s.1 in
    let z = same_int a.z b.z r.1 in
    rw (l, x, y, z) refl

in_own : (key : CellKey) (o : Option CellKey)
    → (meets_test (λ k. bucket_of k == bucket_of key) o && meets_test (λ k. same_cell k key) o) ≡ meets_test (λ k. same_cell k key) o
in_own key None = refl
in_own key (Some k) = elim (same_cell k key) as (λ b. same_cell k key ≡ b → ((bucket_of k == bucket_of key) && b) ≡ b) [
  | true ↦ λ h. let t : (bucket_of k == bucket_of key) ≡ true = (let e = one_key k key h in grind (arith, nat_tests)) in rw t refl
  | false ↦ λ _. elim (bucket_of k == bucket_of key) as (λ b. (b && false) ≡ false) [ true ↦ refl | false ↦ refl ]
] refl

-- what is picked from a bucket, sorted, is what the map has
pub tail_is : (keys : List (Option CellKey)) (N P L xs : List ℕ) (key : CellKey) (ps : List ℕ) → IsCellTable keys N P L → bucket_of key < BUCKETS
    → ps ≡ picked key keys (walk N SLOTS (get_or N (SLOTS + bucket_of key) 0))
    → IsPermutation ps xs → IsSorted nat_cmp xs → xs ≡ slots_in (map_of keys) key
tail_is keys N P L xs key ps k bl is p s =
    let b = bucket_of key in
    let r = k.rings b bl in
    let q : CellKey → Bool = λ c. same_cell c key in
    let e : ps ≡ filter (at q keys) r.slots = is ∙ ap (filter (at q keys)) (walk_ring keys N P b r k.keys_len) in
    let d : Distinct ps = subst Distinct (sym e) (distinct_filter (at q keys) r.slots r.distinct) in
    same xs (passing q 0 keys) (sorted_up ps xs d p s) (passing_up q 0 keys) (λ v.
    has_moved ps xs v p ∙ ap (λ l. has l v) e ∙ has_filter (at q keys) r.slots v ∙ ap (λ t. t && at q keys v) (r.members v) ∙ in_own key (get_or keys v None)
    ∙ sym (ap (has (passing q 0 keys)) (let z : v ≡ 0 + v = omega arith in z) ∙ has_passing q 0 v keys ∙ passes_is q (get_or keys v None)))
    ∙ sym (ap (λ es. map (λ (e : ℕ × CellKey). e.0) (filter (λ e. same_cell e.1 key) es)) (entries_of_map keys))
  where
    passes_is : (q : CellKey → Bool) (o : Option CellKey) → passes q o ≡ meets_test q o
    passes_is q None = refl
    passes_is q (Some c) = refl

pub each_is : (keys : List (Option CellKey)) (N P L old mid new : List ℕ) (n : ℕ) (key : CellKey) (ps : List ℕ) → IsCellTable keys N P L
    → bucket_of key < BUCKETS → ps ≡ picked key keys (walk N SLOTS (get_or N (SLOTS + bucket_of key) 0))
    → n ≡ length old → mid ≡ old ++ ps → take n new ≡ take n mid → IsPermutation (drop n mid) (drop n new) → IsSorted nat_cmp
    (drop n new) → new ≡ old ++ slots_in (map_of keys) key
each_is keys N P L old mid new n key ps k bl is len put kept moved sorted =
    let front : take n mid ≡ old = ap (λ z. take z mid) len ∙ ap (take (length old)) put ∙ take-append_seam old ps in
    let back : drop n mid ≡ ps = ap (λ z. drop z mid) len ∙ ap (drop (length old)) put ∙ drop-append_seam old ps in
    let t = tail_is keys N P L (drop n new) key ps k bl is (subst (λ l. IsPermutation l (drop n new)) back moved) sorted in
    sym (take-append-drop n new) ∙ ap (λ l. l ++ drop n new) (kept ∙ front) ∙ ap (λ l. old ++ l) t

pub distinct_has : (xs : List ℕ) → Distinct xs → DistinctSlots xs
distinct_has [] d = tt
distinct_has (x ∷ xs) d = (fresh_not x xs d.0, distinct_has xs d.1)

-- ---- a whole bucket
pub some_passes : (p : CellKey → Bool) (o : Option CellKey) → meets_test p o ≡ true → is_some o ≡ true
some_passes p None h = h
some_passes p (Some k) h = refl

pub bucketed : (keys : List (Option CellKey)) (N P L : List ℕ) (key : CellKey) → IsCellTable keys N P L → bucket_of key < BUCKETS
    → IsBucket (map_of keys) key (ring_of N key)
bucketed keys N P L key k bl =
    let r = k.rings (bucket_of key) bl in
    let e : ring_of N key ≡ r.slots = walk_ring keys N P (bucket_of key) r k.keys_len in
    record {
      members = λ s h. ap (λ l. has l s) e ∙ r.members s ∙ ap (meets_test (λ c. bucket_of c == bucket_of key)) (sym (get_map keys s) ∙ h)
          ∙ eqb_same (bucket_of key);
      present = λ s h. ap is_some (get_map keys s)
          ∙ some_passes (λ c. bucket_of c == bucket_of key) (get_or keys s None) (sym (ap (λ l. has l s) e ∙ r.members s) ∙ h);
    }

pub row_visited : (keys : List (Option CellKey)) (N P L old new : List ℕ) (key : CellKey) (end : ℤ) → IsCellTable keys N P L
    → ((c : CellKey) → bucket_of c < BUCKETS) → Rings N key end old new → VisitsRow (map_of keys) key end old new
row_visited keys N P L old new key end k below r = record {
  slots = r.slots;
  appended = r.appended;
  members = λ z s lo lt h. r.whole z s lo lt ((bucketed keys N P L (record key { z = z }) k (below (record key { z = z }))).members s h);
  present = λ s h. let l = r.linked s h in (bucketed keys N P L l.key k (below l.key)).present s l.here;
}
