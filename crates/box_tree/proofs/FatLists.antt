-- The fat boxes of leaves by their slots.
use Rattle.std.proofs.Common.{◌≡◌, ◌≢◌, ℕ, zero, suc, ◌+◌, ◌<◌, ◌≤◌, true, false, cond, eqb, Option, None, Some, is_some, List, [], ◌∷◌, replicate}
use Rattle.std.proofs.Common.{length, get_or, set, refl, sym, ap, ◌∙◌, subst, arith, ⊎_elim}
use Rattle.std.specs.List.{Contains, sum_by, count_by}
use Rattle.std.specs.List.Sorted.{IsPermutation}
use Rattle.std.proofs.lemmas.Bool.{cases_eq}
use Rattle.std.proofs.lemmas.Bool.Decides.{nat_tests}
use Rattle.std.proofs.lemmas.List.{ext_get_or, get_or-set_same, get_or-set_other, length-replicate, length-set, set-get_or, set-set}
use Rattle.std.proofs.lemmas.List.FromFn.{get_or-map-range_with_len, length-map-range_with_len}
use Rattle.std.proofs.lemmas.List.Elements.{Contains-append_right}
use Rattle.std.proofs.lemmas.List.Sorted.{Contains-permutation, IsPermutation-sym, sum_by_pushed}
use Rattle.std.proofs.lemmas.List.Sums.{sum_by-cons, sum_by-set}
use Rattle.fixed_box.specs.declared.TheConstants.{SLOTS}
use Rattle.fixed_box.specs.Bounds.{Bounds}
use Rattle.tree_nodes.specs.Tree.{Tree, Leaf, leaves_in, one, IsTreeIn}
use Rattle.box_tree.specs.Ties.{fat_under, fats_by, Leafed}
use Rattle.box_tree.proofs.Fats.{none_counted, within}

one_same : (n : ℕ) → one n n ≡ 1
one_same n = let e : eqb n n ≡ true = grind (arith, nat_tests) in rw e refl

in_sum : (f : Leaf → ℕ) (xs : List Leaf) (y : Leaf) (k : ℕ) → k < length xs → get_or xs k y ≡ y → f y ≤ sum_by f xs
in_sum f [] y k lt e = absurd (omega arith)
in_sum f (x ∷ xs) y zero lt e =
    let a = sum_by-cons f x xs in
    let b : f x ≡ f y = ap f e in
    omega (arith, a, b)
in_sum f (x ∷ xs) y (suc k) lt e =
    let a = sum_by-cons f x xs in
    let b = in_sum f xs y k (omega arith) e in
    omega (arith, a, b)

some_same : (a b : Bounds) → ◌≡◌ {A = Option Bounds} (Some a) (Some b) → a ≡ b
some_same a b e = cc

-- no two leaves have the same slot
abbrev pub Apart : List Leaf → Type 0
Apart xs = (k : ℕ) → sum_by (λ (x : Leaf). one x.slot k) xs ≤ 1

pub slots_apart : (o : Option Tree) → IsTreeIn o → Apart (leaves_in o)
slots_apart None t k = omega arith
slots_apart (Some t) is k = is.slots k

apart_tail : (x : Leaf) (xs : List Leaf) → Apart (x ∷ xs) → Apart xs
apart_tail x xs h k =
    let a = sum_by-cons (λ (z : Leaf). one z.slot k) x xs in
    let b = h k in
    omega (arith, a, b)

pub apart_head : (x : Leaf) (xs : List Leaf) → Apart (x ∷ xs) → (y : Leaf) → Contains xs y → y.slot ≢ x.slot
apart_head x xs h y c same =
    let a = sum_by-cons (λ (z : Leaf). one z.slot x.slot) x xs in
    let b = h x.slot in
    let i = in_sum (λ (z : Leaf). one z.slot x.slot) xs y c.0 c.1 c.2 in
    let p : one x.slot x.slot ≡ 1 = one_same x.slot in
    let q : one y.slot x.slot ≡ 1 = subst (λ j. one j x.slot ≡ 1) (sym same) p in
    absurd (omega (arith, a, b, i, p, q))

pub apart_pushed : (x : Leaf) (xs ys : List Leaf) → IsPermutation (x ∷ xs) ys → Apart ys → Apart (x ∷ xs)
apart_pushed x xs ys perm h k =
    let a = sum_by-cons (λ (z : Leaf). one z.slot k) x xs in
    let b = sum_by_pushed (λ (z : Leaf). one z.slot k) x xs ys perm in
    let c = h k in
    omega (arith, a, b, c)

-- a leaf has the fat box that is found under a slot
found_under : (xs : List Leaf) (k : ℕ) (f : Bounds) → fat_under xs k ≡ Some f → (x : Leaf) × Contains xs x × (x.slot ≡ k) × (x.fat ≡ f)
found_under [] k f e = cc
found_under (x ∷ xs) k f e =
    ⊎_elim
    (λ same.
    let t : eqb x.slot k ≡ true = grind (arith, nat_tests) in
    let is : x.fat ≡ f = some_same x.fat f (sym (ap (λ b. cond b (Some x.fat) (fat_under xs k)) t) ∙ e) in
    (x, (0, omega arith, refl), same, is))
    (λ ne.
    let t : eqb x.slot k ≡ false = grind (arith, nat_tests) in
    let r = found_under xs k f (sym (ap (λ b. cond b (Some x.fat) (fat_under xs k)) t) ∙ e) in
    (r.0, Contains-append_right (x ∷ []) xs r.0 r.1, r.2, r.3))
    (cases_eq x.slot k)

-- and each leaf's is found
pub own_under : (xs : List Leaf) → Apart xs → (x : Leaf) → Contains xs x → fat_under xs x.slot ≡ Some x.fat
own_under xs h x c = at xs h c.0 c.1 c.2
  where
    at : (xs : List Leaf) → Apart xs → (k : ℕ) → k < length xs → get_or xs k x ≡ x → fat_under xs x.slot ≡ Some x.fat
    at [] h k lt e = absurd (omega arith)
    at (y ∷ ys) h zero lt e =
        let same : y.slot ≡ x.slot = ap (λ (z : Leaf). z.slot) e in
        let t : eqb y.slot x.slot ≡ true = grind (arith, nat_tests) in
        ap (λ b. cond b (Some y.fat) (fat_under ys x.slot)) t ∙ ap (λ (z : Leaf). Some z.fat) e
    at (y ∷ ys) h (suc k) lt e =
        let ne : x.slot ≢ y.slot = apart_head y ys h x (k, omega arith, e) in
        let t : eqb y.slot x.slot ≡ false = grind (arith, nat_tests) in
        ap (λ b. cond b (Some y.fat) (fat_under ys x.slot)) t ∙ at ys (apart_tail y ys h) k (omega arith) e

pub not_under : (xs : List Leaf) (k : ℕ) → ((x : Leaf) → Contains xs x → x.slot ≢ k) → fat_under xs k ≡ None
not_under xs k none = at (fat_under xs k) refl
  where
    at : (o : Option Bounds) → fat_under xs k ≡ o → fat_under xs k ≡ None
    at None e = e
    at (Some f) e = let r = found_under xs k f e in absurd (none r.0 r.1 r.2)

-- a leaf with the slot and the box of another
abbrev pub Has : List Leaf → Leaf → Type 0
Has xs x = (y : Leaf) × Contains xs y × (y.slot ≡ x.slot) × (y.fat ≡ x.fat)

pub same_under : (xs ys : List Leaf) → Apart xs → Apart ys → (k : ℕ) → ((x : Leaf) → Contains xs x → x.slot ≡ k → Has ys x)
    → ((y : Leaf) → Contains ys y → y.slot ≡ k → Has xs y) → fat_under xs k ≡ fat_under ys k
same_under xs ys ax ay k there back = at (fat_under xs k) (fat_under ys k) refl refl
  where
    at : (a b : Option Bounds) → fat_under xs k ≡ a → fat_under ys k ≡ b → fat_under xs k ≡ fat_under ys k
    at (Some f) b ea eb =
        let r = found_under xs k f ea in
        let y = there r.0 r.1 r.2 in
        let own : fat_under ys k ≡ Some (y.0).fat = subst (λ j. fat_under ys j ≡ Some (y.0).fat) (y.2 ∙ r.2) (own_under ys ay y.0 y.1) in
        ea ∙ sym (own ∙ ap Some (y.3 ∙ r.3))
    at None None ea eb = ea ∙ sym eb
    at None (Some f) ea eb =
        let r = found_under ys k f eb in
        let x = back r.0 r.1 r.2 in
        let own : fat_under xs k ≡ Some (x.0).fat = subst (λ j. fat_under xs j ≡ Some (x.0).fat) (x.2 ∙ r.2) (own_under xs ax x.0 x.1) in
        let no : None ≡ Some (x.0).fat = sym ea ∙ own in
        cc

pub fats_len : (xs : List Leaf) → length (fats_by xs) ≡ SLOTS
unfolding fats_by
fats_len xs = length-map-range_with_len (λ k. fat_under xs k) 0 SLOTS

pub read_fats : (xs : List Leaf) (k : ℕ) → k < SLOTS → get_or (fats_by xs) k None ≡ fat_under xs k
unfolding fats_by
read_fats xs k lt = get_or-map-range_with_len (λ k. fat_under xs k) 0 SLOTS k k None lt (omega arith)

below : (xs : List Leaf) (k : ℕ) → k < length (fats_by xs) → k < SLOTS
below xs k lt = subst (λ n. k < n) (fats_len xs) lt

above : (xs : List Leaf) (k : ℕ) → k < SLOTS → k < length (fats_by xs)
above xs k lt = subst (λ n. k < n) (sym (fats_len xs)) lt

-- the same leaves in another order
pub permuted : (xs ys : List Leaf) → IsPermutation xs ys → Apart xs → Apart ys → fats_by ys ≡ fats_by xs
permuted xs ys perm ax ay =
    ext_get_or None (fats_by ys) (fats_by xs) (fats_len ys ∙ sym (fats_len xs)) (λ k lt.
    let small = below ys k lt in
    read_fats ys k small
    ∙ (same_under ys xs ay ax k (λ y c s. (y, Contains-permutation ys xs y (IsPermutation-sym xs ys perm) c, refl, refl))
    (λ x c s. (x, Contains-permutation xs ys x perm c, refl, refl))
    ∙ sym (read_fats xs k small)))

-- where one slot has another fat box, or none
pub fats_set : (xs ys : List Leaf) (slot : ℕ) (v : Option Bounds) → slot < SLOTS → fat_under ys slot ≡ v
    → ((k : ℕ) → k ≢ slot → fat_under ys k ≡ fat_under xs k) → fats_by ys ≡ set (fats_by xs) slot v
fats_set xs ys slot v small here others =
    ext_get_or None (fats_by ys) (set (fats_by xs) slot v) (fats_len ys ∙ sym (length-set (fats_by xs) slot v ∙ fats_len xs)) (λ k lt.
    let low = below ys k lt in
    read_fats ys k low ∙ ⊎_elim
    (λ s. subst (λ j. fat_under ys j ≡ get_or (set (fats_by xs) slot v) j None) (sym s)
    (here ∙ sym (get_or-set_same (fats_by xs) slot v None (above xs slot small))))
    (λ ne. others k ne ∙ sym (get_or-set_other (fats_by xs) slot k v None ne ∙ read_fats xs k low))
    (cases_eq k slot))

pub pushed : (x : Leaf) (xs : List Leaf) → x.slot < SLOTS → fats_by (x ∷ xs) ≡ set (fats_by xs) x.slot (Some x.fat)
pushed x xs small =
    fats_set xs (x ∷ xs) x.slot (Some x.fat) small
    (let t : eqb x.slot x.slot ≡ true = grind (arith, nat_tests) in ap (λ b. cond b (Some x.fat) (fat_under xs x.slot)) t)
    (λ k ne. let t : eqb x.slot k ≡ false = grind (arith, nat_tests) in ap (λ b. cond b (Some x.fat) (fat_under xs k)) t)

-- a leaf that came
pub came : (x : Leaf) (xs ys : List Leaf) → IsPermutation (x ∷ xs) ys → Apart ys → x.slot < SLOTS → fats_by ys ≡ set (fats_by xs) x.slot (Some x.fat)
came x xs ys perm ay small = permuted (x ∷ xs) ys perm (apart_pushed x xs ys perm ay) ay ∙ pushed x xs small

-- and one that went
pub went : (x : Leaf) (xs ys : List Leaf) → IsPermutation (x ∷ xs) ys → Apart ys → x.slot < SLOTS → fats_by xs ≡ set (fats_by ys) x.slot None
went x xs ys perm ay small =
    let none : get_or (fats_by xs) x.slot None ≡ None =
    read_fats xs x.slot small ∙ not_under xs x.slot (apart_head x xs (apart_pushed x xs ys perm ay)) in
    sym (ap (λ fs. set fs x.slot None) (came x xs ys perm ay small)
    ∙ (set-set (fats_by xs) x.slot (Some x.fat) None
    ∙ (ap (λ v. set (fats_by xs) x.slot v) (sym none) ∙ set-get_or (fats_by xs) x.slot None)))

none_replicated : (n k : ℕ) → ◌≡◌ {A = Option Bounds} (get_or (replicate n None) k None) None
none_replicated zero k = refl
none_replicated (suc n) zero = refl
none_replicated (suc n) (suc k) = none_replicated n k

pub none_by : (k : ℕ) → get_or (fats_by []) k None ≡ None
none_by k =
    ap (λ fs. get_or fs k None) (ext_get_or None (fats_by []) (replicate SLOTS None)
    (fats_len [] ∙ sym (length-replicate {A = Option Bounds} SLOTS None))
    (λ i lt. read_fats [] i (below [] i lt) ∙ sym (none_replicated SLOTS i)))
    ∙ none_replicated SLOTS k

abbrev flag : Option Bounds → ℕ
flag o = cond (is_some o) 1 0

-- how many values there are after a write
pub count_set : (xs : List (Option Bounds)) (k : ℕ) (o : Option Bounds) → k < length xs
    → count_by is_some (set xs k o) + flag (get_or xs k None) ≡ count_by is_some xs + flag o
count_set xs k o lt = sum_by-set (λ (y : Option Bounds). cond (is_some y) 1 0) xs k o None lt

counted_by : (xs : List Leaf) → Apart xs → ((x : Leaf) → Contains xs x → x.slot < SLOTS) → length xs ≡ count_by is_some (fats_by xs)
counted_by [] h small = sym (none_counted (fats_by []) none_by)
counted_by (x ∷ xs) h small =
    let low : x.slot < SLOTS = small x (0, omega arith, refl) in
    let rest = counted_by xs (apart_tail x xs h) (λ y c. small y (Contains-append_right (x ∷ []) xs y c)) in
    let c = count_set (fats_by xs) x.slot (Some x.fat) (above xs x.slot low) in
    let z : flag (get_or (fats_by xs) x.slot None) ≡ 0 = ap flag (read_fats xs x.slot low ∙ not_under xs x.slot (apart_head x xs h)) in
    let e = ap (count_by is_some) (pushed x xs low) in
    omega (arith, rest, c, z, e)

-- The leaves of a tree with small slots are the slots with fat boxes.
pub leafed_by : (o : Option Tree) → IsTreeIn o → ((x : Leaf) → Contains (leaves_in o) x → x.slot < SLOTS) → Leafed o (fats_by (leaves_in o))
leafed_by o tree small = record {
  is_tree = tree;
  fats_len = fats_len (leaves_in o);
  counted = counted_by (leaves_in o) (slots_apart o tree) small;
  fat_is = λ x c. read_fats (leaves_in o) x.slot (small x c) ∙ own_under (leaves_in o) (slots_apart o tree) x c;
  whole = λ k f e.
      let low = below (leaves_in o) k (within (fats_by (leaves_in o)) k (ap is_some e)) in
      let r = found_under (leaves_in o) k f (sym (read_fats (leaves_in o) k low) ∙ e) in (
        (r.0).node,
        subst (λ j. Contains (leaves_in o) (record { node = (r.0).node; slot = j; fat = f })) r.2
            (subst (λ b. Contains (leaves_in o) (record { node = (r.0).node; slot = (r.0).slot; fat = b })) r.3 r.1),
      );
}
