-- The steps of a descent with a group of boxes.
use Rattle.std.proofs.Common.{◌≡◌, ℕ, zero, suc, ◌+◌, ◌*◌, ◌/◌, ◌%◌, ◌^◌, ◌<◌, ◌≤◌, ◌==◌, ◌||◌, max, Bool, true, false, not}
use Rattle.std.proofs.Common.{cond, Option, None, Some, List, [], ◌∷◌}
use Rattle.std.proofs.Common.{◌++◌, option_map, map, length, get_or, take, refl, sym, ap, ◌∙◌, subst, arith}
use Rattle.std.specs.Prelude.{count_ones, drop}
use Rattle.std.proofs.Math.Nat.{pow-succ', div-div-eq-div-mul}
use Rattle.std.specs.List.{filter}
use Rattle.std.specs.Simd.Lanes.{mask_l}
use Rattle.std.proofs.lemmas.Simd.{ones-mask_l}
use Rattle.std.proofs.lemmas.List.Sums.{sum_by-cons}
use Rattle.std.specs.List.{count_by}
use Rattle.fixed_box.specs.Bounds.{Bounds, encloses, meets}
use Rattle.broad_index.specs.declared.query.Query.TheVariants.{Region}
use Rattle.broad_index.specs.Found.{found_of}
use Rattle.broad_index.specs.declared.pair.Pair.{Pair}
use Rattle.std.proofs.lemmas.List.Folds.{list_any-append}
use Rattle.broad_index.specs.Members.{has_pair, same_pair}
use Rattle.broad_index.specs.Touched.{ordered_pairs}
use Rattle.lane_boxes.specs.Places.{next_eight}
use Rattle.tree_nodes.specs.declared.node_view.NodeView.{NodeView}
use Rattle.tree_nodes.specs.declared.node_view.NodeView.TheVariants.{Inner}
use Rattle.tree_nodes.specs.Parts.{height_shown}
use Rattle.tree_nodes.specs.Tree.{Tree, tip, fork, top, leaves, height, bounds, view_of, view_in, visits, count_of}
use Rattle.tree_nodes.specs.Tree.{Balanced, IsRefitted, IsTreeIn, Within}
use Rattle.tree_search.specs.Looked.{raised}
use Rattle.tree_search.specs.Exact.{entry_of, exact, exact_in, IsInside, IsInsideIn}
use Rattle.tree_search.specs.Crossed.{others_met, crossed, all_visits_in, Adds}
use Rattle.tree_search.specs.Group.{below, all_below, picked, IsShown, IsBelow, BoxLaws, OpenedAs}
use Rattle.tree_search.proofs.Descents.{exact_append}
use Rattle.tree_search.proofs.Counts.{raised_again}
use Rattle.tree_search.proofs.CrossedPairs.{crossed_append}
use Rattle.fixed_box.proofs.Bools.{or_false, or_assoc}

shown_top : (o : Option Tree) (t : Tree) → IsShown o t → view_in o (top t) ≡ Some (view_of t)
shown_top o (tip n s f) s1 = s1
shown_top o (fork n h k l r) s1 = s1.0

opened_own : (o : Option Tree) (bodies : List (Option Bounds)) (at : ℕ) (t : Tree) → IsBelow o bodies at t → OpenedAs o bodies (view_of t) t
opened_own o bodies at (tip n s f) b = (n, refl, b.inside)
opened_own o bodies at (fork n h k l r) b = (
  n,
  l,
  r,
  refl,
  record { at_is = refl; shown = b.shown.1.0; balanced = b.balanced.1; inside = b.inside.0 },
  record { at_is = refl; shown = b.shown.1.1; balanced = b.balanced.2; inside = b.inside.1 },
  b.balanced.0,
)

one_view : (o : Option Tree) (at : ℕ) (v : NodeView) (t : Tree) → at ≡ top t → view_in o (top t) ≡ Some (view_of t) → view_in o at ≡ Some v → view_of t ≡ v
one_view o at v t e s h = cc

-- what a node that is looked at tells of the tree below it
pub opened : (o : Option Tree) (bodies : List (Option Bounds)) (at : ℕ) (v : NodeView) (t : Tree) → IsBelow o bodies at t → view_in o at ≡ Some v
    → OpenedAs o bodies v t
opened o bodies at v t b h =
    subst (λ u. OpenedAs o bodies u t) (one_view o at v t b.at_is (shown_top o t b.shown) h) (opened_own o bodies at t b)

pub opened_inner : (o : Option Tree) (bodies : List (Option Bounds)) (at left right k : ℕ) (h : Bounds) (t : Tree) → IsBelow o bodies at t
    → view_in o at ≡ Some (Inner left right h k)
    → (n : ℕ) × (l : Tree) × (r : Tree) × (t ≡ fork n h k l r) × IsBelow o bodies left l × IsBelow o bodies right r × IsRefitted h k l r
opened_inner o bodies at left right k h t b e = opened o bodies at (Inner left right h k) t b e

pub none_below : (n s : ℕ) (f : Bounds) (es : List (ℕ × Bounds)) → all_below (tip n s f) es ≡ 0
none_below n s f [] = refl
none_below n s f (e ∷ es) = let rest = none_below n s f es in omega arith

pub seen : (o : Option Tree) (bodies : List (Option Bounds)) (at : ℕ) (t : Tree) → IsBelow o bodies at t → view_in o at ≡ Some (view_of t)
seen o bodies at t b = ap (view_in o) b.at_is ∙ shown_top o t b.shown

height_top : (t : Tree) → height_shown (Some (view_of t)) ≡ height t
height_top (tip n s f) = refl
height_top (fork n h k l r) = refl

-- a child is lower
pub lower : (o : Option Tree) (bodies : List (Option Bounds)) (at down left right k : ℕ) (h : Bounds) (t : Tree) → IsBelow o bodies down t
    → view_in o at ≡ Some (Inner left right h k) → suc (height t) ≤ k → height_shown (view_in o down) < height_shown (view_in o at)
lower o bodies at down left right k h t b e lt =
    let a : height_shown (view_in o down) ≡ height t = ap height_shown (seen o bodies down t b) ∙ height_top t in
    let c : height_shown (view_in o at) ≡ k = ap height_shown e in
    omega arith

pub left_lower : (h : Bounds) (k : ℕ) (l r : Tree) → IsRefitted h k l r → suc (height l) ≤ k
left_lower h k l r i = let e : k ≡ 1 + max (height l) (height r) = i.height_is in grind (arith)

pub right_lower : (h : Bounds) (k : ℕ) (l r : Tree) → IsRefitted h k l r → suc (height r) ≤ k
right_lower h k l r i = let e : k ≡ 1 + max (height l) (height r) = i.height_is in grind (arith)

-- Bits

pub take_all : {X : Type 0} (n : ℕ) (xs : List X) → length xs ≤ n → take n xs ≡ xs
take_all zero [] l = refl
take_all zero (x ∷ xs) l = absurd (omega arith)
take_all (suc n) [] l = refl
take_all (suc n) (x ∷ xs) l = ap (λ ys. x ∷ ys) (take_all n xs (omega arith))

length_boxes : (es : List (ℕ × Bounds)) → length (map (λ (e : ℕ × Bounds). e.1) es) ≡ length es
length_boxes [] = refl
length_boxes (e ∷ es) = ap suc (length_boxes es)

-- the bits of a group's boxes that meet one
abbrev pub bits_of : Bounds → List (ℕ × Bounds) → ℕ
bits_of h es = mask_l (map (meets h) (map (λ (e : ℕ × Bounds). e.1) es))

pub group_bits : (h : Bounds) (boxes : List Bounds) (es : List (ℕ × Bounds)) (mask : ℕ) → boxes ≡ map (λ (e : ℕ × Bounds). e.1) es → length es ≤ 8
    → mask ≡ next_eight (meets h) 0 boxes → mask ≡ bits_of h es
group_bits h boxes es mask eb few em =
    let le : length boxes ≤ 8 = let a = ap length eb in let b = length_boxes es in omega arith in
    em ∙ ap (λ xs. mask_l (map (meets h) xs)) (take_all 8 boxes le ∙ eb)

bit_test : (b : Bool) (m : ℕ) → ((cond b 1 0 + 2 * m) % 2 == 1) ≡ b
bit_test true m = grind arith
bit_test false m = grind arith

later_bits : (b : Bool) (m : ℕ) → (cond b 1 0 + 2 * m) / 2 ≡ m
later_bits true m = omega arith
later_bits false m = omega arith

-- the slots of these bits are found
picked_found : (h : Bounds) (es : List (ℕ × Bounds)) → picked (bits_of h es) es ≡ found_of es (Region h)
picked_found h [] = refl
picked_found h (e ∷ es) =
    let more : List (ℕ × Bounds) = filter (λ (y : ℕ × Bounds). meets h y.1) es in
    rw (bit_test (meets h e.1) (bits_of h es), later_bits (meets h e.1) (bits_of h es), picked_found h es)
    (elim (meets h e.1) as
    (λ t. cond t (e.0 ∷ found_of es (Region h)) (found_of es (Region h)) ≡ map (λ (y : ℕ × Bounds). y.0) (cond t (e ∷ more) more))
    [ true ↦ refl | false ↦ refl ])

pub picked_none : (es : List (ℕ × Bounds)) → picked 0 es ≡ []
picked_none [] = refl
picked_none (e ∷ es) = picked_none es

-- those before the lowest bit are passed by
pub skipped : (g n : ℕ) (es : List (ℕ × Bounds)) → ((i : ℕ) → i < g → n / 2 ^ i % 2 ≡ 0) → picked n es ≡ picked (n / 2 ^ g) (drop g es)
skipped zero n es z = ap (λ m. picked m es) (omega arith)
skipped (suc g) n [] z = refl
skipped (suc g) n (e ∷ es) z =
    let even : n % 2 ≡ 0 = let h = z 0 (omega arith) in omega (arith, h) in
    let twice : (i : ℕ) → n / 2 / 2 ^ i ≡ n / 2 ^ suc i = λ i. div-div-eq-div-mul n 2 (2 ^ i) ∙ ap (λ m. n / m) (sym (pow-succ' 2 i)) in
    ap (λ r. cond (r == 1) (e.0 ∷ picked (n / 2) es) (picked (n / 2) es)) even
    ∙ skipped g (n / 2) es (λ i lt. ap (λ m. m % 2) (twice i) ∙ z (suc i) (omega arith))
    ∙ ap (λ m. picked m (drop g es)) (twice g)

-- and the next one is picked
pub next_picked : (g n : ℕ) (e : ℕ × Bounds) (es more : List (ℕ × Bounds)) → ((i : ℕ) → i < g → n / 2 ^ i % 2 ≡ 0) → n / 2 ^ g % 2 ≡ 1
    → drop g es ≡ e ∷ more → picked n es ≡ e.0 ∷ picked (n / 2 ^ g / 2) more
next_picked g n e es more z one is =
    skipped g n es z ∙ ap (picked (n / 2 ^ g)) is
    ∙ ap (λ r. cond (r == 1) (e.0 ∷ picked (n / 2 ^ g / 2) more) (picked (n / 2 ^ g / 2) more)) one

-- Bits past the last of a group pick none.
pub past_last : (g n : ℕ) (es : List (ℕ × Bounds)) → ((i : ℕ) → i < g → n / 2 ^ i % 2 ≡ 0) → drop g es ≡ [] → picked n es ≡ []
past_last g n es z is = skipped g n es z ∙ ap (picked (n / 2 ^ g)) is

-- the pairs of a slot with one more
pub other_on : (slot k : ℕ) (ks : List ℕ) → ordered_pairs slot (filter (λ s. not (s == slot)) (k ∷ ks))
    ≡ ordered_pairs slot (filter (λ s. not (s == slot)) (k ∷ [])) ++ ordered_pairs slot (filter (λ s. not (s == slot)) ks)
other_on slot k ks =
    elim (not (k == slot)) as
    (λ t. ordered_pairs slot (cond t (k ∷ filter (λ s. not (s == slot)) ks) (filter (λ s. not (s == slot)) ks))
    ≡ ordered_pairs slot (cond t (k ∷ []) []) ++ ordered_pairs slot (filter (λ s. not (s == slot)) ks))
    [ true ↦ refl | false ↦ refl ]

-- how many of a group meet a box
abbrev met_count : Bounds → List (ℕ × Bounds) → ℕ
met_count h [] = 0
met_count h (e ∷ es) = cond (meets h e.1) 1 0 + met_count h es

count_met : (h : Bounds) (es : List (ℕ × Bounds)) → count_by (meets h) (map (λ (e : ℕ × Bounds). e.1) es) ≡ met_count h es
count_met h [] = refl
count_met h (e ∷ es) =
    sum_by-cons (λ b. cond (meets h b) 1 0) e.1 (map (λ (x : ℕ × Bounds). x.1) es) ∙ ap (λ n. cond (meets h e.1) 1 0 + n) (count_met h es)

ones_met : (h : Bounds) (es : List (ℕ × Bounds)) → count_ones (bits_of h es) ≡ met_count h es
ones_met h es = ones-mask_l (meets h) (map (λ (e : ℕ × Bounds). e.1) es) ∙ count_met h es

-- None of a group meets a box.
abbrev pub Quiet : Bounds → List (ℕ × Bounds) → Type 0
Quiet h [] = Unit {0}
Quiet h (e ∷ es) = (meets h e.1 ≡ false) × Quiet h es

no_bit : (b : Bool) (m : ℕ) → cond b 1 0 + 2 * m ≡ 0 → (b ≡ false) × (m ≡ 0)
no_bit true m e = absurd (omega arith)
no_bit false m e = (refl, omega arith)

pub quiet_from : (h : Bounds) (es : List (ℕ × Bounds)) → bits_of h es ≡ 0 → Quiet h es
quiet_from h [] e = tt
quiet_from h (x ∷ es) e = let n = no_bit (meets h x.1) (bits_of h es) e in (n.0, quiet_from h es n.1)

quiet_found : (h : Bounds) (es : List (ℕ × Bounds)) → Quiet h es → found_of es (Region h) ≡ []
quiet_found h [] q = refl
quiet_found h (e ∷ es) q =
    let more : List (ℕ × Bounds) = filter (λ (y : ℕ × Bounds). meets h y.1) es in
    ap (λ m. map (λ (y : ℕ × Bounds). y.0) (cond m (e ∷ more) more)) q.0 ∙ quiet_found h es q.1

module _ (w : BoxLaws) where
  pub missed : (outer inner b : Bounds) → encloses outer inner ≡ true → meets outer b ≡ false → meets inner b ≡ false
  missed outer inner b e m = w.either_way inner b ∙ (w.each (Region b)).missed outer inner e (w.either_way b outer ∙ m)

  quiet_inside : (outer inner : Bounds) → encloses outer inner ≡ true → (es : List (ℕ × Bounds)) → Quiet outer es → Quiet inner es
  quiet_inside outer inner e [] q = tt
  quiet_inside outer inner e (x ∷ es) q = (missed outer inner x.1 e q.0, quiet_inside outer inner e es q.1)

  left_in : (h : Bounds) (k : ℕ) (l r : Tree) → IsRefitted h k l r → encloses h (bounds l) ≡ true
  left_in h k l r i = ap (λ x. encloses x (bounds l)) i.hull_is ∙ (w.each (Region h)).this (bounds l) (bounds r)

  right_in : (h : Bounds) (k : ℕ) (l r : Tree) → IsRefitted h k l r → encloses h (bounds r) ≡ true
  right_in h k l r i = ap (λ x. encloses x (bounds r)) i.hull_is ∙ (w.each (Region h)).that (bounds l) (bounds r)

  quiet_entry : (bodies : List (Option Bounds)) (s : ℕ) (f : Bounds) (es : List (ℕ × Bounds)) → Quiet f es → (p : Option Bounds)
      → ((b : Bounds) → p ≡ Some b → encloses f b ≡ true) → crossed es (entry_of s p ++ []) ≡ []
  quiet_entry bodies s f es q None inside = refl
  quiet_entry bodies s f es q (Some b) inside =
      ap (λ ks. ordered_pairs s (filter (λ k. not (k == s)) ks) ++ []) (quiet_found b es (quiet_inside f b (inside b refl) es q))

  -- below a hull that none meets there is no pair
  quiet_crossed : (bodies : List (Option Bounds)) (es : List (ℕ × Bounds)) (t : Tree) → Balanced t → IsInside bodies t → Quiet (bounds t) es
      → crossed es (exact bodies (leaves t)) ≡ []
  quiet_crossed bodies es (tip n s f) bal inside q = quiet_entry bodies s f es q (get_or bodies s None) inside.inside
  quiet_crossed bodies es (fork n h k l r) bal inside q =
      let a = quiet_crossed bodies es l bal.1 inside.0 (quiet_inside h (bounds l) (left_in h k l r bal.0) es q) in
      let b = quiet_crossed bodies es r bal.2 inside.1 (quiet_inside h (bounds r) (right_in h k l r bal.0) es q) in
      ap (crossed es) (exact_append bodies (leaves l) (leaves r))
      ∙ crossed_append es (exact bodies (leaves l)) (exact bodies (leaves r))
      ∙ ap (λ ps. ps ++ crossed es (exact bodies (leaves r))) a ∙ b

  -- and no look
  quiet_below : (t : Tree) (es : List (ℕ × Bounds)) → Quiet (bounds t) es → all_below t es ≡ 0
  quiet_below (tip n s f) es q = none_below n s f es
  quiet_below (fork n h k l r) [] q = refl
  quiet_below (fork n h k l r) (e ∷ es) q =
      ap (λ m. cond m (visits l e.1 + visits r e.1) 0 + all_below (fork n h k l r) es) q.0
      ∙ (let rest = quiet_below (fork n h k l r) es q.1 in omega arith)

  pub quiet_none : (bodies : List (Option Bounds)) (es : List (ℕ × Bounds)) (t : Tree) → Balanced t → IsInside bodies t → Quiet (bounds t) es
      → (crossed es (exact bodies (leaves t)) ≡ []) × (all_below t es ≡ 0)
  quiet_none bodies es t balanced inside q = (quiet_crossed bodies es t balanced inside q, quiet_below t es q)

  visits_below : (t : Tree) (b : Bounds) → visits t b ≡ 1 + below t b
  visits_below (tip n s f) b = refl
  visits_below (fork n h k l r) b = refl

  missed_below : (h b : Bounds) (t : Tree) → encloses h (bounds t) ≡ true → meets h b ≡ false → below t b ≡ 0
  missed_below h b (tip n s f) e m = refl
  missed_below h b (fork n g k l r) e m = ap (λ x. cond x (visits l b + visits r b) 0) (missed h g b e m)

  below_fork : (n k : ℕ) (h : Bounds) (l r : Tree) → IsRefitted h k l r → (b : Bounds)
      → below (fork n h k l r) b ≡ 2 * cond (meets h b) 1 0 + (below l b + below r b)
  below_fork n k h l r i b =
      let vl = visits_below l b in
      let vr = visits_below r b in
      elim (meets h b) as (λ m. meets h b ≡ m → cond m (visits l b + visits r b) 0 ≡ 2 * cond m 1 0 + (below l b + below r b)) [
        | true ↦ λ m. omega arith
        | false ↦ λ m.
            let a = missed_below h b l (left_in h k l r i) m in
            let c = missed_below h b r (right_in h k l r i) m in
            omega arith
      ] refl

  all_below_fork : (n k : ℕ) (h : Bounds) (l r : Tree) → IsRefitted h k l r → (es : List (ℕ × Bounds))
      → all_below (fork n h k l r) es ≡ 2 * met_count h es + (all_below l es + all_below r es)
  all_below_fork n k h l r i [] = refl
  all_below_fork n k h l r i (e ∷ es) =
      let a = below_fork n k h l r i e.1 in
      let b = all_below_fork n k h l r i es in
      let c : ℕ = cond (meets h e.1) 1 0 in
      let s : below (fork n h k l r) e.1 + all_below (fork n h k l r) es
      ≡ (2 * c + (below l e.1 + below r e.1)) + (2 * met_count h es + (all_below l es + all_below r es)) = (λ i. a i + b i) in
      s ∙ omega arith

  -- each bit is a look at both children
  pub looks_on : (es : List (ℕ × Bounds)) (n k mask ones : ℕ) (h : Bounds) (l r t : Tree) → t ≡ fork n h k l r → IsRefitted h k l r
      → mask ≡ bits_of h es → ones ≡ count_ones mask → all_below t es ≡ 2 * ones + (all_below l es + all_below r es)
  looks_on es n k mask ones h l r t is i em eo =
      ap (λ u. all_below u es) is ∙ all_below_fork n k h l r i es
      ∙ ap (λ c. 2 * c + (all_below l es + all_below r es)) (sym (eo ∙ ap count_ones em ∙ ones_met h es))

-- the pairs of one leaf
pub picked_crossed : (es : List (ℕ × Bounds)) (slot mask : ℕ) (b : Bounds) → mask ≡ bits_of b es
    → ordered_pairs slot (filter (λ s. not (s == slot)) (picked mask es)) ≡ crossed es (entry_of slot (Some b))
picked_crossed es slot mask b em =
    ap (λ m. ordered_pairs slot (filter (λ s. not (s == slot)) (picked m es))) em
    ∙ ap (λ ks. ordered_pairs slot (filter (λ s. not (s == slot)) ks)) (picked_found b es)
    ∙ sym (append_none (ordered_pairs slot (others_met es (slot, b))))
  where
    append_none : {X : Type 0} (xs : List X) → xs ++ [] ≡ xs
    append_none [] = refl
    append_none (x ∷ xs) = ap (λ ys. x ∷ ys) (append_none xs)

-- each node shows, from the top on
shown_all : (w : BoxLaws) (root : Tree) → ((k : ℕ) → count_of root k ≤ 1) → (t : Tree) → Within root t → IsShown (Some root) t
shown_all w root apart (tip n s f) here = (w.each (Region f)).shown root (tip n s f) here apart
shown_all w root apart (fork n h k l r) here =
    let laws = w.each (Region h) in
    let below = laws.children n k h l r in (
      laws.shown root (fork n h k l r) here apart,
      (
        shown_all w root apart l (laws.deeper root (fork n h k l r) l here below.0),
        shown_all w root apart r (laws.deeper root (fork n h k l r) r here below.1),
      ),
    )

-- the whole tree stands below the root
pub root_below : (w : BoxLaws) (o : Option Tree) (bodies : List (Option Bounds)) (at : ℕ) → option_map top o ≡ Some at → IsTreeIn o → IsInsideIn bodies o
    → (t : Tree) × (o ≡ Some t) × IsBelow o bodies at t
root_below w None bodies at e tree inside = cc
root_below w (Some t) bodies at e tree inside = (
  t,
  refl,
  record {
    at_is = cc;
    shown = shown_all w t tree.apart t ((w.each (Region (bounds t))).itself t);
    balanced = tree.balanced;
    inside = inside;
  },
)

pub rootless : (o : Option Tree) → option_map top o ≡ None → o ≡ None
rootless None e = refl
rootless (Some t) e = cc

crossed_none : (es : List (ℕ × Bounds)) → crossed [] es ≡ []
crossed_none [] = refl
crossed_none (e ∷ es) = crossed_none es

-- without a tree nothing is found
pub adds_none : (o : Option Tree) (bodies : List (Option Bounds)) (es : List (ℕ × Bounds)) (old : List Pair) → option_map top o ≡ None
    → Adds old old (crossed (exact_in bodies o) es)
adds_none o bodies es old e p =
    sym (ap (λ u. has_pair old p || has_pair (crossed (exact_in bodies u) es) p) (rootless o e)
    ∙ ap (λ ps. has_pair old p || has_pair ps p) (crossed_none es) ∙ or_false (has_pair old p))

no_visits : (es : List (ℕ × Bounds)) → all_visits_in None es ≡ 0
no_visits [] = refl
no_visits (e ∷ es) = let rest = no_visits es in omega arith

pub visits_none : (o : Option Tree) (es : List (ℕ × Bounds)) → option_map top o ≡ None → all_visits_in o es ≡ 0
visits_none o es e = ap (λ u. all_visits_in u es) (rootless o e) ∙ no_visits es

-- each of a group looks at the top, and then below it
tops_and_below : (w : BoxLaws) (t : Tree) (es : List (ℕ × Bounds)) → all_visits_in (Some t) es ≡ length es + all_below t es
tops_and_below w t [] = refl
tops_and_below w t (e ∷ es) =
    let a = visits_below w t e.1 in
    let b = tops_and_below w t es in
    omega arith

pub group_visits : (w : BoxLaws) (o : Option Tree) (t : Tree) (es : List (ℕ × Bounds)) → o ≡ Some t → all_visits_in o es ≡ length es + all_below t es
group_visits w o t es e = ap (λ u. all_visits_in u es) e ∙ tops_and_below w t es

-- One group more is searched for.

pub group_on : (xs group more rest : List (ℕ × Bounds)) (old new : List Pair) → group ++ more ≡ rest → Adds old new (crossed xs group)
    → (p : Pair) → (has_pair new p || has_pair (crossed xs more) p) ≡ (has_pair old p || has_pair (crossed xs rest) p)
group_on xs group more rest old new e adds p =
    ap (λ b. b || has_pair (crossed xs more) p) (adds p)
    ∙ or_assoc (has_pair old p) (has_pair (crossed xs group) p) (has_pair (crossed xs more) p)
    ∙ ap (λ b. has_pair old p || b)
    (sym (ap (λ es. has_pair (crossed xs es) p) (sym e) ∙ ap (λ ps. has_pair ps p) (crossed_append xs group more)
    ∙ list_any-append (same_pair p) (crossed xs group) (crossed xs more)))

visits_append : (o : Option Tree) (es fs : List (ℕ × Bounds)) → all_visits_in o (es ++ fs) ≡ all_visits_in o es + all_visits_in o fs
visits_append o [] fs = omega arith
visits_append o (e ∷ es) fs = let rest = visits_append o es fs in omega arith

pub visits_on : (o : Option Tree) (group more rest : List (ℕ × Bounds)) (a n : ℕ) → group ++ more ≡ rest → n ≡ raised a (all_visits_in o group)
    → raised n (all_visits_in o more) ≡ raised a (all_visits_in o rest)
visits_on o group more rest a n e en =
    ap (λ m. raised m (all_visits_in o more)) en ∙ raised_again a (all_visits_in o group) (all_visits_in o more)
    ∙ ap (raised a) (sym (ap (all_visits_in o) (sym e) ∙ visits_append o group more))
