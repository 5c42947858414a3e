-- A sum over touched slots in the order of the leaves is that over the rising ones.
use Rattle.std.proofs.Common.{◌≡◌, ℕ, zero, suc, ◌+◌, ◌<◌, ◌≤◌, Bool, true, false, cond, ◌==◌, Option, None, Some, is_some, List, [], ◌∷◌, ◌++◌}
use Rattle.std.proofs.Common.{length, map, filter, get_or, refl, sym, ap, ◌∙◌, arith, ⊎_elim}
use Rattle.std.specs.List.{Contains, sum, sum_by}
use Rattle.std.proofs.lemmas.Bool.{cases_eq, eq-eqb}
use Rattle.std.proofs.lemmas.List.Sums.{sum_by-cons}
use Rattle.fixed_box.specs.Bounds.{Bounds}
use Rattle.slot_lists.specs.SlotMap.{entries_from}
use Rattle.tree_nodes.specs.Tree.{Tree, Leaf, leaves_in, IsTreeIn, one, visits_in}
use Rattle.box_tree.specs.Boxes.{visits_for}
use Rattle.tree_search.specs.Exact.{entry_of, exact, exact_in}
use Rattle.tree_search.specs.Crossed.{touched_of, all_visits_in}
use Rattle.box_tree.specs.Searches.{sought_from}
use Rattle.box_tree.specs.Ties.{HaveLeaves}
use Rattle.box_tree.proofs.LeafTies.{some_there}
use Rattle.box_tree.proofs.Fats.{within}
use Rattle.fixed_box.proofs.Numbers.{eqb_other}

-- the values of a function at m numbers from n on
abbrev span : (ℕ → ℕ) → ℕ → ℕ → ℕ
span f n zero = 0
span f n (suc m) = f n + span f (n + 1) m

span_none : (n m : ℕ) → span (λ k. 0) n m ≡ 0
span_none n zero = refl
span_none n (suc m) = let rest = span_none (n + 1) m in omega arith

span_add : (f g : ℕ → ℕ) (n m : ℕ) → span (λ k. f k + g k) n m ≡ span f n m + span g n m
span_add f g n zero = refl
span_add f g n (suc m) = let rest = span_add f g (n + 1) m in omega arith

span_same : (f g : ℕ → ℕ) → ((k : ℕ) → f k ≡ g k) → (n m : ℕ) → span f n m ≡ span g n m
span_same f g e n zero = refl
span_same f g e n (suc m) = let here = e n in let rest = span_same f g e (n + 1) m in omega arith

no_due : (m : Bool) → ◌≡◌ {A = ℕ} (cond m 0 0) 0
no_due true = refl
no_due false = refl

module _ (f : ℕ → ℕ) (s : ℕ) where
  abbrev at_one : ℕ → ℕ
  at_one k = cond (s == k) (f k) 0

  span_past : (n m : ℕ) → s < n → span at_one n m ≡ 0
  span_past n zero l = refl
  span_past n (suc m) l =
      let here : at_one n ≡ 0 = ap (λ b. cond b (f n) 0) (eqb_other s n (λ e. omega arith)) in
      let rest = span_past (n + 1) m (omega arith) in
      omega arith

  span_one : (n m : ℕ) → n ≤ s → s < n + m → span at_one n m ≡ f s
  span_one n zero l h = absurd (omega arith)
  span_one n (suc m) l h = ⊎_elim
      (λ same.
      let here : at_one n ≡ f n = ap (λ b. cond b (f n) 0) (eq-eqb s n same) in
      let rest = span_past (n + 1) m (omega arith) in
      let own : f n ≡ f s = ap f (sym same) in
      omega arith)
      (λ ne.
      let here : at_one n ≡ 0 = ap (λ b. cond b (f n) 0) (eqb_other s n ne) in
      let rest = span_one (n + 1) m (omega arith) (omega arith) in
      omega arith)
      (cases_eq s n)

module _ (f : ℕ → ℕ) where
  abbrev leaf_sum : List Leaf → ℕ
  leaf_sum [] = 0
  leaf_sum (x ∷ xs) = f x.slot + leaf_sum xs

  -- what leaves with one slot add
  abbrev many : List Leaf → ℕ → ℕ
  many [] k = 0
  many (x ∷ xs) k = cond (x.slot == k) (f k) 0 + many xs k

  leaf_span : (size : ℕ) (xs : List Leaf) → ((x : Leaf) → Contains xs x → x.slot < size) → leaf_sum xs ≡ span (many xs) 0 size
  leaf_span size [] small = sym (span_none 0 size)
  leaf_span size (x ∷ xs) small =
      let here = span_one f x.slot 0 size (omega arith) (let l = small x (0, omega arith, refl) in omega arith) in
      let rest = leaf_span size xs (λ y c. small y (suc c.0, omega arith, c.2)) in
      let both = span_add (at_one f x.slot) (many xs) 0 size in
      omega arith

  abbrev times : List Leaf → ℕ → ℕ
  times [] k = 0
  times (x ∷ xs) k = one x.slot k + times xs k

  times_is : (xs : List Leaf) (k : ℕ) → sum_by (λ (x : Leaf). one x.slot k) xs ≡ times xs k
  times_is [] k = refl
  times_is (x ∷ xs) k = sum_by-cons (λ (y : Leaf). one y.slot k) x xs ∙ ap (λ n. one x.slot k + n) (times_is xs k)

  times_there : (xs : List Leaf) (k i : ℕ) (d : Leaf) → i < length xs → (get_or xs i d).slot ≡ k → 1 ≤ times xs k
  times_there [] k i d l e = absurd (omega arith)
  times_there (x ∷ xs) k zero d l e = let own : one x.slot k ≡ 1 = ap (λ b. cond b 1 0) (eq-eqb x.slot k e) in omega arith
  times_there (x ∷ xs) k (suc i) d l e = let rest = times_there xs k i d (omega arith) e in omega arith

  many_zero : (xs : List Leaf) (k : ℕ) → f k ≡ 0 → many xs k ≡ 0
  many_zero [] k z = refl
  many_zero (x ∷ xs) k z =
      let here : cond (x.slot == k) (f k) 0 ≡ 0 =
      elim (x.slot == k) as (λ b. cond b (f k) 0 ≡ 0) [ true ↦ z | false ↦ refl ] in
      let rest = many_zero xs k z in
      omega arith

  many_none : (xs : List Leaf) (k : ℕ) → times xs k ≡ 0 → many xs k ≡ 0
  many_none [] k e = refl
  many_none (x ∷ xs) k e =
      elim (x.slot == k) as (λ b. cond b 1 0 + times xs k ≡ 0 → cond b (f k) 0 + many xs k ≡ 0) [
        | true ↦ λ h. absurd (omega arith)
        | false ↦ λ h. let rest = many_none xs k (omega arith) in omega arith
      ] e

  many_one : (xs : List Leaf) (k : ℕ) → times xs k ≡ 1 → many xs k ≡ f k
  many_one [] k e = absurd (omega arith)
  many_one (x ∷ xs) k e =
      elim (x.slot == k) as (λ b. cond b 1 0 + times xs k ≡ 1 → cond b (f k) 0 + many xs k ≡ f k) [
        | true ↦ λ h. let rest = many_none xs k (omega arith) in omega arith
        | false ↦ λ h. let rest = many_one xs k (omega arith) in omega arith
      ] e

module _ (o : Option Tree) (bodies : List (Option Bounds)) (marks : List Bool) where
  abbrev seeks : ℕ → ℕ
  seeks k = visits_for o (get_or bodies k None)

  -- what a slot adds, where it is marked
  abbrev due : ℕ → ℕ
  due k = cond (get_or marks k false) (seeks k) 0

  entry_due : (s : ℕ) (p : Option Bounds) (rest : List (ℕ × Bounds))
      → all_visits_in o (touched_of marks (entry_of s p ++ rest)) ≡ cond (get_or marks s false) (visits_for o p) 0 + all_visits_in o (touched_of marks rest)
  entry_due s None rest =
      elim (get_or marks s false) as (λ m. all_visits_in o (touched_of marks rest) ≡ cond m 0 0 + all_visits_in o (touched_of marks rest)) [
        | true ↦ omega arith
        | false ↦ omega arith
      ]
  entry_due s (Some b) rest =
      elim (get_or marks s false) as
      (λ m. all_visits_in o (cond m ((s, b) ∷ touched_of marks rest) (touched_of marks rest))
      ≡ cond m (visits_in o b) 0 + all_visits_in o (touched_of marks rest)) [
        | true ↦ refl
        | false ↦ omega arith
      ]

  touched_sum : (xs : List Leaf) → all_visits_in o (touched_of marks (exact bodies xs)) ≡ leaf_sum due xs
  touched_sum [] = refl
  touched_sum (x ∷ xs) = entry_due x.slot (get_or bodies x.slot None) (exact bodies xs) ∙ ap (λ n. due x.slot + n) (touched_sum xs)

  sought_sum : (n : ℕ) (ys : List (Option Bounds)) → ((i : ℕ) → get_or ys i None ≡ get_or bodies (n + i) None)
      → sum (map seeks (sought_from marks n ys)) ≡ span due n (length ys)
  sought_sum n [] e = refl
  sought_sum n (None ∷ ys) e =
      let rest = sought_sum (n + 1) ys (λ i. e (suc i) ∙ ap (λ k. get_or bodies k None) (omega arith)) in
      let at : get_or bodies n None ≡ None = sym (e 0 ∙ ap (λ k. get_or bodies k None) (omega arith)) in
      let none : due n ≡ 0 =
      ap (λ p. cond (get_or marks n false) (visits_for o p) 0) at ∙ no_due (get_or marks n false) in
      omega arith
  sought_sum n (Some b ∷ ys) e =
      let rest = sought_sum (n + 1) ys (λ i. e (suc i) ∙ ap (λ k. get_or bodies k None) (omega arith)) in
      let more : List (ℕ × Bounds) = filter (λ (x : ℕ × Bounds). get_or marks x.0 false) (entries_from (n + 1) ys) in
      elim (get_or marks n false) as
      (λ m. sum (map seeks (map (λ (x : ℕ × Bounds). x.0) (cond m ((n, b) ∷ more) more))) ≡ cond m (seeks n) 0 + span due (n + 1) (length ys)) [
        | true ↦ sum_by-cons (λ (y : ℕ). y) (seeks n) (map seeks (map (λ (x : ℕ × Bounds). x.0) more)) ∙ ap (λ m. seeks n + m) rest
        | false ↦ omega arith
      ]

module _ (o : Option Tree) (bodies fats : List (Option Bounds)) (s : HaveLeaves o bodies fats) (marks : List Bool) where
  slot_small : (x : Leaf) → Contains (leaves_in o) x → x.slot < length bodies
  slot_small x c = within bodies x.slot (sym (s.fat.same x.slot) ∙ ap is_some (s.leafed.fat_is x c))

  slots_once : (u : Option Tree) → IsTreeIn u → (k : ℕ) → sum_by (λ (x : Leaf). one x.slot k) (leaves_in u) ≤ 1
  slots_once None t k = omega arith
  slots_once (Some t) tree k = tree.slots k

  each_once : (k : ℕ) → many (due o bodies marks) (leaves_in o) k ≡ due o bodies marks k
  each_once k = by_body (get_or bodies k None) refl
    where
      f : ℕ → ℕ
      f = due o bodies marks

      by_body : (p : Option Bounds) → get_or bodies k None ≡ p → many f (leaves_in o) k ≡ f k
      by_body None e =
          let none : f k ≡ 0 = ap (λ p. cond (get_or marks k false) (visits_for o p) 0) e
          ∙ no_due (get_or marks k false) in
          many_zero f (leaves_in o) k none ∙ sym none
      by_body (Some b) e =
          let fat = some_there (get_or fats k None) (s.fat.same k ∙ ap is_some e) in
          let c = (s.leafed.whole k fat.0 fat.1).1 in
          let there = times_there f (leaves_in o) k c.0 _ c.1 (ap (λ (x : Leaf). x.slot) c.2) in
          let once = slots_once o s.leafed.is_tree k in
          let same = times_is f (leaves_in o) k in
          many_one f (leaves_in o) k (omega arith)

  exact_leaves : (u : Option Tree) → exact_in bodies u ≡ exact bodies (leaves_in u)
  exact_leaves None = refl
  exact_leaves (Some t) = refl

  -- the order of the leaves makes no difference
  pub touched_total : all_visits_in o (touched_of marks (exact_in bodies o))
      ≡ sum (map (λ k. visits_for o (get_or bodies k None)) (sought_from marks 0 bodies))
  touched_total =
      ap (λ es. all_visits_in o (touched_of marks es)) (exact_leaves o)
      ∙ touched_sum o bodies marks (leaves_in o)
      ∙ leaf_span (due o bodies marks) (length bodies) (leaves_in o) slot_small
      ∙ span_same (many (due o bodies marks) (leaves_in o)) (due o bodies marks) each_once 0 (length bodies)
      ∙ sym (sought_sum o bodies marks 0 bodies (λ i. ap (λ k. get_or bodies k None) (omega arith)))
