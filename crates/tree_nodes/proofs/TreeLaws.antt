-- What every balanced tree is: its hulls enclose what stands below, and its parts are trees of their own.
use Rattle.std.proofs.Common.{◌≡◌, ℕ, ◌+◌, ◌≤◌, true, false, cond, eqb, None, Some, [], slice_index_or, refl, sym, ap, ◌∙◌, subst, arith, All, ⊎_elim}
use Rattle.std.proofs.Common.{inl, inr}
use Rattle.std.proofs.lemmas.Bool.Decides.{nat_tests}
use Rattle.std.proofs.lemmas.List.Elements.{All-cons, All-append}
use Rattle.fixed_box.specs.Bounds.{Bounds, encloses, meets, hull as union}
use Rattle.tree_nodes.specs.declared.node_view.NodeView.TheVariants.{Leaf}
use Rattle.tree_nodes.specs.Tree.{Tree, Leaf as LeafOf, tip, fork, top, bounds, leaves, one, count_of, view_of, view_at, or_else, Balanced, Within}
use Rattle.tree_nodes.proofs.LeafViews.{other_one, not_viewed}
use Rattle.tree_nodes.proofs.Opened.{top_counted}
use Rattle.tree_nodes.proofs.Views.{or_cases}

-- the laws of boxes
pub record Enclosing : Type 0 where
  pub itself : (a : Bounds) → encloses a a ≡ true
  pub chain : (a b c : Bounds) → encloses a b ≡ true → encloses b c ≡ true → encloses a c ≡ true
  pub this : (a b : Bounds) → encloses (union a b) a ≡ true
  pub that : (a b : Bounds) → encloses (union a b) b ≡ true
  pub met : (outer inner other : Bounds) → encloses outer inner ≡ true → meets inner other ≡ true → meets outer other ≡ true

pub over_left : Enclosing → (n : ℕ) (h : Bounds) (k : ℕ) (l r : Tree) → Balanced (fork n h k l r) → encloses h (bounds l) ≡ true
over_left w n h k l r bal = subst (λ x. encloses x (bounds l) ≡ true) (sym bal.0.hull_is) (w.this (bounds l) (bounds r))

pub over_right : Enclosing → (n : ℕ) (h : Bounds) (k : ℕ) (l r : Tree) → Balanced (fork n h k l r) → encloses h (bounds r) ≡ true
over_right w n h k l r bal = subst (λ x. encloses x (bounds r) ≡ true) (sym bal.0.hull_is) (w.that (bounds l) (bounds r))

pub enclosed : Enclosing → (t : Tree) → Balanced t → All (λ (x : LeafOf). encloses (bounds t) x.fat ≡ true) (leaves t)
enclosed w (tip n s b) bal =
    All-cons (λ (x : LeafOf). encloses b x.fat ≡ true) (record { node = n; slot = s; fat = b }) [] (w.itself b) (λ k d lt. absurd (omega arith))
enclosed w (fork n h k l r) bal =
    let left = enclosed w l bal.1 in
    let right = enclosed w r bal.2 in
    All-append (λ (x : LeafOf). encloses h x.fat ≡ true) (leaves l) (leaves r)
    (λ i d lt. w.chain h (bounds l) (slice_index_or (leaves l) i d).fat (over_left w n h k l r bal) (left i d lt))
    (λ i d lt. w.chain h (bounds r) (slice_index_or (leaves r) i d).fat (over_right w n h k l r bal) (right i d lt))

pub met : Enclosing → (t : Tree) (q : Bounds) → Balanced t → All (λ (x : LeafOf). meets x.fat q ≡ true → meets (bounds t) q ≡ true) (leaves t)
met w t q bal = λ i d lt m. w.met (bounds t) (slice_index_or (leaves t) i d).fat q (enclosed w t bal i d lt) m

not_met : (a b q : Bounds) → (meets a q ≡ true → meets b q ≡ true) → meets b q ≡ false → meets a q ≡ false
not_met a b q up out =
    elim (meets a q) as (λ x. (x ≡ true → meets b q ≡ true) → x ≡ false) [ true ↦ λ f. let e = f refl in cc | false ↦ λ _. refl ] up

pub missed : Enclosing → (t : Tree) (q : Bounds) → Balanced t → meets (bounds t) q ≡ false → All (λ (x : LeafOf). meets x.fat q ≡ false) (leaves t)
missed w t q bal out = λ i d lt. not_met (slice_index_or (leaves t) i d).fat (bounds t) q (met w t q bal i d lt) out

-- the box of a leaf lies in the hull
pub viewed_inside : Enclosing → (t : Tree) (node s : ℕ) (f : Bounds) → Balanced t → view_at t node ≡ Some (Leaf s f) → encloses (bounds t) f ≡ true
viewed_inside w (tip n sl b) node s f bal e =
    elim (eqb n node) as (λ x. cond x (Some (Leaf sl b)) None ≡ Some (Leaf s f) → encloses b f ≡ true) [
      | true ↦ λ e. let same : b ≡ f = cc in subst (λ x. encloses b x ≡ true) same (w.itself b)
      | false ↦ λ e. cc
    ] e
viewed_inside w (fork n h k l r) node s f bal e =
    elim (eqb n node) as (λ x. cond x (Some (view_of (fork n h k l r))) (or_else (view_at l node) (view_at r node)) ≡ Some (Leaf s f) → encloses h f ≡ true) [
      | true ↦ λ e. cc
      | false ↦ λ e. or_cases (λ v. v ≡ Leaf s f → encloses h f ≡ true) (view_at l node) (view_at r node) (Leaf s f)
          (λ u g same. w.chain h (bounds l) f (over_left w n h k l r bal) (viewed_inside w l node s f bal.1 (g ∙ ap Some same)))
          (λ u g same. w.chain h (bounds r) f (over_right w n h k l r bal) (viewed_inside w r node s f bal.2 (g ∙ ap Some same))) e refl
    ] e

pub within_itself : (t : Tree) → Within t t
within_itself (tip n s b) = refl
within_itself (fork n h k l r) = inl refl

pub children_within : (node height : ℕ) (hull : Bounds) (l r : Tree) → Within (fork node hull height l r) l × Within (fork node hull height l r) r
children_within node height hull l r = (inr (inl (within_itself l)), inr (inr (within_itself r)))

pub deeper : (t u v : Tree) → Within t u → Within u v → Within t v
deeper (tip n s b) u v w x = subst (λ y. Within y v) w x
deeper (fork n h k l r) u v w x =
    ⊎_elim (λ e. subst (λ y. Within y v) e x) (λ o. ⊎_elim (λ a. inr (inl (deeper l u v a x))) (λ a. inr (inr (deeper r u v a x))) o) w

-- what stands in a balanced tree is one
pub balanced_within : (t u : Tree) → Within t u → Balanced t → Balanced u
balanced_within (tip n s b) u w bal = subst Balanced (sym w) bal
balanced_within (fork n h k l r) u w bal =
    ⊎_elim (λ e. subst Balanced (sym e) bal) (λ v. ⊎_elim (λ a. balanced_within l u a bal.1) (λ a. balanced_within r u a bal.2) v) w

-- the number of what stands in a tree is one of its numbers
counted_within : (t u : Tree) → Within t u → 1 ≤ count_of t (top u)
counted_within (tip n s b) u w = subst (λ x. 1 ≤ count_of (tip n s b) (top x)) (sym w) (top_counted (tip n s b))
counted_within (fork n h k l r) u w =
    ⊎_elim (λ e. subst (λ x. 1 ≤ count_of (fork n h k l r) (top x)) (sym e) (top_counted (fork n h k l r)))
    (λ v. ⊎_elim (λ a. let x = counted_within l u a in omega arith) (λ a. let x = counted_within r u a in omega arith) v) w

pub top_viewed : (t : Tree) → view_at t (top t) ≡ Some (view_of t)
top_viewed (tip n s b) = let e : eqb n n ≡ true = grind (arith, nat_tests) in rw e refl
top_viewed (fork n h k l r) = let e : eqb n n ≡ true = grind (arith, nat_tests) in rw e refl

-- what stands in a tree shows under its number
pub shown_within : (t u : Tree) → Within t u → ((k : ℕ) → count_of t k ≤ 1) → view_at t (top u) ≡ Some (view_of u)
shown_within (tip n s b) u w apart = subst (λ x. view_at (tip n s b) (top x) ≡ Some (view_of x)) (sym w) (top_viewed (tip n s b))
shown_within (fork n h k l r) u w apart =
    let here : one n (top u) + (count_of l (top u) + count_of r (top u)) ≤ 1 = apart (top u) in
    let left : (j : ℕ) → count_of l j ≤ 1 = λ j. let a : one n j + (count_of l j + count_of r j) ≤ 1 = apart j in omega arith in
    let right : (j : ℕ) → count_of r j ≤ 1 = λ j. let a : one n j + (count_of l j + count_of r j) ≤ 1 = apart j in omega arith in
    ⊎_elim (λ e. subst (λ x. view_at (fork n h k l r) (top x) ≡ Some (view_of x)) (sym e) (top_viewed (fork n h k l r)))
    (λ v. ⊎_elim
    (λ a.
    let x = counted_within l u a in
    let e = other_one n (top u) (omega arith) in
    let i = shown_within l u a left in
    rw (e, i) refl)
    (λ a.
    let x = counted_within r u a in
    let e = other_one n (top u) (omega arith) in
    let z = not_viewed l (top u) (omega arith) in
    let i = shown_within r u a right in
    rw (e, z, i) refl) v) w
