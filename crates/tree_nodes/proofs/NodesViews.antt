-- What calls on a whole tree show of its nodes afterwards.
use Rattle.std.proofs.Common.{◌≡◌, ◌≢◌, ℕ, zero, suc, ◌<◌, true, false, cond, eqb, IsSome, Option, None, Some, List, [], ◌∷◌, ◌++◌, length, map}
use Rattle.std.proofs.Common.{slice_index_or, refl, sym, ap, ◌∙◌, subst, arith, ⊎_elim}
use Rattle.std.specs.List.{Contains}
use Rattle.std.specs.List.Sorted.{IsPermutation}
use Rattle.std.proofs.lemmas.Bool.Decides.{nat_tests}
use Rattle.std.proofs.lemmas.List.Elements.{Contains-append_left, Contains-append_right, Contains-append_cases}
use Rattle.std.proofs.lemmas.List.Sorted.{Contains-permutation, IsPermutation-sym}
use Rattle.fixed_box.specs.Bounds.{Bounds}
use Rattle.tree_nodes.specs.declared.node_view.NodeView.{NodeView}
use Rattle.tree_nodes.specs.declared.node_view.NodeView.TheVariants.{Leaf, Inner}
use Rattle.tree_nodes.specs.Moved.{leaf_moved}
use Rattle.tree_nodes.specs.Tree.{Tree, Leaf as LeafOf, tip, fork, top, leaves, leaves_in, view_of, view_at, view_in, or_else, IsTreeIn, ChildrenShown}
use Rattle.tree_nodes.proofs.LeafViews.{only_one, leaf_viewed}
use Rattle.tree_nodes.proofs.TreeLaws.{top_viewed}
use Rattle.tree_nodes.proofs.Views.{or_cases}

-- what shows as a leaf is one of the leaves
leaf_listed : (t : Tree) (k s : ℕ) (b : Bounds) → view_at t k ≡ Some (Leaf s b) → Contains (leaves t) (record { node = k; slot = s; fat = b })
leaf_listed (tip n sl f) k s b e =
    elim (eqb n k) as (λ x. eqb n k ≡ x → cond x (Some (Leaf sl f)) None ≡ Some (Leaf s b)
    → Contains (leaves (tip n sl f)) (record { node = k; slot = s; fat = b })) [
      | true ↦ λ same e. let at : n ≡ k = grind (arith, nat_tests) in let slot : sl ≡ s = cc in let box : f ≡ b = cc in (0, omega arith, cc)
      | false ↦ λ _ e. cc
    ] refl e
leaf_listed (fork n h j l r) k s b e =
    let x : LeafOf = record { node = k; slot = s; fat = b } in
    elim (eqb n k) as (λ c. cond c (Some (view_of (fork n h j l r))) (or_else (view_at l k) (view_at r k)) ≡ Some (Leaf s b)
    → Contains (leaves l ++ leaves r) x) [
      | true ↦ λ e. cc
      | false ↦ λ e. or_cases (λ v. v ≡ Leaf s b → Contains (leaves l ++ leaves r) x) (view_at l k) (view_at r k) (Leaf s b)
          (λ u g same. Contains-append_left (leaves l) (leaves r) x (leaf_listed l k s b (g ∙ ap Some same)))
          (λ u g same. Contains-append_right (leaves l) (leaves r) x (leaf_listed r k s b (g ∙ ap Some same))) e refl
    ] e

pub listed_in : (o : Option Tree) (k s : ℕ) (b : Bounds) → view_in o k ≡ Some (Leaf s b) → Contains (leaves_in o) (record { node = k; slot = s; fat = b })
listed_in None k s b e = cc
listed_in (Some t) k s b e = leaf_listed t k s b e

pub viewed_in : (o : Option Tree) (x : LeafOf) → IsTreeIn o → Contains (leaves_in o) x → view_in o x.node ≡ Some (Leaf x.slot x.fat)
viewed_in None x tree h = let lt : h.0 < 0 = h.1 in absurd (omega arith)
viewed_in (Some t) x tree h = leaf_viewed t x tree.apart h

-- a leaf that came
pub added : (o p : Option Tree) (x : LeafOf) → IsTreeIn p → IsPermutation (x ∷ leaves_in o) (leaves_in p) → view_in p x.node ≡ Some (Leaf x.slot x.fat)
added o p x tree e = viewed_in p x tree (Contains-permutation (x ∷ leaves_in o) (leaves_in p) x e (0, omega arith, refl))

-- and the others
pub still_there : (o p : Option Tree) (x : LeafOf) (k s : ℕ) (b : Bounds) → IsTreeIn p → IsPermutation (x ∷ leaves_in o) (leaves_in p)
    → view_in o k ≡ Some (Leaf s b) → view_in p k ≡ Some (Leaf s b)
still_there o p x k s b tree e h =
    let y : LeafOf = record { node = k; slot = s; fat = b } in
    viewed_in p y tree (Contains-permutation (x ∷ leaves_in o) (leaves_in p) y e (Contains-append_right (x ∷ []) (leaves_in o) y (listed_in o k s b h)))

-- the leaves where none came or went
pub all_there : (o p : Option Tree) (k s : ℕ) (b : Bounds) → IsTreeIn p → IsPermutation (leaves_in o) (leaves_in p) → view_in o k ≡ Some (Leaf s b)
    → view_in p k ≡ Some (Leaf s b)
all_there o p k s b tree e h =
    let y : LeafOf = record { node = k; slot = s; fat = b } in
    viewed_in p y tree (Contains-permutation (leaves_in o) (leaves_in p) y e (listed_in o k s b h))

-- the leaves besides one that went
pub left_there : (o p : Option Tree) (x : LeafOf) (k s : ℕ) (b : Bounds) → IsTreeIn p → IsPermutation (x ∷ leaves_in p) (leaves_in o)
    → view_in o k ≡ Some (Leaf s b) → k ≢ x.node → view_in p k ≡ Some (Leaf s b)
left_there o p x k s b tree e h other =
    let y : LeafOf = record { node = k; slot = s; fat = b } in
    let before : Contains (x ∷ leaves_in p) y = Contains-permutation (leaves_in o) (x ∷ leaves_in p) y (IsPermutation-sym (x ∷ leaves_in p) (leaves_in o) e)
    (listed_in o k s b h) in
    ⊎_elim (λ c. let same = only_one y x c in absurd (other (sym (ap (λ (z : LeafOf). z.node) same)))) (λ c. viewed_in p y tree c)
    (Contains-append_cases (x ∷ []) (leaves_in p) y before)

contains_map : {A : Type 0} {B : Type 0} (f : A → B) (xs : List A) (x : A) → Contains xs x → Contains (map f xs) (f x)
contains_map {A} {B} f xs x h = at xs h.0 h.1 h.2
  where
    at : (xs : List A) (k : ℕ) → k < length xs → slice_index_or xs k x ≡ x → Contains (map f xs) (f x)
    at [] k lt e = absurd (omega arith)
    at (y ∷ ys) zero lt e = (0, omega arith, ap f e)
    at (y ∷ ys) (suc k) lt e = Contains-append_right (f y ∷ []) (map f ys) (f x) (at ys k (omega arith) e)

-- the leaf that has another box
pub moved_there : (o p : Option Tree) (node s : ℕ) (fat b : Bounds) → IsTreeIn p → leaves_in p ≡ map (leaf_moved node fat) (leaves_in o)
    → view_in o node ≡ Some (Leaf s b) → view_in p node ≡ Some (Leaf s fat)
moved_there o p node s fat b tree e h =
    let y : LeafOf = record { node = node; slot = s; fat = b } in
    let same : eqb node node ≡ true = grind (arith, nat_tests) in
    let is : leaf_moved node fat y ≡ record { node = node; slot = s; fat = fat } = ap (λ c. record { node = node; slot = s; fat = cond c fat b }) same in
    let there : Contains (leaves_in p) (leaf_moved node fat y) = subst (λ xs. Contains xs (leaf_moved node fat y)) (sym e)
    (contains_map (leaf_moved node fat) (leaves_in o) y (listed_in o node s b h)) in
    viewed_in p (record { node = node; slot = s; fat = fat }) tree (subst (λ x. Contains (leaves_in p) x) is there)

-- and the others
pub unmoved_there : (o p : Option Tree) (node k s : ℕ) (fat b : Bounds) → IsTreeIn p → leaves_in p ≡ map (leaf_moved node fat) (leaves_in o)
    → view_in o k ≡ Some (Leaf s b) → k ≢ node → view_in p k ≡ Some (Leaf s b)
unmoved_there o p node k s fat b tree e h other =
    let y : LeafOf = record { node = k; slot = s; fat = b } in
    let differ : eqb k node ≡ false = grind (arith, nat_tests) in
    let is : leaf_moved node fat y ≡ y = ap (λ c. record { node = k; slot = s; fat = cond c fat b }) differ in
    let there : Contains (leaves_in p) (leaf_moved node fat y) = subst (λ xs. Contains xs (leaf_moved node fat y)) (sym e)
    (contains_map (leaf_moved node fat) (leaves_in o) y (listed_in o k s b h)) in
    viewed_in p y tree (subst (λ x. Contains (leaves_in p) x) is there)

or_left : {A : Type 0} (x y : Option A) → IsSome x → IsSome (or_else x y)
or_left None y h = cc
or_left (Some v) y h = refl

or_right : {A : Type 0} (x y : Option A) → IsSome y → IsSome (or_else x y)
or_right None y h = h
or_right (Some v) y h = refl

-- what a part shows, the whole shows
shown_left : (n : ℕ) (h : Bounds) (j : ℕ) (l r : Tree) (k : ℕ) → IsSome (view_at l k) → IsSome (view_at (fork n h j l r) k)
shown_left n h j l r k s =
    elim (eqb n k) as (λ x. IsSome (cond x (Some (view_of (fork n h j l r))) (or_else (view_at l k) (view_at r k))))
    [ true ↦ refl | false ↦ or_left (view_at l k) (view_at r k) s ]

shown_right : (n : ℕ) (h : Bounds) (j : ℕ) (l r : Tree) (k : ℕ) → IsSome (view_at r k) → IsSome (view_at (fork n h j l r) k)
shown_right n h j l r k s =
    elim (eqb n k) as (λ x. IsSome (cond x (Some (view_of (fork n h j l r))) (or_else (view_at l k) (view_at r k))))
    [ true ↦ refl | false ↦ or_right (view_at l k) (view_at r k) s ]

some_top : (t : Tree) → IsSome (view_at t (top t))
some_top t = subst IsSome (sym (top_viewed t)) refl

both_shown : (t : Tree) (k left right j : ℕ) (hu : Bounds) → view_at t k ≡ Some (Inner left right hu j) → IsSome (view_at t left) × IsSome (view_at t right)
both_shown (tip n s b) k left right j hu e =
    elim (eqb n k) as (λ x. cond x (Some (Leaf s b)) None ≡ Some (Inner left right hu j) → IsSome (view_at (tip n s b) left) × IsSome
    (view_at (tip n s b) right)) [ true ↦ λ e. cc | false ↦ λ e. cc ] e
both_shown (fork n h i l r) k left right j hu e =
    elim (eqb n k) as (λ x. cond x (Some (view_of (fork n h i l r))) (or_else (view_at l k) (view_at r k)) ≡ Some (Inner left right hu j)
    → IsSome (view_at (fork n h i l r) left) × IsSome (view_at (fork n h i l r) right)) [
      | true ↦ λ e.
          let a : top l ≡ left = cc in
          let b : top r ≡ right = cc in (
            subst (λ m. IsSome (view_at (fork n h i l r) m)) a (shown_left n h i l r (top l) (some_top l)),
            subst
                (λ m. IsSome (view_at (fork n h i l r) m)) b (shown_right n h i l r (top r) (some_top r)),
          )
      | false ↦ λ e. or_cases (λ v. v ≡ Inner left right hu j → IsSome (view_at (fork n h i l r) left) × IsSome (view_at (fork n h i l r) right))
          (view_at l k) (view_at r k) (Inner left right hu j)
          (λ u g same. let p = both_shown l k left right j hu (g ∙ ap Some same) in (shown_left n h i l r left p.0, shown_left n h i l r right p.1))
          (λ u g same. let p = both_shown r k left right j hu (g ∙ ap Some same) in (shown_right n h i l r left p.0, shown_right n h i l r right p.1)) e refl
    ] e

-- the children that a node shows are nodes of the tree
pub children_shown : (o : Option Tree) (k : ℕ) (v : NodeView) → view_in o k ≡ Some v → ChildrenShown o v
children_shown o k (Leaf s b) e = tt
children_shown None k (Inner left right hu j) e = cc
children_shown (Some t) k (Inner left right hu j) e = both_shown t k left right j hu e
