-- How high a balanced tree gets, and what a slab keeps under a root.
use Rattle.std.proofs.Common.{◌≡◌, ℕ, zero, suc, ◌+◌, ◌≤◌, ◌-◌, max, length, length-append, refl, sym, subst, arith, ⊎_elim, ◌⊎◌, ◌↔◌, [], ap, Option}
use Rattle.std.proofs.Common.{None, Some}
use Rattle.std.proofs.lemmas.Bool.{cases_lt}
use Rattle.slab.specs.Slab.{Slab}
use Rattle.tree_nodes.specs.declared.node_view.NodeView.{NodeView}
use Rattle.tree_nodes.specs.Stored.{SoundIn, Sound}
use Rattle.tree_nodes.specs.Tree.{Tree, top, tip, fork, height, leaves, leaves_in, fewest, Balanced, IsTreeIn}

fewest_rises : (h : ℕ) → fewest h ≤ fewest (suc h)
fewest_rises zero = omega arith
fewest_rises (suc h) = omega arith

fewest_from : (a d : ℕ) → fewest a ≤ fewest (d + a)
fewest_from a zero = let same : 0 + a ≡ a = omega arith in subst (λ x. fewest a ≤ fewest x) (sym same) (omega arith)
fewest_from a (suc d) =
    let more : fewest a ≤ fewest (d + a) = fewest_from a d in
    let next : fewest (d + a) ≤ fewest (suc (d + a)) = fewest_rises (d + a) in
    let same : suc d + a ≡ suc (d + a) = omega arith in
    subst (λ x. fewest a ≤ fewest x) (sym same) (omega arith)

doubled : (h : ℕ) → fewest (suc h) ≤ fewest h + fewest h
doubled zero = omega arith
doubled (suc h) = let r : fewest h ≤ fewest (suc h) = fewest_rises h in omega arith

max_cases : (a b : ℕ) → a ≤ b + 1 → b ≤ a + 1 → (max a b ≡ a × b ≡ a) ⊎ ((max a b ≡ a × a ≡ suc b) ⊎ (max a b ≡ b × b ≡ suc a))
max_cases a b p q = grind (arith)

-- of inner_of children
of_two : (k a b : ℕ) → k ≡ 1 + max a b → a ≤ b + 1 → b ≤ a + 1 → fewest k ≤ fewest a + fewest b
of_two k a b e p q = ⊎_elim
    (λ c. let at : k ≡ suc a = omega arith in subst (λ x. fewest x ≤ fewest a + fewest b) (sym at)
    (subst (λ x. fewest (suc a) ≤ fewest a + fewest x) (sym c.1) (doubled a)))
    (λ d. ⊎_elim
    (λ c. let at : k ≡ suc (suc b) = omega arith in subst (λ x. fewest x ≤ fewest a + fewest b) (sym at)
    (subst (λ x. fewest (suc (suc b)) ≤ fewest x + fewest b) (sym c.1) (omega arith)))
    (λ c. let at : k ≡ suc (suc a) = omega arith in subst (λ x. fewest x ≤ fewest a + fewest b) (sym at)
    (subst (λ x. fewest (suc (suc a)) ≤ fewest a + fewest x) (sym c.1) (omega arith))) d)
    (max_cases a b p q)

pub enough : (t : Tree) → Balanced t → fewest (height t) ≤ length (leaves t)
enough (tip n s b) h = omega arith
enough (fork n hu k l r) h =
    let left : fewest (height l) ≤ length (leaves l) = enough l h.1 in
    let right : fewest (height r) ≤ length (leaves r) = enough r h.2 in
    let here : fewest k ≤ fewest (height l) + fewest (height r) = of_two k (height l) (height r) h.0.height_is h.0.left_low h.0.right_low in
    rw length-append (omega arith)

pub low : (t : Tree) → Balanced t → length (leaves t) ≤ 8192 → height t ≤ 18
low t h few = ⊎_elim
    (λ lt. omega arith)
    (λ ge.
    let same : (height t - 19) + 19 ≡ height t = omega arith in
    let up : fewest 19 ≤ fewest (height t) = subst (λ x. fewest 19 ≤ fewest x) same (fewest_from 19 (height t - 19)) in
    let all : fewest (height t) ≤ length (leaves t) = enough t h in
    absurd (omega arith))
    (cases_lt (height t) 19)

-- the tree under_root a root
pub under_root : (slab : Slab NodeView) (n : ℕ) (t : Option Tree) → SoundIn slab (Some n) t → (u : Tree) × (t ≡ Some u) × (n ≡ top u) × Sound slab u ×
    (height u ≤ 18)
under_root slab n None h = absurd h
under_root slab n (Some t) h = (t, refl, h.0, h.1, h.1.is_tree.low)

-- what a slab keeps under a root is a tree
pub is_tree_in : (slab : Slab NodeView) (root : Option ℕ) (o : Option Tree) → SoundIn slab root o → IsTreeIn o
is_tree_in slab root None s = tt
is_tree_in slab None (Some t) s = absurd s.0
is_tree_in slab (Some n) (Some t) s = s.1.is_tree

pub seen_tree : (slab : Slab NodeView) (root : Option ℕ) (o p : Option Tree) → SoundIn slab root o → o ≡ p → IsTreeIn p
seen_tree slab root o p s e = subst IsTreeIn e (is_tree_in slab root o s)

pub some_leaf : (t : Tree) → 1 ≤ length (leaves t)
some_leaf (tip n s b) = omega arith
some_leaf (fork n h k l r) = let a = some_leaf l in rw length-append (omega arith)

-- a root is where a leaf is
pub no_root : (slab : Slab NodeView) (root : Option ℕ) (o p : Option Tree) → SoundIn slab root o → o ≡ p → (root ≡ None) ↔ (leaves_in p ≡ [])
no_root slab root o p s e = subst (λ q. (root ≡ None) ↔ (leaves_in q ≡ [])) e (at root o s)
  where
    at : (root : Option ℕ) (o : Option Tree) → SoundIn slab root o → (root ≡ None) ↔ (leaves_in o ≡ [])
    at None None s = (λ _. refl, λ _. refl)
    at None (Some t) s = absurd s.0
    at (Some n) None s = absurd s
    at (Some n) (Some t) s = (λ h. cc, λ h. let l = some_leaf t in let z : length (leaves t) ≡ 0 = ap length h in absurd (omega arith))
