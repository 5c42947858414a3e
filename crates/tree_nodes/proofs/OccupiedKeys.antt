-- Each key of a sound slab is a node of its tree: there are as many of the one as of the other.
use Rattle.std.proofs.Common.{◌≡◌, ◌≢◌, ℕ, zero, suc, ◌+◌, ◌≤◌, Option, None, Some, IsSome, is_some, cond, List, [], ◌∷◌, slice_index_or, refl, sym, ap, ◌∙◌}
use Rattle.std.proofs.Common.{subst, arith, inl, inr, ⊎_elim}
use Rattle.std.specs.List.{count_by}
use Rattle.std.proofs.lemmas.Bool.{cases_lt}
use Rattle.std.proofs.lemmas.List.Sums.{sum_by-cons}
use Rattle.slab.specs.Slab.{Slab, get}
use Rattle.fixed_box.specs.Bounds.{Bounds, hull as union}
use Rattle.tree_nodes.specs.declared.node_view.NodeView.{NodeView}
use Rattle.tree_nodes.specs.declared.node_view.NodeView.TheVariants.{Inner}
use Rattle.tree_nodes.specs.Resized.{Raises}
use Rattle.tree_nodes.specs.Stored.{Holds, Sound, size}
use Rattle.tree_nodes.specs.Tree.{Tree, tip, fork, top, bounds, count_of, one, Within}
use Rattle.tree_nodes.proofs.Detaching.{held}
use Rattle.tree_nodes.proofs.Frames.{one_same, one_apart, one_cases}
use Rattle.tree_nodes.proofs.Rotations.{children}
use Rattle.tree_nodes.proofs.TreeLaws.{within_itself}

-- the slots without what stands at one key
abbrev without : List (Option NodeView) → ℕ → List (Option NodeView)
without [] n = []
without (x ∷ xs) zero = None ∷ xs
without (x ∷ xs) (suc n) = x ∷ without xs n

abbrev taken : Option NodeView → ℕ
taken x = cond (is_some x) 1 0

count_cons : (x : Option NodeView) (xs : List (Option NodeView)) → count_by is_some (x ∷ xs) ≡ taken x + count_by is_some xs
count_cons x xs = sum_by-cons taken x xs

some_taken : (x : Option NodeView) → IsSome x → taken x ≡ 1
some_taken None h = cc
some_taken (Some v) h = refl

without_count : (xs : List (Option NodeView)) (n : ℕ) → IsSome (slice_index_or xs n None)
    → count_by is_some (without xs n) + 1 ≡ count_by is_some xs
without_count [] n h = cc
without_count (x ∷ xs) zero h =
    let a = count_cons x xs in
    let b = count_cons None xs in
    let c = some_taken x h in
    let z : taken None ≡ 0 = refl in
    omega arith
without_count (x ∷ xs) (suc n) h =
    let a = count_cons x xs in
    let b = count_cons x (without xs n) in
    let c = without_count xs n h in
    omega arith

without_others : (xs : List (Option NodeView)) (n k : ℕ) → n ≢ k → slice_index_or (without xs n) k None ≡ slice_index_or xs k None
without_others [] n k ne = refl
without_others (x ∷ xs) zero zero ne = absurd (ne refl)
without_others (x ∷ xs) zero (suc k) ne = refl
without_others (x ∷ xs) (suc n) zero ne = refl
without_others (x ∷ xs) (suc n) (suc k) ne = without_others xs n k (λ e. ne (ap suc e))

counted_one : (xs : List (Option NodeView)) (k : ℕ) → IsSome (slice_index_or xs k None) → 1 ≤ count_by is_some xs
counted_one xs k h = let a = without_count xs k h in omega arith

-- the slots without the nodes of a tree
abbrev stripped : Tree → List (Option NodeView) → List (Option NodeView)
stripped (tip n s b) xs = without xs n
stripped (fork n h k l r) xs = stripped r (stripped l (without xs n))

stripped_others : (t : Tree) (xs : List (Option NodeView)) (k : ℕ) → count_of t k ≡ 0
    → slice_index_or (stripped t xs) k None ≡ slice_index_or xs k None
stripped_others (tip n s b) xs k z = without_others xs n k (one_apart n k z)
stripped_others (fork n h j l r) xs k z =
    stripped_others r (stripped l (without xs n)) k (omega arith) ∙ stripped_others l (without xs n) k (omega arith)
    ∙ without_others xs n k (one_apart n k (omega arith))

stripped_count : (t : Tree) (xs : List (Option NodeView)) → ((k : ℕ) → count_of t k ≤ 1)
    → ((k : ℕ) → 1 ≤ count_of t k → IsSome (slice_index_or xs k None)) → count_by is_some (stripped t xs) + size t ≡ count_by is_some xs
stripped_count (tip n s b) xs apart there = let o = one_same n in without_count xs n (there n (omega arith))
stripped_count (fork n h j l r) xs apart there =
    let whole : (k : ℕ) → one n k + (count_of l k + count_of r k) ≤ 1 = apart in
    let ys = without xs n in
    let o = one_same n in
    let a = without_count xs n (there n (omega arith)) in
    let b = stripped_count l ys (λ k. let w = whole k in omega arith)
    (λ k u. let w = whole k in subst IsSome (sym (without_others xs n k (one_apart n k (omega arith)))) (there k (omega arith))) in
    let c = stripped_count r (stripped l ys) (λ k. let w = whole k in omega arith)
    (λ k u. let w = whole k in subst IsSome (sym (stripped_others l ys k (omega arith) ∙ without_others xs n k (one_apart n k (omega arith))))
    (there k (omega arith))) in
    omega arith

-- a key that has a value is a node of the tree
pub occupied : (slab : Slab NodeView) (t : Tree) (k : ℕ) → Sound slab t → IsSome (get slab k) → 1 ≤ count_of t k
occupied slab t k s there = ⊎_elim
    (λ lt.
    let z : count_of t k ≡ 0 = omega arith in
    let all = stripped_count t slab.slots s.is_tree.apart (λ j u. held slab t j s.holds u) in
    let left = counted_one (stripped t slab.slots) k (subst IsSome (sym (stripped_others t slab.slots k z)) there) in
    let c = s.counted in
    absurd (omega arith))
    (λ ge. ge)
    (cases_lt (count_of t k) 1)

-- what stands under a node's number is a part of the tree
pub standing : (slab : Slab NodeView) (t : Tree) (k : ℕ) → Holds slab t → 1 ≤ count_of t k → (u : Tree) × Within t u × (top u ≡ k) × Holds slab u
standing slab (tip n s b) k h used = (tip n s b, refl, ⊎_elim (λ e. e) (λ z. absurd (omega arith)) (one_cases n k), h)
standing slab (fork n hu j l r) k h used = ⊎_elim
    (λ e. (fork n hu j l r, within_itself (fork n hu j l r), e, h))
    (λ z. ⊎_elim
    (λ lt. let u = standing slab r k h.2 (omega arith) in (u.0, inr (inr u.1), u.2, u.3))
    (λ ge. let u = standing slab l k h.1 ge in (u.0, inr (inl u.1), u.2, u.3))
    (cases_lt (count_of l k) 1))
    (one_cases n k)

-- An inner node under a key is a part of the tree, over what stands under its children.
pub inner_standing : (slab : Slab NodeView) (t : Tree) (parent left right k : ℕ) (hu : Bounds) → Sound slab t
    → get slab parent ≡ Some (Inner left right hu k)
    → (f : Tree) × (g : Tree) × Within t (fork parent hu k f g) × (Holds slab f × (top f ≡ left)) × (Holds slab g × (top g ≡ right))
inner_standing slab t parent left right k hu s e =
    let u = standing slab t parent s.holds (occupied slab t parent s (subst IsSome (sym e) refl)) in
    let c = children slab parent left right k hu u.0 (record { holds = u.3; is_at = u.2 }) e in
    (c.0, c.1, subst (Within t) c.2 u.1, (c.3.holds, c.3.is_at), (c.4.holds, c.4.is_at))

-- the parent where its left child gets other bounds
pub raises_left : (slab : Slab NodeView) (t : Tree) (parent left right k : ℕ) (hu b other raised : Bounds) → Sound slab t
    → get slab parent ≡ Some (Inner left right hu k) → ((u : Tree) → Holds slab u → top u ≡ right → other ≡ bounds u) → raised ≡ union b other
    → Raises t left parent b hu raised
raises_left slab t parent left right k hu b other raised s e shown is =
    let i = inner_standing slab t parent left right k hu s e in
    record { height = k; left = i.0; right = i.1; inside = i.2; child = inl (i.3.1, is ∙ ap (union b) (shown i.1 i.4.0 i.4.1)) }

-- and its right child
pub raises_right : (slab : Slab NodeView) (t : Tree) (parent left right k : ℕ) (hu b other raised : Bounds) → Sound slab t
    → get slab parent ≡ Some (Inner left right hu k) → ((u : Tree) → Holds slab u → top u ≡ left → other ≡ bounds u) → raised ≡ union other b
    → Raises t right parent b hu raised
raises_right slab t parent left right k hu b other raised s e shown is =
    let i = inner_standing slab t parent left right k hu s e in
    record { height = k; left = i.0; right = i.1; inside = i.2; child = inr (i.4.1, is ∙ ap (λ x. union x b) (shown i.0 i.3.0 i.3.1)) }
