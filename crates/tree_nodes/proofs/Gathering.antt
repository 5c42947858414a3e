-- The leaves and the inner nodes of a tree, one after another.
use Rattle.std.proofs.Common.{◌≡◌, ℕ, ◌+◌, ◌≤◌, ◌^◌, Some, IsSome, List, [], ◌∷◌, ◌++◌, map, length, length-append, refl, sym, ap}
use Rattle.std.proofs.Common.{◌∙◌, subst, arith, ⊎_elim}
use Rattle.std.specs.List.{sum_by}
use Rattle.std.specs.List.Sorted.{IsPermutation}
use Rattle.std.proofs.lemmas.Bool.{cases_lt}
use Rattle.std.proofs.lemmas.List.{map-append, length-map}
use Rattle.std.proofs.lemmas.List.Sorted.{length_permutation, sum_by-IsPermutation}
use Rattle.slab.specs.Slab.{Slab, get, slab_len}
use Rattle.fixed_box.specs.Bounds.{Bounds}
use Rattle.tree_nodes.specs.declared.leaf_key.LeafKey.{LeafKey}
use Rattle.tree_nodes.specs.declared.node_view.NodeView.{NodeView}
use Rattle.tree_nodes.specs.declared.node_view.NodeView.TheVariants.{Leaf as LeafNode}
use Rattle.tree_nodes.specs.Rebuilt.{numbers, uses, inner_numbers, HasRoom, shown_leaf, shown_leaves, ToBuild, Built}
use Rattle.tree_nodes.specs.Stored.{Holds, Sound}
use Rattle.tree_nodes.specs.Tree.{Tree, tip, fork, height, leaves, count_of, one, Leaf as LeafOf}
use Rattle.tree_nodes.proofs.BuiltTrees.{many, uses_cons, uses_append, uses_parted}
use Rattle.tree_nodes.proofs.Halving.{least_of_all}
use Rattle.tree_nodes.proofs.Frames.{one_cases}
use Rattle.tree_nodes.proofs.Inserting.{size_leaves}
use Rattle.tree_nodes.proofs.Heights.{low, some_leaf}

abbrev pub leaf_numbers : Tree → List ℕ
leaf_numbers t = map (λ (x : LeafOf). x.node) (leaves t)

pub inner_count : (t : Tree) → length (inner_numbers t) + 1 ≡ length (leaves t)
inner_count (tip n s b) = refl
inner_count (fork n hu k l r) =
    let a = inner_count l in
    let b = inner_count r in
    let c : length (inner_numbers l ++ inner_numbers r) ≡ length (inner_numbers l) + length (inner_numbers r) =
    length-append (inner_numbers l) (inner_numbers r) in
    let d : length (leaves l ++ leaves r) ≡ length (leaves l) + length (leaves r) = length-append (leaves l) (leaves r) in
    omega (arith, a, b, c, d)

-- room for the first child, once the node's number is there
pub first_room : (at k len capacity more wider : ℕ) (hu : Bounds) (t f g : Tree) → t ≡ fork at hu k f g → HasRoom len capacity t → more ≤ len + 1
    → capacity ≤ wider → HasRoom more wider f
first_room at k len capacity more wider hu t f g is room le wide =
    let r : HasRoom len capacity (fork at hu k f g) = subst (HasRoom len capacity) is room in
    let a : length (leaves f ++ leaves g) ≡ length (leaves f) + length (leaves g) = length-append (leaves f) (leaves g) in
    let b = some_leaf g in
    omega (arith, r, a, b, le, wide)

-- and for the second
pub second_room : (at k len capacity more wider : ℕ) (hu : Bounds) (t f g : Tree) → t ≡ fork at hu k f g → HasRoom len capacity t
    → more ≤ len + length (leaves f) → capacity ≤ wider → HasRoom more wider g
second_room at k len capacity more wider hu t f g is room le wide =
    let r : HasRoom len capacity (fork at hu k f g) = subst (HasRoom len capacity) is room in
    let a : length (leaves f ++ leaves g) ≡ length (leaves f) + length (leaves g) = length-append (leaves f) (leaves g) in
    omega (arith, r, a, le, wide)

-- how many keys there are after the first child
pub more_keys : (keys more : List LeafKey) (f : Tree) → numbers more ≡ numbers keys ++ leaf_numbers f → length more ≤ length keys + length (leaves f)
more_keys keys more f e =
    let a : length (numbers more) ≡ length more = length-map more (λ (k : LeafKey). k.number) in
    let b : length (numbers keys) ≡ length keys = length-map keys (λ (k : LeafKey). k.number) in
    let c : length (leaf_numbers f) ≡ length (leaves f) = length-map (leaves f) (λ (x : LeafOf). x.node) in
    let d : length (numbers more) ≡ length (numbers keys ++ leaf_numbers f) = ap length e in
    let g : length (numbers keys ++ leaf_numbers f) ≡ length (numbers keys) + length (leaf_numbers f) = length-append (numbers keys) (leaf_numbers f) in
    omega (arith, a, b, c, d, g)

pub more_inner : (at : ℕ) (inner mid more : List ℕ) (f : Tree) → mid ≡ inner ++ at ∷ [] → more ≡ mid ++ inner_numbers f
    → length more ≤ length inner + length (leaves f)
more_inner at inner mid more f e i =
    let a : length mid ≡ length inner + 1 = ap length e ∙ length-append inner (at ∷ []) in
    let b : length more ≡ length mid + length (inner_numbers f) = ap length i ∙ length-append mid (inner_numbers f) in
    let c = inner_count f in
    omega (arith, a, b, c)

-- each number of a tree is a leaf's or an inner node's
parts_counted : (t : Tree) (k : ℕ) → uses (leaf_numbers t) k + uses (inner_numbers t) k ≡ count_of t k
parts_counted (tip n s b) k = let a = uses_cons n [] k in omega (arith, a)
parts_counted (fork n hu j l r) k =
    let a = parts_counted l k in
    let b = parts_counted r k in
    let c = uses_parted n (inner_numbers l) (inner_numbers r) k in
    let d : uses (leaf_numbers (fork n hu j l r)) k ≡ uses (leaf_numbers l ++ leaf_numbers r) k =
    ap (λ xs. uses xs k) (map-append (λ (x : LeafOf). x.node) (leaves l) (leaves r)) in
    let e = uses_append (leaf_numbers l) (leaf_numbers r) k in
    omega (arith, a, b, c, d, e)

leaves_shown : (slab : Slab NodeView) (t : Tree) (k : ℕ) → Holds slab t → 1 ≤ uses (leaf_numbers t) k
    → (s : ℕ) × (b : Bounds) × (get slab k ≡ Some (LeafNode s b))
leaves_shown slab (tip n s b) k h u = ⊎_elim
    (λ e. (s, b, subst (λ x. get slab x ≡ Some (LeafNode s b)) e h))
    (λ z. let a = uses_cons n [] k in absurd (omega (arith, a, z, u))) (one_cases n k)
leaves_shown slab (fork n hu j l r) k h u =
    let d : uses (leaf_numbers (fork n hu j l r)) k ≡ uses (leaf_numbers l ++ leaf_numbers r) k =
    ap (λ xs. uses xs k) (map-append (λ (x : LeafOf). x.node) (leaves l) (leaves r)) in
    let e = uses_append (leaf_numbers l) (leaf_numbers r) k in
    ⊎_elim (λ lt. leaves_shown slab l k h.1 (omega (arith, lt)))
    (λ ge. leaves_shown slab r k h.2 (omega (arith, ge, d, e, u)))
    (cases_lt 0 (uses (leaf_numbers l) k))

inner_there : (slab : Slab NodeView) (t : Tree) (k : ℕ) → Holds slab t → 1 ≤ uses (inner_numbers t) k → IsSome (get slab k)
inner_there slab (tip n s b) k h u = absurd (omega arith)
inner_there slab (fork n hu j l r) k h u =
    let c = uses_parted n (inner_numbers l) (inner_numbers r) k in
    ⊎_elim (λ e. subst (λ x. IsSome (get slab x)) e (subst IsSome (sym h.0) refl))
    (λ z. ⊎_elim (λ lt. inner_there slab l k h.1 (omega (arith, lt)))
    (λ ge. inner_there slab r k h.2 (omega (arith, ge, c, z, u)))
    (cases_lt 0 (uses (inner_numbers l) k)))
    (one_cases n k)

-- the parts of a tree that a slab keeps make one
same_uses : (t : Tree) (inner : List ℕ) → IsPermutation (inner_numbers t) inner → (k : ℕ) → uses inner k ≡ uses (inner_numbers t) k
same_uses t inner p k = sum_by-IsPermutation (λ n. one n k) (inner_numbers t) inner p

pub ready_to_build : (slab : Slab NodeView) (t : Tree) (ns inner : List ℕ) → Sound slab t → ns ≡ leaf_numbers t → IsPermutation (inner_numbers t) inner
    → ToBuild slab ns inner
ready_to_build slab t ns inner s e p =
    let l : length (leaf_numbers t) ≡ length (leaves t) = length-map (leaves t) (λ (x : LeafOf). x.node) in
    let i : length inner ≡ length (inner_numbers t) = length_permutation (inner_numbers t) inner p in
    let few = s.is_tree.few in
    let c = inner_count t in
    subst (λ xs. ToBuild slab xs inner) (sym e) (record {
      leaves_there = λ n u. leaves_shown slab t n s.holds u;
      room = λ n u. inner_there slab t n s.holds (subst (λ m. 1 ≤ m) (same_uses t inner p n) u);
      apart = λ k. let a = parts_counted t k in let b = s.is_tree.apart k in let g = same_uses t inner p k in omega (arith, a, b, g);
      count = omega (arith, l, c, i);
      few = omega (arith, l, few);
    })

-- the leaves that a tree's numbers show are its own
own_leaves : (slab : Slab NodeView) (t : Tree) → Holds slab t → shown_leaves slab (leaf_numbers t) ≡ leaves t
own_leaves slab (tip n s b) h = ap (λ o. shown_leaf n o ∷ []) h
own_leaves slab (fork n hu k l r) h =
    ap (shown_leaves slab) (map-append (λ (x : LeafOf). x.node) (leaves l) (leaves r))
    ∙ map-append (λ n. shown_leaf n (get slab n)) (leaf_numbers l) (leaf_numbers r)
    ∙ ap (λ xs. xs ++ shown_leaves slab (leaf_numbers r)) (own_leaves slab l h.1) ∙ ap (λ xs. leaves l ++ xs) (own_leaves slab r h.2)

pub same_leaves : (old new : Slab NodeView) (at : ℕ) (ns inner : List ℕ) (t u : Tree) → Sound old t → ns ≡ leaf_numbers t → Built old new at ns inner u
    → IsPermutation (leaves t) (leaves u)
same_leaves old new at ns inner t u s e b =
    subst (λ xs. IsPermutation xs (leaves u)) (ap (shown_leaves old) e ∙ own_leaves old t s.holds) b.leaves_are

-- and what is built of them is kept as the first tree was
pub built_sound : (old new : Slab NodeView) (at : ℕ) (ns inner : List ℕ) (t u : Tree) → Sound old t → ns ≡ leaf_numbers t
    → IsPermutation (inner_numbers t) inner
    → Built old new at ns inner u → slab_len new ≡ slab_len old → Sound new u
built_sound old new at ns inner t u s e i b len =
    let p = same_leaves old new at ns inner t u s e b in
    let many : length (leaves u) ≡ length (leaves t) = length_permutation (leaves t) (leaves u) p in
    let few = s.is_tree.few in
    record {
      holds = b.kept.holds;
      counted = let c = s.counted in let x = size_leaves t in let y = size_leaves u in omega (arith, c, x, y, many, len);
      is_tree = record {
        apart = λ k.
            let a = parts_counted t k in
            let c = b.counts_are k in
            let d = s.is_tree.apart k in
            let f : uses ns k ≡ uses (leaf_numbers t) k = ap (λ xs. uses xs k) e in
            let g = same_uses t inner i k in
            omega (arith, a, c, d, f, g);
        slots = λ k.
            let a : sum_by (λ x. one x.slot k) (leaves u) ≡ sum_by (λ x. one x.slot k) (leaves t) =
            sum_by-IsPermutation (λ (x : LeafOf). one x.slot k) (leaves t) (leaves u) p in
            let d = s.is_tree.slots k in
            omega (arith, a, d);
        balanced = b.balanced;
        few = omega (arith, many, few);
        low = low u b.balanced (omega (arith, many, few));
      };
    }

-- no lower tree has room for the leaves
pub lowest : (old new : Slab NodeView) (at : ℕ) (ns inner : List ℕ) (u : Tree) → Built old new at ns inner u → (h : ℕ) → length (leaves u) ≤ 2 ^ h
    → height u ≤ h
lowest old new at ns inner u b h le = let m = many old new at ns inner u b in least_of_all (length ns) (height u) h b.least (omega (arith, m, le))
