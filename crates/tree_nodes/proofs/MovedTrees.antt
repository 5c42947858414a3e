-- A tree in which one leaf has another box keeps its numbers, slots and heights.
use Rattle.std.proofs.Common.{◌≡◌, ℕ, ◌+◌, max, cond, ◌++◌, map, refl, sym, ap, ◌∙◌}
use Rattle.std.proofs.Common.{arith}
use Rattle.std.specs.List.{sum_by}
use Rattle.std.proofs.lemmas.List.Sums.{sum_by-append}
use Rattle.std.proofs.lemmas.List.{map-append}
use Rattle.fixed_box.specs.Bounds.{Bounds}
use Rattle.tree_nodes.specs.Moved.{refitted, with_fat, leaf_moved}
use Rattle.tree_nodes.specs.Stored.{size}
use Rattle.tree_nodes.specs.Tree.{Tree, tip, fork, top, height, count_of, one, Balanced, leaves, Leaf as LeafOf}
use Rattle.tree_nodes.proofs.Balance.{refitted_balanced}
use Rattle.tree_nodes.proofs.LeafViews.{other_one}

pub moved_top : (node : ℕ) (fat : Bounds) (t : Tree) → top (with_fat node fat t) ≡ top t
moved_top node fat (tip n s b) = refl
moved_top node fat (fork n h k l r) = refl

pub moved_counts : (node : ℕ) (fat : Bounds) (t : Tree) (k : ℕ) → count_of (with_fat node fat t) k ≡ count_of t k
moved_counts node fat (tip n s b) k = refl
moved_counts node fat (fork n h j l r) k = let a = moved_counts node fat l k in let b = moved_counts node fat r k in omega arith

pub moved_size : (node : ℕ) (fat : Bounds) (t : Tree) → size (with_fat node fat t) ≡ size t
moved_size node fat (tip n s b) = refl
moved_size node fat (fork n h j l r) = let a = moved_size node fat l in let b = moved_size node fat r in omega arith

pub moved_height : (node : ℕ) (fat : Bounds) (t : Tree) → Balanced t → height (with_fat node fat t) ≡ height t
moved_height node fat (tip n s b) h = refl
moved_height node fat (fork n hu k l r) h =
    let a : height (with_fat node fat l) ≡ height l = moved_height node fat l h.1 in
    let b : height (with_fat node fat r) ≡ height r = moved_height node fat r h.2 in
    ap (λ x. 1 + max x (height (with_fat node fat r))) a ∙ ap (λ x. 1 + max (height l) x) b ∙ sym h.0.height_is

pub moved_balanced : (node : ℕ) (fat : Bounds) (t : Tree) → Balanced t → Balanced (with_fat node fat t)
moved_balanced node fat (tip n s b) h = tt
moved_balanced node fat (fork n hu k l r) h =
    let a : height (with_fat node fat l) ≡ height l = moved_height node fat l h.1 in
    let b : height (with_fat node fat r) ≡ height r = moved_height node fat r h.2 in
    let lo = h.0.left_low in
    let ro = h.0.right_low in
    refitted_balanced n (with_fat node fat l) (with_fat node fat r) (moved_balanced node fat l h.1) (moved_balanced node fat r h.2) (omega arith) (omega arith)

pub moved_slots : (node : ℕ) (fat : Bounds) (t : Tree) (k : ℕ)
    → sum_by (λ x. one x.slot k) (leaves (with_fat node fat t)) ≡ sum_by (λ x. one x.slot k) (leaves t)
moved_slots node fat (tip n s b) k = refl
moved_slots node fat (fork n h j l r) k =
    let f : LeafOf → ℕ = λ x. one x.slot k in
    let a : sum_by f (leaves (with_fat node fat l)) ≡ sum_by f (leaves l) = moved_slots node fat l k in
    let b : sum_by f (leaves (with_fat node fat r)) ≡ sum_by f (leaves r) = moved_slots node fat r k in
    sum_by-append f (leaves (with_fat node fat l)) (leaves (with_fat node fat r)) ∙ ap (λ x. x + sum_by f (leaves (with_fat node fat r))) a ∙ ap
    (λ x. sum_by f (leaves l) + x) b ∙ sym (sum_by-append f (leaves l) (leaves r))

-- where the leaf isn't, nothing changes
pub unmoved : (node : ℕ) (fat : Bounds) (t : Tree) → Balanced t → count_of t node ≡ 0 → with_fat node fat t ≡ t
unmoved node fat (tip n s b) h z = let e = other_one n node z in ap (λ c. tip n s (cond c fat b)) e
unmoved node fat (fork n hu k l r) h z =
    let a = unmoved node fat l h.1 (omega arith) in
    let b = unmoved node fat r h.2 (omega arith) in
    ap (λ x. refitted n x (with_fat node fat r)) a ∙ ap (λ x. refitted n l x) b ∙ ap (λ x. fork n x (1 + max (height l) (height r)) l r) (sym h.0.hull_is) ∙ ap
    (λ x. fork n hu x l r) (sym h.0.height_is)

-- the leaves stay but for the box
pub moved_leaves : (node : ℕ) (fat : Bounds) (t : Tree) → leaves (with_fat node fat t) ≡ map (leaf_moved node fat) (leaves t)
moved_leaves node fat (tip n s b) = refl
moved_leaves node fat (fork n h k l r) =
    ap (λ x. x ++ leaves (with_fat node fat r)) (moved_leaves node fat l) ∙ ap (λ x. map (leaf_moved node fat) (leaves l) ++ x) (moved_leaves node fat r) ∙ sym
    (map-append (leaf_moved node fat) (leaves l) (leaves r))
