-- A node of a tree gets other bounds, one level after the other up to a hull that stays.
use Rattle.std.proofs.Common.{◌≡◌, ◌≢◌, ℕ, ◌+◌, ◌≤◌, max, true, false, cond, eqb, Some, option_map, refl, sym, ap, ◌∙◌, subst, arith, ⊎_elim, ◌⊎◌}
use Rattle.std.proofs.lemmas.Bool.{cases_lt}
use Rattle.slab.specs.Slab.{Slab, get, slab_len}
use Rattle.fixed_box.specs.Bounds.{Bounds, hull as union}
use Rattle.tree_nodes.specs.declared.node_view.NodeView.{NodeView}
use Rattle.tree_nodes.specs.declared.node_view.NodeView.TheVariants.{Leaf, Inner}
use Rattle.tree_nodes.specs.Moved.{with_fat, refitted}
use Rattle.tree_nodes.specs.Resized.{with_bounds, resized, Raises, Rebounded}
use Rattle.tree_nodes.specs.Stored.{Holds, Sound}
use Rattle.tree_nodes.specs.Tree.{Tree, tip, fork, top, bounds, height, count_of, one, Balanced, Within, view_at, or_else, view_of}
use Rattle.tree_nodes.proofs.Frames.{one_same, one_apart, frame}
use Rattle.tree_nodes.proofs.LeafMoves.{sound_moved}
use Rattle.tree_nodes.proofs.LeafViews.{other_one, not_viewed}
use Rattle.tree_nodes.proofs.MovedTrees.{unmoved}
use Rattle.tree_nodes.proofs.Opened.{top_counted}
use Rattle.tree_nodes.proofs.TreeLaws.{balanced_within}
use Rattle.tree_nodes.proofs.Views.{or_cases}
use Rattle.fixed_box.proofs.Numbers.{eqb_same}

resized_top : (key : ℕ) (b : Bounds) (t : Tree) → top (resized key b t) ≡ top t
resized_top key b (tip n s c) = refl
resized_top key b (fork n h k l r) =
    elim (eqb n key) as (λ e. top (cond e (fork n b k l r) (refitted n (resized key b l) (resized key b r))) ≡ n) [ true ↦ refl | false ↦ refl ]

resized_height : (key : ℕ) (b : Bounds) (t : Tree) → Balanced t → height (resized key b t) ≡ height t
resized_height key b (tip n s c) bal = refl
resized_height key b (fork n h k l r) bal =
    let x : height (resized key b l) ≡ height l = resized_height key b l bal.1 in
    let y : height (resized key b r) ≡ height r = resized_height key b r bal.2 in
    elim (eqb n key) as (λ e. height (cond e (fork n b k l r) (refitted n (resized key b l) (resized key b r))) ≡ k) [
      | true ↦ refl
      | false ↦ ap (λ z. 1 + max z (height (resized key b r))) x ∙ ap (λ z. 1 + max (height l) z) y ∙ sym bal.0.height_is
    ]

-- a node that isn't the one with the number
passed : (key : ℕ) (b : Bounds) (n k : ℕ) (h : Bounds) (l r : Tree) → one n key ≡ 0
    → resized key b (fork n h k l r) ≡ refitted n (resized key b l) (resized key b r)
passed key b n k h l r z =
    let e = other_one n key z in ap (λ x. cond x (fork n b k l r) (refitted n (resized key b l) (resized key b r))) e

refitted_same : (n k : ℕ) (h : Bounds) (l r : Tree) → Balanced (fork n h k l r) → refitted n l r ≡ fork n h k l r
refitted_same n k h l r bal =
    ap (λ x. fork n x (1 + max (height l) (height r)) l r) (sym bal.0.hull_is) ∙ ap (λ x. fork n h x l r) (sym bal.0.height_is)

-- where the node isn't, nothing changes
elsewhere : (key : ℕ) (b : Bounds) (t : Tree) → Balanced t → count_of t key ≡ 0 → resized key b t ≡ t
elsewhere key b (tip n s c) bal z = let e = other_one n key z in ap (λ x. tip n s (cond x b c)) e
elsewhere key b (fork n h k l r) bal z =
    passed key b n k h l r (omega arith)
    ∙ ap (λ x. refitted n x (resized key b r)) (elsewhere key b l bal.1 (omega arith))
    ∙ ap (λ x. refitted n l x) (elsewhere key b r bal.2 (omega arith))
    ∙ refitted_same n k h l r bal

-- the node is on the left
on_left : (key : ℕ) (b : Bounds) (n k : ℕ) (h : Bounds) (l r : Tree) → Balanced (fork n h k l r) → one n key ≡ 0 → count_of r key ≡ 0
    → resized key b (fork n h k l r) ≡ refitted n (resized key b l) r
on_left key b n k h l r bal z y = passed key b n k h l r z ∙ ap (λ x. refitted n (resized key b l) x) (elsewhere key b r bal.2 y)

on_right : (key : ℕ) (b : Bounds) (n k : ℕ) (h : Bounds) (l r : Tree) → Balanced (fork n h k l r) → one n key ≡ 0 → count_of l key ≡ 0
    → resized key b (fork n h k l r) ≡ refitted n l (resized key b r)
on_right key b n k h l r bal z y = passed key b n k h l r z ∙ ap (λ x. refitted n x (resized key b r)) (elsewhere key b l bal.1 y)

-- the node itself
top_inner : (b : Bounds) (n k : ℕ) (h : Bounds) (l r : Tree) → resized n b (fork n h k l r) ≡ fork n b k l r
top_inner b n k h l r = ap (λ x. cond x (fork n b k l r) (refitted n (resized n b l) (resized n b r))) (eqb_same n)

top_leaf : (b : Bounds) (n s : ℕ) (c : Bounds) → resized n b (tip n s c) ≡ tip n s b
top_leaf b n s c = ap (λ x. tip n s (cond x b c)) (eqb_same n)

top_bounds : (key : ℕ) (b : Bounds) (t : Tree) → top t ≡ key → bounds (resized key b t) ≡ b
top_bounds key b (tip n s c) e = subst (λ m. bounds (resized m b (tip n s c)) ≡ b) e (ap bounds (top_leaf b n s c))
top_bounds key b (fork n h k l r) e = subst (λ m. bounds (resized m b (fork n h k l r)) ≡ b) e (ap bounds (top_inner b n k h l r))

-- a node is written at the top of a tree
pub written_top : (old new : Slab NodeView) (at : ℕ) (b : Bounds) (t : Tree) → top t ≡ at → ((k : ℕ) → count_of t k ≤ 1) → Rebounded old new at b
    → Holds old t → Holds new (resized at b t)
written_top old new at b (tip n s c) e apart w h =
    let q : get new n ≡ option_map (with_bounds b) (get old n) = subst (λ m. get new m ≡ option_map (with_bounds b) (get old m)) (sym e) w.there in
    subst (λ m. Holds new (resized m b (tip n s c))) e (subst (Holds new) (sym (top_leaf b n s c)) (q ∙ ap (option_map (with_bounds b)) h))
written_top old new at b (fork n hu k l r) e apart w h =
    let q : get new n ≡ option_map (with_bounds b) (get old n) = subst (λ m. get new m ≡ option_map (with_bounds b) (get old m)) (sym e) w.there in
    let f : (x : ℕ) → x ≢ n → get new x ≡ get old x = subst (λ m. (x : ℕ) → x ≢ m → get new x ≡ get old x) (sym e) w.others in
    let a : one n n + (count_of l n + count_of r n) ≤ 1 = apart n in
    let o = one_same n in
    let held : Holds new (fork n b k l r) =
    (q ∙ ap (option_map (with_bounds b)) h.0, frame old new n f l (omega arith) h.1, frame old new n f r (omega arith) h.2) in
    subst (λ m. Holds new (resized m b (fork n hu k l r))) e (subst (Holds new) (sym (top_inner b n k hu l r)) held)

-- what stands in a tree uses no number more often
counts_within : (t u : Tree) (k : ℕ) → Within t u → count_of u k ≤ count_of t k
counts_within (tip n s b) u k w = subst (λ x. count_of x k ≤ count_of (tip n s b) k) (sym w) (omega arith)
counts_within (fork n h j l r) u k w =
    ⊎_elim (λ e. subst (λ x. count_of x k ≤ count_of (fork n h j l r) k) (sym e) (omega arith))
    (λ v. ⊎_elim (λ a. let x = counts_within l u k a in omega arith) (λ a. let x = counts_within r u k a in omega arith) v) w

-- a node that keeps its bounds leaves the tree as it is
unchanged : (t u : Tree) → Within t u → Balanced t → ((k : ℕ) → count_of t k ≤ 1) → resized (top u) (bounds u) t ≡ t
unchanged (tip n s c) u w bal apart = subst (λ x. resized (top x) (bounds x) (tip n s c) ≡ tip n s c) (sym w) (top_leaf c n s c)
unchanged (fork n h k l r) u w bal apart =
    let whole : (j : ℕ) → one n j + (count_of l j + count_of r j) ≤ 1 = apart in
    let used = top_counted u in
    let a = whole (top u) in
    ⊎_elim (λ e. subst (λ x. resized (top x) (bounds x) (fork n h k l r) ≡ fork n h k l r) (sym e) (top_inner h n k h l r))
    (λ v. ⊎_elim
    (λ i.
    let c = counts_within l u (top u) i in
    on_left (top u) (bounds u) n k h l r bal (omega arith) (omega arith)
    ∙ ap (λ x. refitted n x r) (unchanged l u i bal.1 (λ j. let y = whole j in omega arith)) ∙ refitted_same n k h l r bal)
    (λ i.
    let c = counts_within r u (top u) i in
    on_right (top u) (bounds u) n k h l r bal (omega arith) (omega arith)
    ∙ ap (λ x. refitted n l x) (unchanged r u i bal.2 (λ j. let y = whole j in omega arith)) ∙ refitted_same n k h l r bal)
    v) w

-- A part of the tree with a node that is written, after what stands above was refitted: the bounds of both agree, and so
-- the whole is refitted.
record Lifts (mid new : Slab NodeView) (at parent : ℕ) (b raised : Bounds) (t : Tree) : Type 0 where
  pub bounds_are : bounds (resized at b t) ≡ bounds (resized parent raised t)
  pub holds : Holds mid (resized parent raised t) → Holds new (resized at b t)

lifts : (mid new : Slab NodeView) (at parent : ℕ) (b raised : Bounds) (t u : Tree) → Within t u → Balanced t → ((k : ℕ) → count_of t k ≤ 1)
    → Rebounded mid new at b → 1 ≤ count_of u at → 1 ≤ count_of u parent → Lifts mid new at parent b raised u
    → Lifts mid new at parent b raised t
lifts mid new at parent b raised (tip n s c) u i bal apart w ua up here = subst (Lifts mid new at parent b raised) i here
lifts mid new at parent b raised (fork n h k l r) u i bal apart w ua up here =
    let whole : (j : ℕ) → one n j + (count_of l j + count_of r j) ≤ 1 = apart in
    let pa = whole at in
    let pp = whole parent in
    ⊎_elim (λ e. subst (Lifts mid new at parent b raised) e here)
    (λ v. ⊎_elim
    (λ i.
    let ca = counts_within l u at i in
    let cp = counts_within l u parent i in
    let z : one n at ≡ 0 = omega arith in
    let free : count_of r at ≡ 0 = omega arith in
    let low = lifts mid new at parent b raised l u i bal.1 (λ j. let y = whole j in omega arith) w ua up here in
    let x : resized at b (fork n h k l r) ≡ refitted n (resized at b l) r = on_left at b n k h l r bal z free in
    let y : resized parent raised (fork n h k l r) ≡ refitted n (resized parent raised l) r =
    on_left parent raised n k h l r bal (omega arith) (omega arith) in
    let p = resized at b l in
    let q = resized parent raised l in
    let tops : top p ≡ top q = resized_top at b l ∙ sym (resized_top parent raised l) in
    let heights : height p ≡ height q = resized_height at b l bal.1 ∙ sym (resized_height parent raised l bal.1) in
    let boxes : bounds p ≡ bounds q = low.bounds_are in
    record {
      bounds_are = ap bounds x ∙ ap (λ z. union z (bounds r)) boxes ∙ sym (ap bounds y);
      holds = λ held.
          let g : Holds mid (refitted n q r) = subst (Holds mid) y held in
          let first : get new n ≡ Some (Inner (top p) (top r) (union (bounds p) (bounds r)) (1 + max (height p) (height r))) =
          w.others n (one_apart n at z) ∙ g.0 ∙ ap (λ m. Some (Inner m (top r) (union (bounds q) (bounds r)) (1 + max (height q) (height r)))) (sym tops)
          ∙ ap (λ m. Some (Inner (top p) (top r) (union m (bounds r)) (1 + max (height q) (height r)))) (sym boxes)
          ∙ ap (λ m. Some (Inner (top p) (top r) (union (bounds p) (bounds r)) (1 + max m (height r)))) (sym heights) in
          let done : Holds new (refitted n p r) = (first, low.holds g.1, frame mid new at w.others r free g.2) in
          subst (Holds new) (sym x) done;
    })
    (λ i.
    let ca = counts_within r u at i in
    let cp = counts_within r u parent i in
    let z : one n at ≡ 0 = omega arith in
    let free : count_of l at ≡ 0 = omega arith in
    let low = lifts mid new at parent b raised r u i bal.2 (λ j. let y = whole j in omega arith) w ua up here in
    let x : resized at b (fork n h k l r) ≡ refitted n l (resized at b r) = on_right at b n k h l r bal z free in
    let y : resized parent raised (fork n h k l r) ≡ refitted n l (resized parent raised r) =
    on_right parent raised n k h l r bal (omega arith) (omega arith) in
    let p = resized at b r in
    let q = resized parent raised r in
    let tops : top p ≡ top q = resized_top at b r ∙ sym (resized_top parent raised r) in
    let heights : height p ≡ height q = resized_height at b r bal.2 ∙ sym (resized_height parent raised r bal.2) in
    let boxes : bounds p ≡ bounds q = low.bounds_are in
    record {
      bounds_are = ap bounds x ∙ ap (λ z. union (bounds l) z) boxes ∙ sym (ap bounds y);
      holds = λ held.
          let g : Holds mid (refitted n l q) = subst (Holds mid) y held in
          let first : get new n ≡ Some (Inner (top l) (top p) (union (bounds l) (bounds p)) (1 + max (height l) (height p))) =
          w.others n (one_apart n at z) ∙ g.0 ∙ ap (λ m. Some (Inner (top l) m (union (bounds l) (bounds q)) (1 + max (height l) (height q)))) (sym tops)
          ∙ ap (λ m. Some (Inner (top l) (top p) (union (bounds l) m) (1 + max (height l) (height q)))) (sym boxes)
          ∙ ap (λ m. Some (Inner (top l) (top p) (union (bounds l) (bounds p)) (1 + max (height l) m))) (sym heights) in
          let done : Holds new (refitted n l p) = (first, frame mid new at w.others l free g.1, low.holds g.2) in
          subst (Holds new) (sym x) done;
    })
    v) i

-- the parent and its two children
lifts_parent : (mid new : Slab NodeView) (at parent k : ℕ) (b hu raised : Bounds) (f g : Tree) → Balanced (fork parent hu k f g)
    → ((j : ℕ) → count_of (fork parent hu k f g) j ≤ 1) → Rebounded mid new at b
    → ((top f ≡ at) × (raised ≡ union b (bounds g))) ⊎ ((top g ≡ at) × (raised ≡ union (bounds f) b))
    → Lifts mid new at parent b raised (fork parent hu k f g)
lifts_parent mid new at parent k b hu raised f g bal apart w pick =
    let whole : (j : ℕ) → one parent j + (count_of f j + count_of g j) ≤ 1 = apart in
    let pa = whole at in
    let y : resized parent raised (fork parent hu k f g) ≡ fork parent raised k f g = top_inner raised parent k hu f g in
    ⊎_elim
    (λ c.
    let used : 1 ≤ count_of f at = subst (λ m. 1 ≤ count_of f m) c.0 (top_counted f) in
    let z : one parent at ≡ 0 = omega arith in
    let free : count_of g at ≡ 0 = omega arith in
    let x : resized at b (fork parent hu k f g) ≡ refitted parent (resized at b f) g = on_left at b parent k hu f g bal z free in
    let p = resized at b f in
    let boxes : bounds p ≡ b = top_bounds at b f c.0 in
    let tops : top p ≡ top f = resized_top at b f in
    let heights : height p ≡ height f = resized_height at b f bal.1 in
    let deep : k ≡ 1 + max (height f) (height g) = bal.0.height_is in
    record {
      bounds_are = ap bounds x ∙ ap (λ z. union z (bounds g)) boxes ∙ sym c.1 ∙ sym (ap bounds y);
      holds = λ held.
          let q : Holds mid (fork parent raised k f g) = subst (Holds mid) y held in
          let first : get new parent ≡ Some (Inner (top p) (top g) (union (bounds p) (bounds g)) (1 + max (height p) (height g))) =
          w.others parent (one_apart parent at z) ∙ q.0 ∙ ap (λ m. Some (Inner m (top g) raised k)) (sym tops)
          ∙ ap (λ m. Some (Inner (top p) (top g) m k)) (c.1 ∙ ap (λ z. union z (bounds g)) (sym boxes))
          ∙ ap (λ m. Some (Inner (top p) (top g) (union (bounds p) (bounds g)) m)) (deep ∙ ap (λ z. 1 + max z (height g)) (sym heights)) in
          let done : Holds new (refitted parent p g) =
          (first, written_top mid new at b f c.0 (λ j. let v = whole j in omega arith) w q.1, frame mid new at w.others g free q.2) in
          subst (Holds new) (sym x) done;
    })
    (λ c.
    let used : 1 ≤ count_of g at = subst (λ m. 1 ≤ count_of g m) c.0 (top_counted g) in
    let z : one parent at ≡ 0 = omega arith in
    let free : count_of f at ≡ 0 = omega arith in
    let x : resized at b (fork parent hu k f g) ≡ refitted parent f (resized at b g) = on_right at b parent k hu f g bal z free in
    let p = resized at b g in
    let boxes : bounds p ≡ b = top_bounds at b g c.0 in
    let tops : top p ≡ top g = resized_top at b g in
    let heights : height p ≡ height g = resized_height at b g bal.2 in
    let deep : k ≡ 1 + max (height f) (height g) = bal.0.height_is in
    record {
      bounds_are = ap bounds x ∙ ap (λ z. union (bounds f) z) boxes ∙ sym c.1 ∙ sym (ap bounds y);
      holds = λ held.
          let q : Holds mid (fork parent raised k f g) = subst (Holds mid) y held in
          let first : get new parent ≡ Some (Inner (top f) (top p) (union (bounds f) (bounds p)) (1 + max (height f) (height p))) =
          w.others parent (one_apart parent at z) ∙ q.0 ∙ ap (λ m. Some (Inner (top f) m raised k)) (sym tops)
          ∙ ap (λ m. Some (Inner (top f) (top p) m k)) (c.1 ∙ ap (λ z. union (bounds f) z) (sym boxes))
          ∙ ap (λ m. Some (Inner (top f) (top p) (union (bounds f) (bounds p)) m)) (deep ∙ ap (λ z. 1 + max (height f) z) (sym heights)) in
          let done : Holds new (refitted parent f p) =
          (first, frame mid new at w.others f free q.1, written_top mid new at b g c.0 (λ j. let v = whole j in omega arith) w q.2) in
          subst (Holds new) (sym x) done;
    })
    pick

-- the numbers of the parent and its child
pub parent_counted : (t : Tree) (at parent : ℕ) (b hu raised : Bounds) → Raises t at parent b hu raised → 1 ≤ count_of t parent
parent_counted t at parent b hu raised r =
    let a = counts_within t (fork parent hu r.height r.left r.right) parent r.inside in let o = one_same parent in omega arith

child_counted : (t : Tree) (at parent : ℕ) (b hu raised : Bounds) → (r : Raises t at parent b hu raised)
    → 1 ≤ count_of (fork parent hu r.height r.left r.right) at
child_counted t at parent b hu raised r =
    ⊎_elim (λ c. let used : 1 ≤ count_of r.left at = subst (λ m. 1 ≤ count_of r.left m) c.0 (top_counted r.left) in omega arith)
    (λ c. let used : 1 ≤ count_of r.right at = subst (λ m. 1 ≤ count_of r.right m) c.0 (top_counted r.right) in omega arith) r.child

-- a node is written after those above it
pub written_below : (mid new : Slab NodeView) (at parent : ℕ) (b hu raised : Bounds) (t : Tree) → Balanced t → ((k : ℕ) → count_of t k ≤ 1)
    → Rebounded mid new at b → Raises t at parent b hu raised → Holds mid (resized parent raised t) → Holds new (resized at b t)
written_below mid new at parent b hu raised t bal apart w r held =
    let u = fork parent hu r.height r.left r.right in
    let o = one_same parent in
    let here = lifts_parent mid new at parent r.height b hu raised r.left r.right (balanced_within t u r.inside bal)
    (λ j. let c = counts_within t u j r.inside in let a = apart j in omega arith) w r.child in
    (lifts mid new at parent b raised t u r.inside bal apart w (child_counted t at parent b hu raised r) (omega arith) here).holds held

-- the same where the hull above stays
pub written_inside : (old new : Slab NodeView) (at parent : ℕ) (b hu : Bounds) (t : Tree) → Sound old t → Rebounded old new at b
    → Raises t at parent b hu hu → Holds new (resized at b t)
written_inside old new at parent b hu t s w r =
    written_below old new at parent b hu hu t s.is_tree.balanced s.is_tree.apart w r
    (subst (Holds old) (sym (unchanged t (fork parent hu r.height r.left r.right) r.inside s.is_tree.balanced s.is_tree.apart)) s.holds)

-- a number that shows something is used
pub viewed_counted : (t : Tree) (k : ℕ) (v : NodeView) → view_at t k ≡ Some v → 1 ≤ count_of t k
viewed_counted t k v e = ⊎_elim (λ lt. let z = not_viewed t k (omega arith) in cc) (λ ge. ge) (cases_lt (count_of t k) 1)

-- a leaf that gets another box
pub leaf_resized : (node s : ℕ) (b c : Bounds) (t : Tree) → Balanced t → ((k : ℕ) → count_of t k ≤ 1) → view_at t node ≡ Some (Leaf s c)
    → resized node b t ≡ with_fat node b t
leaf_resized node s b c (tip n sl d) bal apart e = refl
leaf_resized node s b c (fork n h k l r) bal apart e =
    let whole : (j : ℕ) → one n j + (count_of l j + count_of r j) ≤ 1 = apart in
    let a = whole node in
    elim (eqb n node) as (λ x. cond x (Some (view_of (fork n h k l r))) (or_else (view_at l node) (view_at r node)) ≡ Some (Leaf s c)
    → cond x (fork n b k l r) (refitted n (resized node b l) (resized node b r)) ≡ refitted n (with_fat node b l) (with_fat node b r)) [
      | true ↦ λ e. cc
      | false ↦ λ e. or_cases
          (λ v. v ≡ Leaf s c → refitted n (resized node b l) (resized node b r) ≡ refitted n (with_fat node b l) (with_fat node b r))
          (view_at l node) (view_at r node) (Leaf s c)
          (λ v g same.
          let used = viewed_counted l node v g in
          let z : count_of r node ≡ 0 = omega arith in
          ap (λ x. refitted n x (resized node b r)) (leaf_resized node s b c l bal.1 (λ j. let y = whole j in omega arith) (g ∙ ap Some same))
          ∙ ap (λ x. refitted n (with_fat node b l) x) (elsewhere node b r bal.2 z ∙ sym (unmoved node b r bal.2 z)))
          (λ v g same.
          let used = viewed_counted r node v g in
          let z : count_of l node ≡ 0 = omega arith in
          ap (λ x. refitted n x (resized node b r)) (elsewhere node b l bal.1 z ∙ sym (unmoved node b l bal.1 z))
          ∙ ap (λ x. refitted n (with_fat node b l) x)
          (leaf_resized node s b c r bal.2 (λ j. let y = whole j in omega arith) (g ∙ ap Some same))) e refl
    ] e

-- a slab in which a leaf has another box
pub sound_resized : (old new : Slab NodeView) (node s : ℕ) (b c : Bounds) (t : Tree) → Sound old t → view_at t node ≡ Some (Leaf s c)
    → Holds new (resized node b t) → slab_len new ≡ slab_len old → Sound new (with_fat node b t)
sound_resized old new node s b c t sound e held len =
    sound_moved old new node b t sound (subst (Holds new) (leaf_resized node s b c t sound.is_tree.balanced sound.is_tree.apart e) held) len
