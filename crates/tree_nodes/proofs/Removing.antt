-- Steps of a removal down a tree and up again.
use Rattle.std.proofs.Common.{◌≡◌, ◌≢◌, ℕ, ◌+◌, ◌<◌, ◌≤◌, ◌-◌, max, Some, IsSome, List, [], ◌∷◌, ◌++◌, get_or, take, drop, length, sym, ap, ◌∙◌}
use Rattle.std.proofs.Common.{subst, arith, ⊎_elim, ◌⊎◌}
use Rattle.std.proofs.lemmas.Bool.{cases_lt}
use Rattle.std.proofs.Math.Seq.{take-length}
use Rattle.std.proofs.lemmas.List.Sorted.{IsPermutation-sym, IsPermutation-trans, IsPermutation-append_left, IsPermutation-cons}
use Rattle.slab.specs.Slab.{Slab, get}
use Rattle.fixed_box.specs.Bounds.{Bounds}
use Rattle.tree_nodes.specs.declared.node_view.NodeView.{NodeView}
use Rattle.tree_nodes.specs.declared.node_view.NodeView.TheVariants.{Inner}
use Rattle.tree_nodes.specs.Parts.{Opened, SameLeaves}
use Rattle.tree_nodes.specs.Path.{ToRemove, Removed, Leads}
use Rattle.tree_nodes.specs.Rotation.{FitsByte, ToRebalance, rebalanced, BalancedNear, ToAdjust}
use Rattle.tree_nodes.specs.Stored.{Holds}
use Rattle.tree_nodes.specs.Tree.{Tree, tip, fork, top, count_of, one, height, Balanced, leaves}
use Rattle.tree_nodes.proofs.Balance.{refitted_balanced, rebalanced_balanced}
use Rattle.tree_nodes.proofs.Frames.{top_free}
use Rattle.tree_nodes.proofs.Opened.{as_it_is, opened_reversed, top_counted}
use Rattle.tree_nodes.proofs.Rebalanced.{rebalanced_counts, rebalanced_leaves, rebalanced_unrotated}
use Rattle.tree_nodes.proofs.Rotations.{children}

-- the tops of inner_of children differ
tops_differ : (at : ℕ) (t d s : Tree) → ((k : ℕ) → count_of t k ≤ 1) → ((k : ℕ) → count_of t k ≡ one at k + (count_of d k + count_of s k)) → top d ≢ top s
tops_differ at t d s apart are same =
    let a : 1 ≤ count_of d (top d) = top_counted d in
    let b : 1 ≤ count_of s (top d) = subst (λ k. 1 ≤ count_of s k) (sym same) (top_counted s) in
    let c = apart (top d) in
    let e = are (top d) in
    absurd (omega arith)

-- the tree that is next, whichever way round
pub onward : (slab : Slab NodeView) (at left right k : ℕ) (hu : Bounds) (node next : ℕ) (rest : List ℕ) (t : Tree) (r : ℕ × ℕ)
    → ToRemove slab at node next rest t → get slab at ≡ Some (Inner left right hu k)
    → (r ≡ (left, right)) ⊎ (r ≡ (right, left)) → (next ≡ left → r.0 ≡ next) → (next ≡ right → r.0 ≡ next)
    → (d : Tree) × (s : Tree) × Opened slab at r.0 r.1 t d s × Leads d rest node
onward slab at left right k hu node next rest t r c e pick on_left on_right =
    let ch = children slab at left right k hu t c.kept e in
    let f = ch.0 in
    let g = ch.1 in
    let tf : top f ≡ left = ch.3.is_at in
    let tg : top g ≡ right = ch.4.is_at in
    let o = as_it_is slab at left right k hu t f g ch.2 ch.3 ch.4 c.balanced in
    let leads : ((top f ≡ next) × Leads f rest node) ⊎ ((top g ≡ next) × Leads g rest node) = subst (λ t. Leads t (next ∷ rest) node) ch.2 c.leads in
    let differ = tops_differ at t f g c.apart o.counts_are in
    ⊎_elim
    (λ w. ⊎_elim
    (λ l. (f, g, subst (λ (q : ℕ × ℕ). Opened slab at q.0 q.1 t f g) (sym w) o, l.1))
    (λ l. let m : r.0 ≡ next = on_right (sym l.0 ∙ tg) in let n : r.0 ≡ left = ap (λ (q : ℕ × ℕ). q.0) w in absurd (differ (tf ∙ sym n ∙ m ∙ sym l.0))) leads)
    (λ w. ⊎_elim
    (λ l. let m : r.0 ≡ next = on_left (sym l.0 ∙ tf) in let n : r.0 ≡ right = ap (λ (q : ℕ × ℕ). q.0) w in absurd (differ (l.0 ∙ sym m ∙ n ∙ sym tg)))
    (λ l. (g, f, subst (λ (q : ℕ × ℕ). Opened slab at q.0 q.1 t g f) (sym w) (opened_reversed slab at left right t f g o), l.1)) leads)
    pick

-- the first step of a path, and what follows
pub parted : (xs : List ℕ) → 1 ≤ length xs → xs ≡ get_or xs 0 0 ∷ take (length xs - 1) (drop 1 xs)
parted [] l = absurd (omega arith)
parted (x ∷ xs) l = let n : length (x ∷ xs) - 1 ≡ length xs = omega arith in ap (λ ys. x ∷ ys) (sym (ap (λ k. take k xs) n ∙ take-length xs))

pub step_toward : (slab : Slab NodeView) (at down stay node next after : ℕ) (path rest : List ℕ) (t d s : Tree) → ToRemove slab at node next path t
    → Opened slab at down stay t d s → Leads d path node → path ≡ after ∷ rest → ToRemove slab down node after rest d
step_toward slab at down stay node next after path rest t d s c o leads e = record {
  kept = o.down_kept;
  balanced = o.down_balanced;
  low = let e = o.height_is in let a = c.low in grind (arith);
  apart = λ k. let a = c.apart k in let u = o.counts_are k in omega arith;
  leads = subst (λ p. Leads d p node) e leads;
}

pub stay_apart : (slab : Slab NodeView) (at down stay node next : ℕ) (path : List ℕ) (t d s : Tree) → ToRemove slab at node next path t
    → Opened slab at down stay t d s → (k : ℕ) → count_of d k + count_of s k ≤ 1
stay_apart slab at down stay node next path t d s c o k = let a = c.apart k in let u = o.counts_are k in omega arith

-- one child shrank by at most one
pub shrunk : (n h : ℕ) (d u s : Tree) → Balanced u → Balanced s → height u ≤ height d → height d ≤ height u + 1 → h ≡ 1 + max (height d) (height s)
    → height d ≤ height s + 1 → height s ≤ height d + 1
    → Balanced (rebalanced n u s) × (height (rebalanced n u s) ≤ h) × (h ≤ height (rebalanced n u s) + 1)
shrunk n h d u s bu bs a b e dl sl =
    let whole : BalancedNear (rebalanced n u s) (max (height u) (height s)) = rebalanced_balanced n u s bu bs (omega arith) (omega arith) in
    ⊎_elim
    (λ (lt : height s < height u + 2).
    let lo : height u ≤ height s + 1 = omega arith in
    let ro : height s ≤ height u + 1 = omega arith in
    subst (λ t. Balanced t × (height t ≤ h) × (h ≤ height t + 1)) (sym (rebalanced_unrotated n u s lo ro))
    (refitted_balanced n u s bu bs lo ro, grind (arith), grind (arith)))
    (λ (ge : height u + 2 ≤ height s).
    let m : max (height u) (height s) ≡ height s = grind (arith) in
    let hh : h ≡ 1 + height s = grind (arith) in
    let w1 = whole.least in let w2 = whole.most in
    (whole.balanced, omega arith, omega arith))
    (cases_lt (height s) (height u + 2))

-- the leaf goes, and its inner node with it
pub leaf_cut : (slab : Slab NodeView) (at down stay node : ℕ) (t d s : Tree) → Opened slab at down stay t d s → Leads d [] node → Removed slab stay node at t s
leaf_cut slab at down stay node t (fork n h k l r) s o leads = absurd leads
leaf_cut slab at down stay node t (tip n sl b) s o leads =
    let e = o.height_is in
    record {
      leaf = record { node = n; slot = sl; fat = b };
      is = leads;
      kept = o.stay_kept;
      leaves_are = o.leaves_are;
      counts_are = λ k. let u = o.counts_are k in let w : one n k ≡ one node k = ap (λ x. one x k) leads in omega arith;
      balanced = o.stay_balanced;
      least = grind (arith);
      most = let a = o.stay_low in let b = o.down_low in grind (arith);
    }

pub removed_rebalance : (old new : Slab NodeView) (at down stay below freed node next : ℕ) (rest : List ℕ) (t d s u : Tree)
    → ToRemove old at node next rest t → Opened old at down stay t d s → Removed new below node freed d u → IsSome (get new at) → Holds new s
    → ToRebalance new at below stay u s
removed_rebalance old new at down stay below freed node next rest t d s u c o p here held =
    let low = c.low in
    let e = o.height_is in
    let least = p.least in
    let du : FitsByte (height u) 2 = grind (arith) in
    let ds : FitsByte (height s) 2 = grind (arith) in
    record {
      parts = record {
        room = here;
        left_kept = p.kept;
        right_kept = record { holds = held; is_at = o.stay_kept.is_at };
        apart = λ k. let a = c.apart k in let e = o.counts_are k in let w = p.counts_are k in omega arith;
        left_small = omega arith;
        right_small = omega arith;
      };
      left_balanced = p.balanced;
      right_balanced = o.stay_balanced;
      left_low = omega arith;
      right_low = omega arith;
    }

pub removed_adjust : (new old : Slab NodeView) (at down stay below freed node : ℕ) (t d s u : Tree) → Opened old at down stay t d s
    → Removed new below node freed d u → ToRebalance new at below stay u s → ToAdjust new at below stay u s
removed_adjust new old at down stay below freed node t d s u o p n =
    let a = p.most in
    let b = p.least in
    let e = o.down_low in
    let f = o.stay_low in
    record { near = n; left_low = omega arith; right_low = omega arith }

pub step_removed : (old mid new : Slab NodeView) (at down stay below freed result node : ℕ) (t d s u w : Tree) → Opened old at down stay t d s
    → Removed mid below node freed d u → SameLeaves new result (rebalanced at u s) w → Removed new result node freed t w
step_removed old mid new at down stay below freed result node t d s u w o p z =
    let g = shrunk at (height t) d u s p.balanced o.stay_balanced p.least p.most o.height_is o.down_low o.stay_low in
    let g1 = g.1 in
    let g2 = g.2 in
    record {
      leaf = p.leaf;
      is = p.is;
      kept = z.kept;
      leaves_are =
          IsPermutation-trans (p.leaf ∷ leaves w) (p.leaf ∷ (leaves u ++ leaves s)) (leaves t)
          (IsPermutation-cons p.leaf (leaves w) (leaves u ++ leaves s) (IsPermutation-sym (leaves u ++ leaves s) (leaves w)
          (IsPermutation-trans (leaves u ++ leaves s) (leaves (rebalanced at u s)) (leaves w) (rebalanced_leaves at u s) z.leaves_are)))
          (IsPermutation-trans ((p.leaf ∷ leaves u) ++ leaves s) (leaves d ++ leaves s) (leaves t)
          (IsPermutation-append_left (leaves s) (p.leaf ∷ leaves u) (leaves d) p.leaves_are) o.leaves_are);
      counts_are = λ k. let f = rebalanced_counts at u s k in let a = o.counts_are k in let b = p.counts_are k in let e = z.counts_are k in omega arith;
      balanced = z.balanced;
      least = let e = z.height_is in omega arith;
      most = let e = z.height_is in omega arith;
    }

-- a number that the tree doesn't have
pub removed_untouched : (old new : Slab NodeView) (at down stay below freed node : ℕ) (t d s u : Tree) → Opened old at down stay t d s
    → Removed new below node freed d u → (k : ℕ) → count_of t k ≡ 0 → (count_of d k ≡ 0) × (one at k + (one below k + one stay k) ≡ 0)
removed_untouched old new at down stay below freed node t d s u o p k none =
    let e = o.counts_are k in
    let w = p.counts_are k in
    let b : one below k ≡ 0 = subst (λ n. one n k ≡ 0) p.kept.is_at (top_free u k (omega arith)) in
    let c : one stay k ≡ 0 = subst (λ n. one n k ≡ 0) o.stay_kept.is_at (top_free s k (omega arith)) in
    (omega arith, omega arith)
