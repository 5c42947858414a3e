-- Steps of an insertion down a tree and up again.
use Rattle.std.proofs.Common.{◌≡◌, ◌⊎◌, ℕ, ◌+◌, ◌<◌, ◌≤◌, max, Some, IsSome, [], ◌∷◌, ◌++◌, refl, sym, ap, ◌∙◌, subst}
use Rattle.std.proofs.Common.{arith, ⊎_elim}
use Rattle.std.proofs.lemmas.Bool.{cases_lt}
use Rattle.std.specs.List.Sorted.{IsPermutation}
use Rattle.std.proofs.lemmas.List.Sorted.{IsPermutation-sym, IsPermutation-trans, IsPermutation-append_comm}
use Rattle.std.proofs.lemmas.List.Sorted.{IsPermutation-append_left, IsPermutation-cons, IsPermutation-to_front}
use Rattle.slab.specs.Slab.{Slab, get}
use Rattle.fixed_box.specs.Bounds.{Bounds, hull}
use Rattle.tree_nodes.specs.declared.node_view.NodeView.{NodeView}
use Rattle.tree_nodes.specs.declared.node_view.NodeView.TheVariants.{Leaf, Inner}
use Rattle.tree_nodes.specs.Parts.{Opened, SameLeaves, height_shown}
use Rattle.tree_nodes.specs.Insertion.{ToInsert, Inserted, IsSame, Alike}
use Rattle.tree_nodes.specs.Moved.{refitted}
use Rattle.tree_nodes.specs.Rotation.{Children, FitsByte, ToRebalance, rebalanced, BalancedNear, ToAdjust}
use Rattle.tree_nodes.specs.Stored.{Holds, StandsAt}
use Rattle.tree_nodes.specs.Tree.{Tree, tip, fork, top, bounds, count_of, one, height, Balanced, IsRefitted, leaves, Leaf as LeafOf}
use Rattle.tree_nodes.proofs.Balance.{refitted_balanced, rebalanced_balanced}
use Rattle.tree_nodes.proofs.Frames.{top_free}
use Rattle.tree_nodes.proofs.Opened.{height_in_slab}
use Rattle.tree_nodes.proofs.Rebalanced.{rebalanced_counts, rebalanced_leaves, rebalanced_unrotated}

-- one child grew by at most one
pub grown_balanced : (n h : ℕ) (d u s : Tree) → BalancedNear u (height d) → Balanced s → h ≡ 1 + max (height d) (height s) → height d ≤ height s + 1
    → height s ≤ height d + 1 → BalancedNear (rebalanced n u s) h
grown_balanced n h d u s g bs e dl sl =
    let a = g.least in
    let b = g.most in
    let whole : BalancedNear (rebalanced n u s) (max (height u) (height s)) = rebalanced_balanced n u s g.balanced bs (omega arith) (omega arith) in
    ⊎_elim
    (λ (lt : height u < height s + 2).
    let lo : height u ≤ height s + 1 = omega arith in
    let ro : height s ≤ height u + 1 = omega arith in
    subst (λ t. BalancedNear t h) (sym (rebalanced_unrotated n u s lo ro))
    (record { balanced = refitted_balanced n u s g.balanced bs lo ro; least = grind (arith); most = grind (arith) }))
    (λ (ge : height s + 2 ≤ height u). let same : max (height u) (height s) ≡ h = grind (arith) in subst (BalancedNear (rebalanced n u s)) same whole)
    (cases_lt (height u) (height s + 2))

pub leaf_children : (slab : Slab NodeView) (at leaf new_parent slot : ℕ) (fat : Bounds) (t : Tree) → ToInsert slab at leaf new_parent slot fat t
    → Children slab new_parent at leaf t (tip leaf slot fat)
leaf_children slab at leaf new_parent slot fat t p = record {
  room = p.room;
  left_kept = p.kept;
  right_kept = record { holds = p.leaf_there; is_at = refl };
  apart = λ k. let a = p.apart k in omega arith;
  left_small = let a = p.low in omega arith;
  right_small = omega arith;
}

pub leaf_inserted : (old new : Slab NodeView) (at leaf new_parent slot : ℕ) (fat : Bounds) (t : Tree) (sl : ℕ) (fa : Bounds)
    → ToInsert old at leaf new_parent slot fat t → get old at ≡ Some (Leaf sl fa) → Holds new (refitted new_parent t (tip leaf slot fat))
    → Inserted new new_parent leaf new_parent slot fat t (refitted new_parent t (tip leaf slot fat))
leaf_inserted old new at leaf new_parent slot fat t sl fa p e h =
    let none : height t ≡ 0 = sym (height_in_slab old at t p.kept) ∙ ap height_shown e in
    record {
      kept = record { holds = h; is_at = refl };
      leaves_are = IsPermutation-sym (leaves t ++ record { node = leaf; slot = slot; fat = fat } ∷ [])
          (record { node = leaf; slot = slot; fat = fat } ∷ leaves t) (IsPermutation-to_front (leaves t) (record { node = leaf; slot = slot; fat = fat }));
      counts_are = λ k. omega arith;
      good = record {
        balanced = refitted_balanced new_parent t (tip leaf slot fat) p.balanced tt (omega arith) (omega arith);
        least = grind (arith);
        most =
            grind (arith);
      };
    }

-- the step down
pub step_down : (slab : Slab NodeView) (at down stay leaf new_parent slot : ℕ) (fat : Bounds) (t d s : Tree) → ToInsert slab at leaf new_parent slot fat t
    → Opened slab at down stay t d s → ToInsert slab down leaf new_parent slot fat d
step_down slab at down stay leaf new_parent slot fat t d s p o = record {
  kept = o.down_kept;
  balanced = o.down_balanced;
  low = let e = o.height_is in let a = p.low in grind (arith);
  leaf_there = p.leaf_there;
  room = p.room;
  apart = λ k. let a = p.apart k in let e = o.counts_are k in omega arith;
}

pub stay_free : (slab : Slab NodeView) (at down stay leaf new_parent slot : ℕ) (fat : Bounds) (t d s : Tree) → ToInsert slab at leaf new_parent slot fat t
    → Opened slab at down stay t d s → (k : ℕ) → (count_of d k + (one leaf k + one new_parent k)) + count_of s k ≤ 1
stay_free slab at down stay leaf new_parent slot fat t d s p o k = let a = p.apart k in let e = o.counts_are k in omega arith

-- the step up
pub step_rebalance : (old new : Slab NodeView) (at down stay below leaf new_parent slot : ℕ) (fat : Bounds) (t d s u : Tree)
    → ToInsert old at leaf new_parent slot fat t → Opened old at down stay t d s → Inserted new below leaf new_parent slot fat d u
    → IsSome (get new at) → Holds new s → ToRebalance new at below stay u s
step_rebalance old new at down stay below leaf new_parent slot fat t d s u p o g here held =
    let most = g.good.most in
    let low = p.low in
    let e = o.height_is in
    let du : FitsByte (height u) 2 = grind (arith) in
    let ds : FitsByte (height s) 2 = grind (arith) in
    record {
      parts = record {
        room = here;
        left_kept = g.kept;
        right_kept = record { holds = held; is_at = o.stay_kept.is_at };
        apart = λ k. let a = p.apart k in let e = o.counts_are k in let w = g.counts_are k in omega arith;
        left_small = omega arith;
        right_small = omega arith;
      };
      left_balanced = g.good.balanced;
      right_balanced = o.stay_balanced;
      left_low = omega arith;
      right_low = omega arith;
    }

-- the leaves of two children, one of which gained a leaf
gained : (x : LeafOf) (t d s u : Tree) → IsPermutation (leaves d ++ leaves s) (leaves t) → IsPermutation (x ∷ leaves d) (leaves u)
    → IsPermutation (x ∷ leaves t) (leaves u ++ leaves s)
gained x t d s u both grown =
    IsPermutation-trans (x ∷ leaves t) (x ∷ (leaves d ++ leaves s)) (leaves u ++ leaves s)
    (IsPermutation-cons x (leaves t) (leaves d ++ leaves s) (IsPermutation-sym (leaves d ++ leaves s) (leaves t) both))
    (IsPermutation-append_left (leaves s) (x ∷ leaves d) (leaves u) grown)

pub step_inserted : (old mid new : Slab NodeView) (at down stay below result leaf new_parent slot : ℕ) (fat : Bounds) (t d s u w : Tree)
    → Opened old at down stay t d s → Inserted mid below leaf new_parent slot fat d u
    → SameLeaves new result (rebalanced at u s) w → Inserted new result leaf new_parent slot fat t w
step_inserted old mid new at down stay below result leaf new_parent slot fat t d s u w o g z =
    let x : LeafOf = record { node = leaf; slot = slot; fat = fat } in
    let y : BalancedNear (rebalanced at u s) (height t) = grown_balanced at (height t) d u s g.good o.stay_balanced o.height_is o.down_low o.stay_low in
    record {
      kept = z.kept;
      leaves_are =
          IsPermutation-trans (x ∷ leaves t) (leaves u ++ leaves s) (leaves w) (gained x t d s u o.leaves_are g.leaves_are)
          (IsPermutation-trans (leaves u ++ leaves s) (leaves (rebalanced at u s)) (leaves w) (rebalanced_leaves at u s) z.leaves_are);
      counts_are = λ k. let f = rebalanced_counts at u s k in let a = o.counts_are k in let b = g.counts_are k in let e = z.counts_are k in omega arith;
      good = record {
        balanced = z.balanced;
        least = let a = y.least in let e = z.height_is in omega arith;
        most = let a = y.most in let e = z.height_is in
            omega arith;
      };
    }

pub step_adjust : (new : Slab NodeView) (old : Slab NodeView) (at down stay below leaf new_parent slot : ℕ) (fat : Bounds) (t d s u : Tree)
    → Opened old at down stay t d s → Inserted new below leaf new_parent slot fat d u → ToRebalance new at below stay u s → ToAdjust new at below stay u s
step_adjust new old at down stay below leaf new_parent slot fat t d s u o g n =
    let a = g.good.most in
    let b = g.good.least in
    let e = o.down_low in
    let f = o.stay_low in
    record { near = n; left_low = omega arith; right_low = omega arith }

pub below_low : (slab : Slab NodeView) (at down stay : ℕ) (t d s : Tree) → StandsAt slab at t → Opened slab at down stay t d s
    → height_shown (get slab down) < height_shown (get slab at)
below_low slab at down stay t d s p o =
    let a : height_shown (get slab at) ≡ height t = height_in_slab slab at t p in
    let b : height_shown (get slab down) ≡ height d = height_in_slab slab down d o.down_kept in
    let e : height t ≡ 1 + max (height d) (height s) = o.height_is in
    grind (arith)

-- what a tree that was opened shows
pub shown_by : (at k : ℕ) (hu : Bounds) (t d s : Tree) → (t ≡ fork at hu k d s) ⊎ (t ≡ fork at hu k s d) → (top t ≡ at) × (bounds t ≡ hu) × (height t ≡ k)
shown_by at k hu t d s e = ⊎_elim (λ w. (ap top w, ap bounds w, ap height w)) (λ w. (ap top w, ap bounds w, ap height w)) e

pub alike_of : (at k : ℕ) (hu : Bounds) (t d s w : Tree) → (t ≡ fork at hu k d s) ⊎ (t ≡ fork at hu k s d) → IsSame w at hu k → Alike t w
alike_of at k hu t d s w e i =
    let z = shown_by at k hu t d s e in
    record { top_is = i.top_is ∙ sym z.0; bounds_is = i.bounds_is ∙ sym z.1; height_is = i.height_is ∙ sym z.2 }

-- a number that neither the tree nor what goes into it has
pub untouched : (old new : Slab NodeView) (at down stay below leaf new_parent slot : ℕ) (fat : Bounds) (t d s u : Tree) → Opened old at down stay t d s
    → Inserted new below leaf new_parent slot fat d u → (k : ℕ) → count_of t k + (one leaf k + one new_parent k) ≡ 0
    → (count_of d k + (one leaf k + one new_parent k) ≡ 0) × (one at k + (one below k + one stay k) ≡ 0)
untouched old new at down stay below leaf new_parent slot fat t d s u o g k none =
    let e = o.counts_are k in
    let w = g.counts_are k in
    let b : one below k ≡ 0 = subst (λ n. one n k ≡ 0) g.kept.is_at (top_free u k (omega arith)) in
    let c : one stay k ≡ 0 = subst (λ n. one n k ≡ 0) o.stay_kept.is_at (top_free s k (omega arith)) in
    (omega arith, omega arith)

-- The child that the leaf went into has the number, the bounds and the height that it had, so the node stays as it is.
refitted_alike : (hu : Bounds) (k : ℕ) (d s u : Tree) → IsRefitted hu k d s → Alike d u → IsRefitted hu k u s
refitted_alike hu k d s u i a = record {
  hull_is = i.hull_is ∙ ap (λ b. hull b (bounds s)) (sym a.bounds_is);
  height_is = i.height_is ∙ ap (λ m. 1 + max m (height s)) (sym a.height_is);
  left_low = let x = i.left_low in let e = a.height_is in omega arith;
  right_low = let x = i.right_low in let e = a.height_is in omega arith;
}

alike_refitted : (hu : Bounds) (k : ℕ) (d s u : Tree) → IsRefitted hu k s d → Alike d u → IsRefitted hu k s u
alike_refitted hu k d s u i a = record {
  hull_is = i.hull_is ∙ ap (λ b. hull (bounds s) b) (sym a.bounds_is);
  height_is = i.height_is ∙ ap (λ m. 1 + max (height s) m) (sym a.height_is);
  left_low = let x = i.left_low in let e = a.height_is in omega arith;
  right_low = let x = i.right_low in let e = a.height_is in omega arith;
}

module _ (old new : Slab NodeView) (at k down stay below leaf new_parent slot : ℕ) (hu fat : Bounds) (t d s u : Tree) (p : StandsAt old at t) (bal : Balanced t)
    (o : Opened old at down stay t d s) (g : Inserted new below leaf new_parent slot fat d u) (a : Alike d u)
    (here : get new at ≡ get old at) (held : Holds new s) where
  grown : IsPermutation (record { node = leaf; slot = slot; fat = fat } ∷ leaves t) (leaves u ++ leaves s)
  grown = gained (record { node = leaf; slot = slot; fat = fat }) t d s u o.leaves_are g.leaves_are

  still_left : t ≡ fork at hu k d s → (w : Tree) × Inserted new at leaf new_parent slot fat t w × Alike t w
  still_left e =
      let q = subst (StandsAt old at) e p in
      let b = subst Balanced e bal in
      let same : height t ≡ k = ap height e in (
        fork at hu k u s,
        record {
          kept = record {
            holds = (here ∙ q.holds.0 ∙ ap (λ m. Some (Inner m (top s) hu k)) (sym a.top_is), subst (Holds new) refl g.kept.holds, held);
            is_at = refl;
          };
          leaves_are = grown;
          counts_are = λ n. let f = o.counts_are n in let w = g.counts_are n in omega arith;
          good = record {
            balanced = (refitted_alike hu k d s u b.0 a, g.good.balanced, o.stay_balanced);
            least = omega arith;
            most = omega arith;
          };
        },
        record { top_is = sym (ap top e); bounds_is = sym (ap bounds e); height_is = sym (ap height e) },
      )

  still_right : t ≡ fork at hu k s d → (w : Tree) × Inserted new at leaf new_parent slot fat t w × Alike t w
  still_right e =
      let x : LeafOf = record { node = leaf; slot = slot; fat = fat } in
      let q = subst (StandsAt old at) e p in
      let b = subst Balanced e bal in
      let same : height t ≡ k = ap height e in (
        fork at hu k s u,
        record {
          kept = record {
            holds = (here ∙ q.holds.0 ∙ ap (λ m. Some (Inner (top s) m hu k)) (sym a.top_is), held, subst (Holds new) refl g.kept.holds);
            is_at = refl;
          };
          leaves_are = IsPermutation-trans (x ∷ leaves t) (leaves u ++ leaves s) (leaves s ++ leaves u) grown (IsPermutation-append_comm (leaves u) (leaves s));
          counts_are = λ n. let f = o.counts_are n in let w = g.counts_are n in omega arith;
          good = record {
            balanced = (alike_refitted hu k d s u b.0 a, o.stay_balanced, g.good.balanced);
            least = omega arith;
            most = omega arith;
          };
        },
        record { top_is = sym (ap top e); bounds_is = sym (ap bounds e); height_is = sym (ap height e) },
      )

  pub still_inserted : (t ≡ fork at hu k d s) ⊎ (t ≡ fork at hu k s d) → (w : Tree) × Inserted new at leaf new_parent slot fat t w × Alike t w
  still_inserted e = ⊎_elim still_left still_right e
