-- One child shrinks by at most one, and the node is rebalanced.
use Rattle.std.proofs.Common.{◌≡◌, ◌<◌, ◌+◌, ◌-◌, ℕ, List, [], ◌∷◌, take, drop, get_or, length, ap, ◌∙◌, sym, subst, refl, Some, arith, IsSome}
use Rattle.tree_nodes.specs.Path.{Leads}
use Rattle.tree_nodes.specs.Tree.{count_of, one}
use Rattle.tree_nodes.proofs.Adjusted.{adjusted}
use Rattle.tree_nodes.proofs.Frames.{apart_held, writes_none, writes_both}
use Rattle.tree_nodes.proofs.Removing.{onward, parted, step_toward, stay_apart, leaf_cut, removed_rebalance, step_removed, removed_adjust, removed_untouched}
use Rattle.tree_nodes.proofs.linked_nodes.LinkedNodes.+remove_below.Goals as goal

no_items : (xs : List ℕ) → length xs < 1 → xs ≡ []
no_items [] h = refl
no_items (x ∷ xs) h = absurd (omega arith)

pub returns-in_default-clause-there : goal.returns-in_default-clause-there
returns-in_default-clause-there t c node x p =
    let o = onward c.args.self.now c.args.at c.in-Inner.left c.in-Inner.right c.in-Inner.height c.in-Inner.hull node c.args.next c.args.path.now x
    c.toward-down.result p (c.view.ensures ∙ ap Some c.in-Inner.is) c.toward-down.ensures.either c.toward-down.ensures.left c.toward-down.ensures.right in (
      o.1,
      leaf_cut c.args.self.now c.args.at c.toward-down.result.0 c.toward-down.result.1 node x o.0 o.1 o.2
          (subst (λ q. Leads o.0 q node) (no_items c.args.path.now c.in_default.len_below) o.3),
    )

pub remove_below-below-requires : goal.remove_below-below-requires
remove_below-below-requires t c =
    let q = c.requires in
    let o = onward c.args.self.now c.args.at c.in-Inner.left c.in-Inner.right c.in-Inner.height c.in-Inner.hull q.0 c.args.next c.args.path.now q.1
    c.toward-down.result q.2 (c.view.ensures ∙ ap Some c.in-Inner.is) c.toward-down.ensures.either c.toward-down.ensures.left
    c.toward-down.ensures.right in
    let e = parted c.args.path.now c.in-len1-up.len_at_least in (
      subst (λ m. length (take (length c.args.path.now - 1) (drop 1 c.args.path.now)) < m) c.decreases (let l = ap length e in omega arith),
      (
        q.0,
        o.0,
        step_toward c.args.self.now c.args.at c.toward-down.result.0 c.toward-down.result.1 q.0 c.args.next
            (get_or c.args.path.now 0 0) c.args.path.now (take (length c.args.path.now - 1) (drop 1 c.args.path.now)) q.1 o.0 o.1 q.2 o.2 o.3 e,
      ),
    )

pub rebalance-requires : goal.rebalance-requires
rebalance-requires t c =
    let q = c.requires in
    let o = onward c.args.self.now c.args.at c.in-Inner.left c.in-Inner.right c.in-Inner.height c.in-Inner.hull q.0 c.args.next c.args.path.now q.1
    c.toward-down.result q.2 (c.view.ensures ∙ ap Some c.in-Inner.is) c.toward-down.ensures.either c.toward-down.ensures.left
    c.toward-down.ensures.right in
    let e = parted c.args.path.now c.in-len1-up.len_at_least in
    let k = step_toward c.args.self.now c.args.at c.toward-down.result.0 c.toward-down.result.1 q.0 c.args.next (get_or c.args.path.now 0 0) c.args.path.now
    (take (length c.args.path.now - 1) (drop 1 c.args.path.now)) q.1 o.0 o.1 q.2 o.2 o.3 e in
    let g = c.remove_below-below.ensures.there q.0 o.0 k in (
      g.0,
      o.1,
      removed_rebalance c.args.self.now c.remove_below-below.new.self c.args.at
          c.toward-down.result.0 c.toward-down.result.1 c.remove_below-below.result.0 c.remove_below-below.result.1 q.0 c.args.next c.args.path.now q.1 o.0
          o.1 g.0 q.2 o.2 g.1
          ((c.remove_below-below.ensures.writes q.0 o.0 k).kept.here c.args.at (subst IsSome (sym c.view.ensures) refl))
          (apart_held c.args.self.now c.remove_below-below.new.self (λ j. count_of o.0 j) (c.remove_below-below.ensures.writes q.0 o.0 k) o.1
          (stay_apart c.args.self.now c.args.at c.toward-down.result.0 c.toward-down.result.1 q.0 c.args.next c.args.path.now q.1 o.0 o.1 q.2 o.2)
          o.2.stay_kept.holds),
    )

pub returns-in-len1-up-clause-there : goal.returns-in-len1-up-clause-there
returns-in-len1-up-clause-there t c node x p =
    let o = onward c.args.self.now c.args.at c.in-Inner.left c.in-Inner.right c.in-Inner.height c.in-Inner.hull node c.args.next c.args.path.now x
    c.toward-down.result p (c.view.ensures ∙ ap Some c.in-Inner.is) c.toward-down.ensures.either c.toward-down.ensures.left c.toward-down.ensures.right in
    let e = parted c.args.path.now c.in-len1-up.len_at_least in
    let k = step_toward c.args.self.now c.args.at c.toward-down.result.0 c.toward-down.result.1 node c.args.next
    (get_or c.args.path.now 0 0) c.args.path.now (take (length c.args.path.now - 1) (drop 1 c.args.path.now)) x o.0 o.1 p o.2 o.3 e in
    let g = c.remove_below-below.ensures.there node o.0 k in
    let n = removed_rebalance c.args.self.now c.remove_below-below.new.self c.args.at c.toward-down.result.0 c.toward-down.result.1
    c.remove_below-below.result.0 c.remove_below-below.result.1 node c.args.next c.args.path.now x o.0 o.1 g.0 p o.2 g.1
    ((c.remove_below-below.ensures.writes node o.0 k).kept.here c.args.at (subst IsSome (sym c.view.ensures) refl))
    (apart_held c.args.self.now c.remove_below-below.new.self (λ j. count_of o.0 j) (c.remove_below-below.ensures.writes node o.0 k) o.1
    (stay_apart c.args.self.now c.args.at c.toward-down.result.0 c.toward-down.result.1 node c.args.next c.args.path.now x o.0 o.1 p o.2)
    o.2.stay_kept.holds) in
    let w = adjusted c.remove_below-below.new.self c.rebalance.new.self c.args.at c.remove_below-below.result.0 c.toward-down.result.1 c.rebalance.result
    g.0 o.1 (removed_adjust c.remove_below-below.new.self c.args.self.now c.args.at c.toward-down.result.0
    c.toward-down.result.1 c.remove_below-below.result.0 c.remove_below-below.result.1 node x o.0 o.1 g.0 o.2 g.1 n) (c.rebalance.ensures.there g.0 o.1) in (
      w.0,
      step_removed c.args.self.now c.remove_below-below.new.self c.rebalance.new.self c.args.at c.toward-down.result.0 c.toward-down.result.1
          c.remove_below-below.result.0 c.remove_below-below.result.1 c.rebalance.result node x o.0 o.1 g.0 w.0 o.2 g.1 w.1,
    )

pub returns-in-Leaf-clause-writes : goal.returns-in-Leaf-clause-writes
returns-in-Leaf-clause-writes t c node x p = writes_none c.args.self.now (λ k. count_of x k)

pub returns-in_default-clause-writes : goal.returns-in_default-clause-writes
returns-in_default-clause-writes t c node x p = writes_none c.args.self.now (λ k. count_of x k)

pub returns-in-len1-up-clause-writes : goal.returns-in-len1-up-clause-writes
returns-in-len1-up-clause-writes t c node x p =
    let o = onward c.args.self.now c.args.at c.in-Inner.left c.in-Inner.right c.in-Inner.height c.in-Inner.hull node c.args.next c.args.path.now x
    c.toward-down.result p (c.view.ensures ∙ ap Some c.in-Inner.is) c.toward-down.ensures.either c.toward-down.ensures.left c.toward-down.ensures.right in
    let e = parted c.args.path.now c.in-len1-up.len_at_least in
    let k = step_toward c.args.self.now c.args.at c.toward-down.result.0 c.toward-down.result.1 node c.args.next
    (get_or c.args.path.now 0 0) c.args.path.now (take (length c.args.path.now - 1) (drop 1 c.args.path.now)) x o.0 o.1 p o.2 o.3 e in
    let g = c.remove_below-below.ensures.there node o.0 k in
    writes_both c.args.self.now c.remove_below-below.new.self c.rebalance.new.self (λ j. count_of o.0 j)
    (λ j. one c.args.at j + (one c.remove_below-below.result.0 j + one c.toward-down.result.1 j)) (λ j. count_of x j)
    (c.remove_below-below.ensures.writes node o.0 k) c.rebalance.ensures.writes
    (removed_untouched c.args.self.now c.remove_below-below.new.self c.args.at c.toward-down.result.0 c.toward-down.result.1
    c.remove_below-below.result.0 c.remove_below-below.result.1 node x o.0 o.1 g.0 o.2 g.1)
