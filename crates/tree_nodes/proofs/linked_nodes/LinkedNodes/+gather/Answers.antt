-- The leaves of the first child come before those of the second.
use Rattle.std.proofs.Common.{◌≡◌, ◌<◌, ◌+◌, cond, [], ◌∷◌, ◌++◌, length, ap, ◌∙◌, subst, Some, arith, length-append, vec_capacity}
use Rattle.slab.specs.Slab.{get}
use Rattle.tree_nodes.specs.Parts.{height_shown}
use Rattle.tree_nodes.specs.Tree.{height}
use Rattle.tree_nodes.proofs.Gathering.{first_room, second_room, more_keys, more_inner}
use Rattle.tree_nodes.proofs.Heights.{some_leaf}
use Rattle.tree_nodes.proofs.Paths.{both_below, falls}
use Rattle.tree_nodes.proofs.linked_nodes.LinkedNodes.+gather.Goals as goal

pub unwrap-requires-in-Inner : goal.unwrap-requires-in-Inner
unwrap-requires-in-Inner t c =
    let q = c.requires in c.push-in-Inner.ensures.succeeds (let r = q.3 in let s = some_leaf q.0 in omega (arith, r, s))

pub gather-requires : goal.gather-requires
gather-requires t c =
    let q = c.requires in
    let o = both_below c.args.self.now c.args.at c.in-Inner.left c.in-Inner.right c.in-Inner.height c.in-Inner.hull q.0 q.1
    (c.view.ensures ∙ ap Some c.in-Inner.is) in
    let pushed : c.push-in-Inner.new.self.items ≡ c.args.inner.now.items ++ c.args.at ∷ [] = c.push-in-Inner.ensures.items ∙ ap
    (λ b. cond b (c.args.inner.now.items ++ c.args.at ∷ []) c.args.inner.now.items)
    (c.push-in-Inner.ensures.succeeds (let r = q.3 in let s = some_leaf q.0 in omega (arith, r, s))) in
    let longer : length c.push-in-Inner.new.self.items ≡ length c.args.inner.now.items + 1 = ap length pushed ∙ length-append c.args.inner.now.items
    (c.args.at ∷ []) in (
      subst (λ m. height_shown (get c.args.self.now c.in-Inner.left) < m) c.decreases
          (falls c.args.self.now c.args.at c.in-Inner.left c.in-Inner.height q.0 o.0 q.1 o.3 (ap height o.2) o.5),
      (
        o.0,
        o.3,
        first_room c.args.at c.in-Inner.height (length c.args.keys.now.items) (vec_capacity c.args.keys.now) (length c.args.keys.now.items)
            (vec_capacity c.args.keys.now) c.in-Inner.hull q.0 o.0 o.1 o.2 q.2 (omega arith) (omega arith),
        first_room c.args.at c.in-Inner.height (length c.args.inner.now.items) (vec_capacity c.args.inner.now) (length c.push-in-Inner.new.self.items)
            (vec_capacity c.push-in-Inner.new.self) c.in-Inner.hull q.0 o.0 o.1 o.2 q.3 (omega (arith, longer)) c.push-in-Inner.ensures.capacity,
      ),
    )

pub gather-requires-in-Inner : goal.gather-requires-in-Inner
gather-requires-in-Inner t c =
    let q = c.requires in
    let o = both_below c.args.self.now c.args.at c.in-Inner.left c.in-Inner.right c.in-Inner.height c.in-Inner.hull q.0 q.1
    (c.view.ensures ∙ ap Some c.in-Inner.is) in
    let pushed : c.push-in-Inner.new.self.items ≡ c.args.inner.now.items ++ c.args.at ∷ [] = c.push-in-Inner.ensures.items ∙ ap
    (λ b. cond b (c.args.inner.now.items ++ c.args.at ∷ []) c.args.inner.now.items)
    (c.push-in-Inner.ensures.succeeds (let r = q.3 in let s = some_leaf q.0 in omega (arith, r, s))) in
    let a = c.push-in-Inner.ensures.capacity in
    let b = c.gather.ensures.inner_room in (
      subst (λ m. height_shown (get c.args.self.now c.in-Inner.right) < m) c.decreases
          (falls c.args.self.now c.args.at c.in-Inner.right c.in-Inner.height q.0 o.1 q.1 o.4 (ap height o.2) o.6),
      (
        o.1,
        o.4,
        second_room c.args.at c.in-Inner.height (length c.args.keys.now.items) (vec_capacity c.args.keys.now) (length c.gather.new.keys.items)
            (vec_capacity c.gather.new.keys) c.in-Inner.hull q.0 o.0 o.1 o.2 q.2
            (more_keys c.args.keys.now.items c.gather.new.keys.items o.0 (c.gather.ensures.leaves o.0 o.3)) c.gather.ensures.keys_room,
        second_room c.args.at c.in-Inner.height (length c.args.inner.now.items) (vec_capacity c.args.inner.now) (length c.gather.new.inner.items)
            (vec_capacity c.gather.new.inner) c.in-Inner.hull q.0 o.0 o.1 o.2 q.3
            (more_inner c.args.at c.args.inner.now.items c.push-in-Inner.new.self.items c.gather.new.inner.items o.0 pushed
            (c.gather.ensures.inner o.0 o.3)) (omega (arith, a, b)),
      ),
    )
