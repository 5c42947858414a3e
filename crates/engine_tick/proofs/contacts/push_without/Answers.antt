-- the lesser of two first pairs is passed: of the one list it is told, and of the other it is not sought any more
use Rattle.std.proofs.Common.{sym, ap, ◌∙◌, arith}
use Rattle.broad_index.specs.Members.{same_pair}
use Rattle.engine_tick.proofs.Differences.{head, step_less, step_greater, step_equal, left_ended, right_ended}
use Rattle.engine_tick.proofs.contacts.push_without.Goals as goal
use Rattle.engine_tick.proofs.contacts.push_without.Goals.{in_default, in-len1-up+in_default-right}

pub left-preserved-in-Less : goal.left-preserved-in-Less
left-preserved-in-Less c =
    rw c.in_ok-push-in-Less.ensures.items
    (step_less c.left.out.items c.left.left.now c.left.right.now _ c.in-len1-up.len_at_least c.in-len1-up-right.len_at_least
    (c.order_laws.ensures.less (head c.left.left.now) (head c.left.right.now) (sym c.cmp.ensures ∙ c.in-Less.is)) c.left.invariant)

pub left-preserved-in-Greater : goal.left-preserved-in-Greater
left-preserved-in-Greater c =
    step_greater c.left.out.items c.left.left.now c.left.right.now _ c.in-len1-up.len_at_least c.in-len1-up-right.len_at_least
    (c.order_laws.ensures.greater (head c.left.left.now) (head c.left.right.now) (sym c.cmp.ensures ∙ c.in-Greater.is)) c.left.invariant

pub left-preserved : goal.left-preserved
left-preserved c =
    step_equal c.left.out.items c.left.left.now c.left.right.now _ c.in-len1-up.len_at_least c.in-len1-up-right.len_at_least
    (ap (same_pair (head c.left.left.now)) (sym (c.order_laws.ensures.equal (head c.left.left.now) (head c.left.right.now) (sym c.cmp.ensures ∙ c.in-Equal.is)))
    ∙ c.order_laws.ensures.itself (head c.left.left.now)) c.left.invariant

pub returns : goal.returns
returns c =
    c.in_ok-extend_from_slice.ensures.items
    ∙ elim c.if-left-lt1.branch [
      | in_default w ↦ let h = w.in_default in left_ended c.left.out.items c.left.left.now c.left.right.now _ (omega arith) c.left.invariant
      | in-len1-up+in_default-right w ↦
          let h = w.in_default-right in right_ended c.left.out.items c.left.left.now c.left.right.now _ (omega arith) c.left.invariant
    ]
