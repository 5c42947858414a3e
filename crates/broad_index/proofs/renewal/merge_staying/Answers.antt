-- The lesser of two first pairs goes first, if it is found or stays.
use Rattle.std.proofs.Common.{◌≡◌, ◌||◌, ◌⊎◌, inl, inr, length, filter, sym, ◌∙◌, arith}
use Rattle.broad_index.specs.Members.{has_pair}
use Rattle.broad_index.specs.Touched.{stays}
use Rattle.broad_index.proofs.Merging.{head, step_left, step_gone, step_right, step_same, ends_up, has_three}
use Rattle.broad_index.specs.PairLaws.{less_precedes, greater_precedes, equal_is}
use Rattle.broad_index.proofs.renewal.merge_staying.Goals.{in_default, in-len1-up+in_default-right}
use Rattle.broad_index.proofs.renewal.merge_staying.Goals as goal

pub merge-preserved-in_ok-push-in-Less : goal.merge-preserved-in_ok-push-in-Less
merge-preserved-in_ok-push-in-Less c =
    rw c.in_ok-push-in-Less.ensures.items
    (step_left (stays c.args.marks.now) c.merge.out.items
    (λ p. has_pair (filter (stays c.args.marks.now) c.args.kept.now) p || has_pair c.args.found.now p)
    c.merge.left.now c.merge.right.now c.in-len1-up.len_at_least c.in-len1-up-right.len_at_least
    (less_precedes (head c.merge.left.now) (head c.merge.right.now) (sym c.cmp.ensures ∙ c.in-Less.is)) (sym c.stays.ensures ∙ c.if-stays.true) c.merge.invariant)

pub merge-preserved-else-stays : goal.merge-preserved-else-stays
merge-preserved-else-stays c =
    step_gone (stays c.args.marks.now) c.merge.out.items (λ p. has_pair (filter (stays c.args.marks.now) c.args.kept.now) p || has_pair c.args.found.now p)
    c.merge.left.now c.merge.right.now c.in-len1-up.len_at_least (sym c.stays.ensures ∙ c.if-stays.false) c.merge.invariant

pub merge-preserved-in-Greater : goal.merge-preserved-in-Greater
merge-preserved-in-Greater c =
    rw c.in_ok-push-in-Greater.ensures.items
    (step_right (stays c.args.marks.now) c.merge.out.items (λ p. has_pair (filter (stays c.args.marks.now) c.args.kept.now) p || has_pair c.args.found.now p)
    c.merge.left.now c.merge.right.now c.in-len1-up.len_at_least c.in-len1-up-right.len_at_least
    (greater_precedes (head c.merge.left.now) (head c.merge.right.now) (sym c.cmp.ensures ∙ c.in-Greater.is)) c.merge.invariant)

pub merge-preserved : goal.merge-preserved
merge-preserved c =
    step_same (stays c.args.marks.now) c.merge.out.items (λ p. has_pair (filter (stays c.args.marks.now) c.args.kept.now) p || has_pair c.args.found.now p)
    c.merge.left.now c.merge.right.now c.in-len1-up.len_at_least c.in-len1-up-right.len_at_least
    (equal_is (head c.merge.left.now) (head c.merge.right.now) (sym c.cmp.ensures ∙ c.in-Equal.is)) c.merge.invariant

pub returns-clause-members : goal.returns-clause-members
returns-clause-members c p =
    rw (c.in_ok-extend_from_slice.ensures.items, c.in_ok-push_staying.ensures.ok)
    (has_three c.merge.out.items (filter (stays c.args.marks.now) c.merge.left.now) c.merge.right.now p ∙ c.merge.invariant.members p)

pub returns-clause-rises : goal.returns-clause-rises
returns-clause-rises c =
    let over : (length c.merge.left.now ≡ 0) ⊎ (length c.merge.right.now ≡ 0) = elim c.if-left-lt1.branch [
      | in_default w ↦ inl (omega (arith, w.in_default.len_below))
      | in-len1-up+in_default-right w ↦ inr (omega (arith, w.in_default-right.len_below))
    ] in
    rw (c.in_ok-extend_from_slice.ensures.items, c.in_ok-push_staying.ensures.ok)
    (ends_up (stays c.args.marks.now) c.merge.out.items (λ p. has_pair (filter (stays c.args.marks.now) c.args.kept.now) p || has_pair c.args.found.now p)
    c.merge.left.now c.merge.right.now c.merge.invariant over)
