-- The front is appended: chosen and sorted, or the whole list sorted.
use Rattle.std.proofs.Common.{◌≡◌, ℕ, ◌≤◌, List, ◌++◌, Result, Ok, Err, OnOk, is_ok, if◌then◌else◌, take, length, ap, subst, ◌∙◌, arith}
use Rattle.std.specs.declared.cmp.Ordering.{Ordering}
use Rattle.std.specs.Cmp.{IsTotalOrder}
use Rattle.std.proofs.lemmas.List.{take_all}
use Rattle.ordered_lists.specs.Ordered.{ordered_by, TiesAreOne, IsFront}
use Rattle.ordered_lists.specs.SortedLists.{front_is, sorted_front}
use Rattle.ordered_lists.proofs.front.push_front_in_order.Goals as goal

exactly : {X T E : Type 0} (cmp : X → X → Ordering) → IsTotalOrder cmp → (want : ℕ) (xs front was now : List X) → IsFront cmp want xs front → (r : Result T E)
    → now ≡ (if is_ok r then was ++ front else was) → TiesAreOne cmp xs → OnOk r (now ≡ was ++ take want (ordered_by cmp xs))
exactly cmp o want xs front was now f (Ok x) e exact = e ∙ ap (λ l. was ++ l) (front_is cmp o want xs front f exact)
exactly cmp o want xs front was now f (Err x) e exact = tt

-- all of a sorted list, where there are no more than are wanted
whole : {X : Type 0} (cmp : X → X → Ordering) (want : ℕ) (xs ys : List X) → IsFront cmp want xs (take want ys) → length ys ≤ want → IsFront cmp want xs ys
whole cmp want xs ys f few = subst (IsFront cmp want xs) (take_all want ys few) f

pub returns-then-want-items-clause-ok : goal.returns-then-want-items-clause-ok
returns-then-want-items-clause-ok g c =
    exactly g.T.Ord.cmp g.met.T.Ord.total c.args.want c.args.items.now c.choose_front.result.now c.args.out.now.items c.extend_from_slice.new.self.items
    c.choose_front.ensures.front c.extend_from_slice.result c.extend_from_slice.ensures.items

pub returns-else-want-items-clause-ok : goal.returns-else-want-items-clause-ok
returns-else-want-items-clause-ok g c =
    exactly g.T.Ord.cmp g.met.T.Ord.total c.args.want c.args.items.now c.sort_unstable.new.self c.args.out.now.items
    c.extend_from_slice-else-want-items.new.self.items
    (whole g.T.Ord.cmp c.args.want c.args.items.now c.sort_unstable.new.self
    (sorted_front g.T.Ord.cmp c.args.want c.args.items.now c.sort_unstable.new.self c.sort_unstable.ensures.permutation c.sort_unstable.ensures.sorted)
    (omega (arith, c.sort_unstable.ensures.len)))
    c.extend_from_slice-else-want-items.result c.extend_from_slice-else-want-items.ensures.items
