-- Each clause is a lemma on lists put in order.
use Rattle.std.specs.List.{Contains}
use Rattle.std.proofs.lemmas.List.Elements.{recursion_from_All, All-contains_itself}
use Rattle.ordered_lists.specs.OrderedLaws.{ordered_moves, length_ordered, ordered_member, filter_ordered, ordered_alike}
use Rattle.ordered_lists.specs.SortedLists.{ordered_sorted, ordered_stable, stably_ordered, only_sorted, only_members, front_is}
use Rattle.ordered_lists.specs.FrontLaws.{joined_ordered, split_ordered, cut_front}
use Rattle.ordered_lists.proofs.laws.order_laws.Goals as goal

pub returns-clause-members : goal.returns-clause-members
returns-clause-members g c = ordered_moves

pub returns-clause-len : goal.returns-clause-len
returns-clause-len g c = length_ordered

pub returns-clause-member : goal.returns-clause-member
returns-clause-member g c = ordered_member

pub returns-clause-rising : goal.returns-clause-rising
returns-clause-rising g c = ordered_sorted

pub returns-clause-stable : goal.returns-clause-stable
returns-clause-stable g c = ordered_stable

pub returns-clause-only_stable : goal.returns-clause-only_stable
returns-clause-only_stable g c = stably_ordered

pub returns-clause-only : goal.returns-clause-only
returns-clause-only g c = only_sorted

pub returns-clause-moved : goal.returns-clause-moved
returns-clause-moved g c = only_members

pub returns-clause-filtered : goal.returns-clause-filtered
returns-clause-filtered g c = filter_ordered

pub returns-clause-alike : goal.returns-clause-alike
returns-clause-alike g c a b xs agree = ordered_alike a b (Contains xs) agree xs (recursion_from_All (Contains xs) xs (All-contains_itself xs))

pub returns-clause-joined : goal.returns-clause-joined
returns-clause-joined g c = joined_ordered

pub returns-clause-split : goal.returns-clause-split
returns-clause-split g c = split_ordered

pub returns-clause-bounded : goal.returns-clause-bounded
returns-clause-bounded g c = cut_front

pub returns-clause-front : goal.returns-clause-front
returns-clause-front g c = front_is
