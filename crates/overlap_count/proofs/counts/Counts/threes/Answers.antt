-- The pairs that were appended are those that count 3, and they rise.
use Rattle.std.proofs.Common.{◌++◌, ◌==◌, ap, ◌∙◌, subst, List, ℕ}
use Rattle.std.proofs.lemmas.Result.{on_ok_weaker}
use Rattle.overlap_count.specs.Counts.{count_of, IsCounts}
use Rattle.overlap_count.specs.FullPairs.{full_pairs, pairs_below}
use Rattle.overlap_count.specs.SlotCounts.{is_marked}
use Rattle.overlap_count.proofs.TableLemmas.{counts}
use Rattle.overlap_count.proofs.PairLemmas.{members, below_rise, marked_full}
use Rattle.overlap_count.proofs.counts.Counts.threes.Goals as goal

pub returns-then-is_err-clause-members : goal.returns-then-is_err-clause-members
returns-then-is_err-clause-members c p =
    members c.args.self.now (subst IsCounts c.self.view_is (counts c.self.inside.by_slot.items c.self.inside.full.items c.self.invariant)) p

pub returns-then-is_err-clause-rises : goal.returns-then-is_err-clause-rises
returns-then-is_err-clause-rises c = below_rise (λ a b. count_of c.args.self.now a b == 3) 8192

pub returns-then-is_err-clause-counts : goal.returns-then-is_err-clause-counts
returns-then-is_err-clause-counts c = subst IsCounts c.self.view_is (counts c.self.inside.by_slot.items c.self.inside.full.items c.self.invariant)

pub returns-else-is_err-clause-ok : goal.returns-else-is_err-clause-ok
returns-else-is_err-clause-ok c =
    on_ok_weaker c.push_sets-pushed.result
    (λ h. h
    ∙ ap (λ (sets : List (List ℕ)). c.args.out.now.items ++ pairs_below (is_marked sets) 8192) c.deref.ensures.value
    ∙ ap (λ l. c.args.out.now.items ++ l) (marked_full c.self.inside.by_slot.items c.self.inside.full.items c.self.invariant)
    ∙ ap (λ by_slot. c.args.out.now.items ++ full_pairs by_slot) c.self.view_is)
    c.push_sets-pushed.ensures.ok

pub returns-else-is_err-clause-members : goal.returns-else-is_err-clause-members
returns-else-is_err-clause-members c p =
    members c.args.self.now (subst IsCounts c.self.view_is (counts c.self.inside.by_slot.items c.self.inside.full.items c.self.invariant)) p

pub returns-else-is_err-clause-rises : goal.returns-else-is_err-clause-rises
returns-else-is_err-clause-rises c = below_rise (λ a b. count_of c.args.self.now a b == 3) 8192

pub returns-else-is_err-clause-counts : goal.returns-else-is_err-clause-counts
returns-else-is_err-clause-counts c = subst IsCounts c.self.view_is (counts c.self.inside.by_slot.items c.self.inside.full.items c.self.invariant)
