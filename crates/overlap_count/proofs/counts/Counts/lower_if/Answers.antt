-- The list of the higher slot has another count at the pair's place, or all is as it was.
use Rattle.std.proofs.Common.{sym, ◌∙◌}
use Rattle.overlap_count.proofs.TableLemmas.{counts, lowered_in_place, apart_is_full}
use Rattle.overlap_count.proofs.counts.Counts.lower_if.Goals as goal

pub invariant_of-self : goal.invariant_of-self
invariant_of-self c =
    (lowered_in_place c.args.lowers c.self.inside.by_slot.items c.self.inside.full.items c.args.self.now c.args.pair.a c.args.pair.b
    c.index.result.now c.index_mut.result.now c.lower_within.new.self c.self.invariant c.self.view_is c.requires.order c.requires.small c.requires.above
    c.index.ensures (sym c.lowers_within.ensures ∙ c.if-lowers_within.true) c.index_mut.ensures.value c.lower_within.ensures).table

pub returns-then-lowers_within-clause-lowered : goal.returns-then-lowers_within-clause-lowered
returns-then-lowers_within-clause-lowered c =
    (lowered_in_place c.args.lowers c.self.inside.by_slot.items c.self.inside.full.items c.args.self.now c.args.pair.a c.args.pair.b
    c.index.result.now c.index_mut.result.now c.lower_within.new.self c.self.invariant c.self.view_is c.requires.order c.requires.small c.requires.above
    c.index.ensures (sym c.lowers_within.ensures ∙ c.if-lowers_within.true) c.index_mut.ensures.value c.lower_within.ensures).counts

pub returns-then-lowers_within-clause-counts : goal.returns-then-lowers_within-clause-counts
returns-then-lowers_within-clause-counts c =
    counts _ _
    (lowered_in_place c.args.lowers c.self.inside.by_slot.items c.self.inside.full.items c.args.self.now c.args.pair.a c.args.pair.b
    c.index.result.now c.index_mut.result.now c.lower_within.new.self c.self.invariant c.self.view_is c.requires.order c.requires.small c.requires.above
    c.index.ensures (sym c.lowers_within.ensures ∙ c.if-lowers_within.true) c.index_mut.ensures.value c.lower_within.ensures).table

pub lower_apart-requires-clause-full : goal.lower_apart-requires-clause-full
lower_apart-requires-clause-full c =
    apart_is_full c.args.lowers c.self.inside.by_slot.items c.self.inside.full.items c.args.self.now c.args.pair.a c.args.pair.b
    c.index.result.now c.self.invariant c.self.view_is c.requires.order c.requires.small c.requires.above
    c.index.ensures (sym c.lowers_within.ensures ∙ c.if-lowers_within.false) c.if-lowers.true
