-- The list of the higher slot has another count at the pair's place, or all is as it was.
use Rattle.std.proofs.Common.{sym, ◌∙◌}
use Rattle.overlap_count.proofs.TableLemmas.{counts, raised_in_place}
use Rattle.overlap_count.proofs.counts.Counts.raise_if.Goals as goal

pub invariant_of-self : goal.invariant_of-self
invariant_of-self c =
    (raised_in_place c.args.rises c.self.inside.by_slot.items c.self.inside.full.items c.args.self.now c.args.pair.a c.args.pair.b
    c.index.result.now c.index_mut.result.now c.raise_within.new.self c.self.invariant c.self.view_is c.requires.order c.requires.small c.requires.room
    c.index.ensures (sym c.raises_within.ensures ∙ c.if-raises_within.true) c.index_mut.ensures.value c.raise_within.ensures).table

pub returns-then-raises_within-clause-ok : goal.returns-then-raises_within-clause-ok
returns-then-raises_within-clause-ok c =
    (raised_in_place c.args.rises c.self.inside.by_slot.items c.self.inside.full.items c.args.self.now c.args.pair.a c.args.pair.b
    c.index.result.now c.index_mut.result.now c.raise_within.new.self c.self.invariant c.self.view_is c.requires.order c.requires.small c.requires.room
    c.index.ensures (sym c.raises_within.ensures ∙ c.if-raises_within.true) c.index_mut.ensures.value c.raise_within.ensures).counts

pub returns-then-raises_within-clause-counts : goal.returns-then-raises_within-clause-counts
returns-then-raises_within-clause-counts c =
    counts _ _
    (raised_in_place c.args.rises c.self.inside.by_slot.items c.self.inside.full.items c.args.self.now c.args.pair.a c.args.pair.b
    c.index.result.now c.index_mut.result.now c.raise_within.new.self c.self.invariant c.self.view_is c.requires.order c.requires.small c.requires.room
    c.index.ensures (sym c.raises_within.ensures ∙ c.if-raises_within.true) c.index_mut.ensures.value c.raise_within.ensures).table
