-- The list of the higher slot has one count more at the pair's place, or is as it was, and at 3 the set of the lower slot has the pair.
use Rattle.std.proofs.Common.{◌<◌, arith, sym, ◌∙◌}
use Rattle.fixed_box.specs.declared.TheConstants.{SLOTS}
use Rattle.overlap_count.proofs.TableLemmas.{raised_full, raised_table, same_sets, counts}
use Rattle.overlap_count.proofs.counts.Counts.raise_apart.Goals as goal

pub invariant_of-self : goal.invariant_of-self
invariant_of-self c =
    let slot : c.args.pair.a < SLOTS = omega (arith, c.requires.order, c.requires.small) in
    same_sets c.self.inside.by_slot.items c.self.inside.full.items c.args.pair.a c.index_mut.result.now c.insert.new.self
    c.self.invariant slot c.index_mut.ensures.value c.in_err-insert.ensures.err

pub invariant_of-self-then-count-eq2 : goal.invariant_of-self-then-count-eq2
invariant_of-self-then-count-eq2 c =
    (raised_full c.self.inside.by_slot.items c.self.inside.full.items c.args.self.now c.args.pair.a c.args.pair.b
    c.index.result.now c.index_mut-then-count-eq2.result.now c.raise_within.new.self c.index_mut.result.now c.insert.new.self
    c.self.invariant c.self.view_is c.requires.order c.requires.small c.index.ensures (sym c.count.ensures.count ∙ c.if-count-eq2.true)
    c.index_mut-then-count-eq2.ensures.value c.raise_within.ensures c.index_mut.ensures.value c.in_ok-insert.ensures.ok).table

pub returns-then-count-eq2-clause-ok : goal.returns-then-count-eq2-clause-ok
returns-then-count-eq2-clause-ok c =
    (raised_full c.self.inside.by_slot.items c.self.inside.full.items c.args.self.now c.args.pair.a c.args.pair.b
    c.index.result.now c.index_mut-then-count-eq2.result.now c.raise_within.new.self c.index_mut.result.now c.insert.new.self
    c.self.invariant c.self.view_is c.requires.order c.requires.small c.index.ensures (sym c.count.ensures.count ∙ c.if-count-eq2.true)
    c.index_mut-then-count-eq2.ensures.value c.raise_within.ensures c.index_mut.ensures.value c.in_ok-insert.ensures.ok).counts

pub returns-then-count-eq2-clause-counts : goal.returns-then-count-eq2-clause-counts
returns-then-count-eq2-clause-counts c =
    counts _ _
    (raised_full c.self.inside.by_slot.items c.self.inside.full.items c.args.self.now c.args.pair.a c.args.pair.b
    c.index.result.now c.index_mut-then-count-eq2.result.now c.raise_within.new.self c.index_mut.result.now c.insert.new.self
    c.self.invariant c.self.view_is c.requires.order c.requires.small c.index.ensures (sym c.count.ensures.count ∙ c.if-count-eq2.true)
    c.index_mut-then-count-eq2.ensures.value c.raise_within.ensures c.index_mut.ensures.value c.in_ok-insert.ensures.ok).table

pub invariant_of-self-2 : goal.invariant_of-self-2
invariant_of-self-2 c =
    raised_table c.raise.result c.self.inside.by_slot.items c.self.inside.full.items c.args.self.now c.args.pair.a c.args.pair.b c.count.result
    c.index.result.now c.index_mut-2.result.now c.raise.new.self c.self.invariant c.self.view_is c.requires.order c.requires.small c.requires.room
    c.index.ensures c.count.ensures.count c.if-count-eq2.false c.index_mut-2.ensures.value c.raise.ensures.ok c.raise.ensures.err

pub returns-clause-counts : goal.returns-clause-counts
returns-clause-counts c =
    counts _ _
    (raised_table c.raise.result c.self.inside.by_slot.items c.self.inside.full.items c.args.self.now c.args.pair.a c.args.pair.b c.count.result
    c.index.result.now c.index_mut-2.result.now c.raise.new.self c.self.invariant c.self.view_is c.requires.order c.requires.small c.requires.room
    c.index.ensures c.count.ensures.count c.if-count-eq2.false c.index_mut-2.ensures.value c.raise.ensures.ok c.raise.ensures.err)
