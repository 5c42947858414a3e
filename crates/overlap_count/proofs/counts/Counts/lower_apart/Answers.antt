-- The list of the higher slot has one count less at the pair's place, and the set of the lower slot loses the pair.
use Rattle.std.proofs.Common.{◌≡◌, ◌<◌, arith, sym, ◌∙◌, get_or}
use Rattle.fixed_box.specs.declared.TheConstants.{SLOTS}
use Rattle.overlap_count.proofs.TableLemmas.{lowered_full, counts, read_mark, read_count, within}
use Rattle.overlap_count.proofs.counts.Counts.lower_apart.Goals as goal

three : (c : goal.After-index_mut) → get_or c.index_mut.result.now c.args.pair.a 0 ≡ 3
three c =
    sym (read_count c.self.inside.by_slot.items c.self.inside.full.items c.args.self.now c.args.pair.a c.args.pair.b c.index_mut.result.now
    c.self.invariant c.self.view_is c.requires.order c.requires.small c.index_mut.ensures.value) ∙ c.requires.full

pub lower_within-requires-clause-within : goal.lower_within-requires-clause-within
lower_within-requires-clause-within c =
    within c.index_mut.result.now c.args.pair.a (λ none. absurd (omega (arith, none, three c)))

pub lower_within-requires-clause-above : goal.lower_within-requires-clause-above
lower_within-requires-clause-above c _ none = absurd (omega (arith, none, three c))

pub remove-requires : goal.remove-requires
remove-requires c =
    let slot : c.args.pair.a < SLOTS = omega (arith, c.requires.order, c.requires.small) in
    read_mark c.self.inside.by_slot.items c.self.inside.full.items c.args.self.now c.args.pair.a c.args.pair.b 3
    c.index_mut-2.result.now c.self.invariant c.self.view_is slot c.index_mut-2.ensures.value c.requires.full

pub invariant_of-self : goal.invariant_of-self
invariant_of-self c =
    (lowered_full c.self.inside.by_slot.items c.self.inside.full.items c.args.self.now c.args.pair.a c.args.pair.b
    c.index_mut.result.now c.index_mut.result.now c.lower_within.new.self c.index_mut-2.result.now c.remove.new.self
    c.self.invariant c.self.view_is c.requires.order c.requires.small (λ none. absurd (omega (arith, none, c.requires.full))) c.index_mut.ensures.value
    (sym (read_count c.self.inside.by_slot.items c.self.inside.full.items c.args.self.now c.args.pair.a c.args.pair.b c.index_mut.result.now
    c.self.invariant c.self.view_is c.requires.order c.requires.small c.index_mut.ensures.value) ∙ c.requires.full)
    c.index_mut.ensures.value c.lower_within.ensures c.index_mut-2.ensures.value c.remove.ensures).table

pub returns-clause-lowered : goal.returns-clause-lowered
returns-clause-lowered c =
    (lowered_full c.self.inside.by_slot.items c.self.inside.full.items c.args.self.now c.args.pair.a c.args.pair.b
    c.index_mut.result.now c.index_mut.result.now c.lower_within.new.self c.index_mut-2.result.now c.remove.new.self
    c.self.invariant c.self.view_is c.requires.order c.requires.small (λ none. absurd (omega (arith, none, c.requires.full))) c.index_mut.ensures.value
    (sym (read_count c.self.inside.by_slot.items c.self.inside.full.items c.args.self.now c.args.pair.a c.args.pair.b c.index_mut.result.now
    c.self.invariant c.self.view_is c.requires.order c.requires.small c.index_mut.ensures.value) ∙ c.requires.full)
    c.index_mut.ensures.value c.lower_within.ensures c.index_mut-2.ensures.value c.remove.ensures).counts

pub returns-clause-counts : goal.returns-clause-counts
returns-clause-counts c =
    counts _ _
    (lowered_full c.self.inside.by_slot.items c.self.inside.full.items c.args.self.now c.args.pair.a c.args.pair.b
    c.index_mut.result.now c.index_mut.result.now c.lower_within.new.self c.index_mut-2.result.now c.remove.new.self
    c.self.invariant c.self.view_is c.requires.order c.requires.small (λ none. absurd (omega (arith, none, c.requires.full))) c.index_mut.ensures.value
    (sym (read_count c.self.inside.by_slot.items c.self.inside.full.items c.args.self.now c.args.pair.a c.args.pair.b c.index_mut.result.now
    c.self.invariant c.self.view_is c.requires.order c.requires.small c.index_mut.ensures.value) ∙ c.requires.full)
    c.index_mut.ensures.value c.lower_within.ensures c.index_mut-2.ensures.value c.remove.ensures).table
