-- Each turn clears the place of the slot in one list more.
use Rattle.std.proofs.Common.{◌+◌, ◌≤◌, ap, sym, ◌∙◌, arith, length, length-set, subst, cond, eqb, ltb, ◌&&◌}
use Rattle.overlap_count.specs.Counts.{count_of}
use Rattle.overlap_count.proofs.TableLemmas.{mark, counts, set_cleared, none_yet, counts_lost, all_lost, higher_table}
use Rattle.overlap_count.proofs.counts.Counts.forget_higher.Goals as goal

pub by_slot-init : goal.by_slot-init
by_slot-init c =
    let by_slot = c.self.inside.by_slot.items in
    let sets = c.self.inside.full.items in
    let slot = c.args.slot in
    record {
      all = c.self.invariant.all;
      all_sets = length-set sets slot c.clear.new.self ∙ c.self.invariant.all_sets;
      small = λ x y. subst (λ l. count_of l x y ≤ 3) c.self.view_is (c.self.invariant.small x y);
      known = ap length (sym c.self.view_is) ∙ c.self.invariant.all;
      marked = λ x y. set_cleared by_slot sets slot c.clear.new.self c.self.invariant c.requires c.clear.ensures x y
          ∙ ap (λ l. cond (eqb x slot) 0 (mark (count_of l x y))) c.self.view_is;
      counts = λ x y. none_yet by_slot slot x y ∙ ap (λ l. cond (eqb x slot && ltb y (slot + 1)) 0 (count_of l x y)) c.self.view_is;
    }

pub by_slot-preserved : goal.by_slot-preserved
by_slot-preserved c =
    let i = c.by_slot.invariant in
    let by_slot = c.by_slot.self-inside.by_slot.items in
    let slot = c.args.slot in
    let b = c.by_slot.b in
    record {
      all = length-set by_slot b c.unset.new.self ∙ i.all;
      all_sets = i.all_sets;
      small = i.small;
      known = i.known;
      marked = i.marked;
      counts = counts_lost by_slot c.args.self.now slot b c.index_mut-in-by_slot.result.now c.unset.new.self (omega (arith, c.by_slot.auto.b))
          (omega (arith, i.all, c.by_slot-test.true)) c.index_mut-in-by_slot.ensures.value c.unset.ensures i.counts;
    }

pub invariant_of-self : goal.invariant_of-self
invariant_of-self c =
    let i = c.by_slot.invariant in
    higher_table c.by_slot.self-inside.by_slot.items c.by_slot.self-inside.full.items c.args.self.now c.args.slot i.all i.all_sets i.small
    (all_lost c.by_slot.self-inside.by_slot.items c.args.self.now c.args.slot c.by_slot.b i.known c.by_slot-test.false i.counts) i.marked

pub returns-clause-forgotten : goal.returns-clause-forgotten
returns-clause-forgotten c =
    let i = c.by_slot.invariant in
    all_lost c.by_slot.self-inside.by_slot.items c.args.self.now c.args.slot c.by_slot.b i.known c.by_slot-test.false i.counts

pub returns-clause-counts : goal.returns-clause-counts
returns-clause-counts c =
    let i = c.by_slot.invariant in
    counts c.by_slot.self-inside.by_slot.items c.by_slot.self-inside.full.items
    (higher_table c.by_slot.self-inside.by_slot.items c.by_slot.self-inside.full.items c.args.self.now c.args.slot i.all i.all_sets i.small
    (all_lost c.by_slot.self-inside.by_slot.items c.args.self.now c.args.slot c.by_slot.b i.known c.by_slot-test.false i.counts) i.marked)
