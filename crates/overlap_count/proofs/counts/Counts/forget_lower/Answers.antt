-- Each turn takes the slot out of the set of one lower slot more.
use Rattle.std.proofs.Common.{◌≡◌, ◌<◌, ◌≤◌, ◌+◌, ◌&&◌, [], ltb, ap, sym, ◌∙◌, arith, length, length-set, cond, eqb, get_or, subst, set}
use Rattle.std.proofs.lemmas.Bool.{and_right, le-ltb}
use Rattle.std.proofs.lemmas.List.{get_or_read}
use Rattle.overlap_count.specs.Counts.{count_of}
use Rattle.overlap_count.specs.SlotCounts.{mark_of}
use Rattle.overlap_count.proofs.TableLemmas.{mark, count_is, still_marked, marks_lost, marks_stay, list_cleared, lower_table}
use Rattle.overlap_count.proofs.counts.Counts.forget_lower.Goals as goal
use Rattle.overlap_count.proofs.counts.Counts.forget_lower.Goals.{then-count-eq3, else-count-eq3}

pub sets-init : goal.sets-init
sets-init c = record {
  same = c.self.view_is;
  all = c.self.invariant.all;
  all_sets = c.self.invariant.all_sets;
  small = c.self.invariant.small;
  marked = λ x y. c.self.invariant.marked x y
      ∙ sym (ap (λ t. cond t 0 (mark (count_of c.self.inside.by_slot.items x y))) (and_right (eqb y c.args.slot) _ (le-ltb x 0 (omega arith))));
}

pub remove-requires : goal.remove-requires
remove-requires c =
    let i = c.sets.invariant in
    let a = c.sets.a in
    let slot = c.args.slot in
    let by_slot = c.sets.self-inside.by_slot.items in
    let count : count_of by_slot a slot ≡ 3 =
    count_is by_slot a slot c.sets-test.true
    ∙ ap (λ l. get_or l a 0) (sym (get_or_read by_slot slot c.index.result.now (omega (arith, i.all, c.requires)) c.index.ensures []))
    ∙ sym c.count.ensures.count ∙ c.if-count-eq3.true in
    still_marked by_slot c.sets.self-inside.full.items a slot c.index_mut.result.now (omega (arith, i.all_sets, c.sets-test.true, c.requires))
    c.index_mut.ensures.value count i.marked

pub sets-preserved : goal.sets-preserved
sets-preserved c =
    let i = c.sets.invariant in
    let a = c.sets.a in
    let slot = c.args.slot in
    let by_slot = c.sets.self-inside.by_slot.items in
    let sets = c.sets.self-inside.full.items in
    let count : c.count.result ≡ count_of by_slot a slot =
    c.count.ensures.count
    ∙ ap (λ l. get_or l a 0) (get_or_read by_slot slot c.index.result.now (omega (arith, i.all, c.requires)) c.index.ensures [])
    ∙ sym (count_is by_slot a slot c.sets-test.true) in
    elim c.if-count-eq3.branch [
      | then-count-eq3 w ↦
          let rows_are : c.if-count-eq3.self-inside.by_slot.items ≡ by_slot = ap (λ s. s.by_slot.items) w.self-inside-is in
          let sets_are : c.if-count-eq3.self-inside.full.items ≡ set sets a w.remove.new.self = ap (λ s. s.full.items) w.self-inside-is in
          let within : a < length sets = omega (arith, i.all_sets, c.sets-test.true, c.requires) in
          record {
            same = rows_are ∙ i.same;
            all = ap length rows_are ∙ i.all;
            all_sets = ap length sets_are ∙ length-set sets a w.remove.new.self ∙ i.all_sets;
            small = λ x y. subst (λ l. count_of l x y ≤ 3) (sym rows_are) (i.small x y);
            marked = λ x y. ap (λ l. mark_of l x y) sets_are
                ∙ marks_lost by_slot sets a slot w.index_mut.result.now w.remove.new.self within w.index_mut.ensures.value w.remove.ensures i.marked x y
                ∙ ap (λ l. cond (eqb y slot && ltb x (a + 1)) 0 (mark (count_of l x y))) (sym rows_are);
          }
      | else-count-eq3 w ↦
          let rows_are : c.if-count-eq3.self-inside.by_slot.items ≡ by_slot = ap (λ s. s.by_slot.items) w.self-inside-is in
          let sets_are : c.if-count-eq3.self-inside.full.items ≡ sets = ap (λ s. s.full.items) w.self-inside-is in
          record {
            same = rows_are ∙ i.same;
            all = ap length rows_are ∙ i.all;
            all_sets = ap length sets_are ∙ i.all_sets;
            small = λ x y. subst (λ l. count_of l x y ≤ 3) (sym rows_are) (i.small x y);
            marked = λ x y. ap (λ l. mark_of l x y) sets_are
                ∙ marks_stay by_slot sets a slot (λ three. w.if-count-eq3.false (count ∙ three)) i.marked x y
                ∙ ap (λ l. cond (eqb y slot && ltb x (a + 1)) 0 (mark (count_of l x y))) (sym rows_are);
          }
    ]

pub invariant_of-self : goal.invariant_of-self
invariant_of-self c =
    let i = c.sets.invariant in
    let by_slot = c.sets.self-inside.by_slot.items in
    lower_table by_slot c.sets.self-inside.full.items (set by_slot c.args.slot c.clear.new.self) c.args.slot c.sets.a
    (length-set by_slot c.args.slot c.clear.new.self ∙ i.all) i.all_sets c.sets-test.false i.small
    (list_cleared by_slot c.args.slot c.clear.new.self (omega (arith, i.all, c.requires)) c.clear.ensures) i.marked

pub returns : goal.returns
returns c x y =
    let i = c.sets.invariant in
    let by_slot = c.sets.self-inside.by_slot.items in
    list_cleared by_slot c.args.slot c.clear.new.self (omega (arith, i.all, c.requires)) c.clear.ensures x y
    ∙ ap (λ l. cond (eqb y c.args.slot) 0 (count_of l x y)) i.same
