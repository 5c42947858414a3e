-- The walk goes on through the chain, and passes over slots with other keys.
use Rattle.std.proofs.Common.{◌≡◌, arith, sym, ◌∙◌, ap, ◌+◌, ◌-◌, ◌<◌, suc, vec_len, length, ◌∷◌, []}
use Rattle.std.proofs.lemmas.List.{take-append-le, length-take}
use Rattle.fixed_box.specs.declared.TheConstants.{SLOTS}
use Rattle.cell_table.specs.Cells.{same_cell}
use Rattle.cell_table.specs.Kept.{at}
use Rattle.cell_table.proofs.RingLemmas.{pick_yes, pick_no, pick_done, pick_out}
use Rattle.cell_table.proofs.cells.push_chain.Goals as goal
use Rattle.cell_table.proofs.cells.push_chain.Goals.{then-has_key+in_ok-push, else-has_key}

pub returns-after-walk-clause-ok : goal.returns-after-walk-clause-ok
returns-after-walk-clause-ok c =
    pick_out (at (λ k. same_cell k c.args.key.now) c.args.keys.now) c.args.next.now (SLOTS - c.walk._step) c.walk.at _ _
    (omega (arith, c.walk-test.false)) c.walk.invariant.picked

pub returns-then-at-ge-SLOTS-clause-ok : goal.returns-then-at-ge-SLOTS-clause-ok
returns-then-at-ge-SLOTS-clause-ok c =
    pick_done (at (λ k. same_cell k c.args.key.now) c.args.keys.now) c.args.next.now (SLOTS - c.walk._step) c.walk.at _ _
    (omega (arith, c.if-at-ge-SLOTS.true)) c.walk.invariant.picked

pub walk-preserved : goal.walk-preserved
walk-preserved c =
    let q = at (λ k. same_cell k c.args.key.now) c.args.keys.now in
    let n = SLOTS - c.walk._step in
    let m = SLOTS - (c.walk._step + 1) in
    let e : n ≡ suc m = omega (arith, c.walk-test.true) in
    let lt : c.walk.at < SLOTS = omega (arith, c.if-at-ge-SLOTS.false) in
    elim c.if-has_key.branch [
      | then-has_key+in_ok-push w ↦ record {
        picked = rw (w.out-is, w.in_ok-push.ensures.items)
            (pick_yes q c.args.next.now n m c.walk.at c.walk.out.items _ lt e (sym c.has_key.ensures ∙ w.if-has_key.true) c.walk.invariant.picked);
        kept = rw (w.out-is, w.in_ok-push.ensures.items)
            (take-append-le (vec_len c.args.out.now) c.walk.out.items (c.walk.at ∷ [])
            (omega (arith, length-take (vec_len c.args.out.now) c.walk.out.items, ap length c.walk.invariant.kept, c.args.out.now.ok.0))
            ∙ c.walk.invariant.kept);
      }
      | else-has_key w ↦ record {
        picked = rw w.out-is
            (pick_no q c.args.next.now n m c.walk.at c.walk.out.items _ lt e (sym c.has_key.ensures ∙ w.if-has_key.false) c.walk.invariant.picked);
        kept = rw w.out-is c.walk.invariant.kept;
      }
    ]
