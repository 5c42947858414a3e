-- The walk goes on through the ring.
use Rattle.std.proofs.Common.{◌≡◌, arith, ◌∙◌, ap, ◌+◌, ◌-◌, ◌<◌, suc, vec_len, length, ◌∷◌, []}
use Rattle.std.proofs.lemmas.List.{take-append-le, length-take}
use Rattle.fixed_box.specs.declared.TheConstants.{SLOTS}
use Rattle.cell_table.proofs.RingLemmas.{meet_more, meet_done, meet_out}
use Rattle.cell_table.proofs.cells.push_ring.Goals as goal

pub returns-after-ring-clause-ok : goal.returns-after-ring-clause-ok
returns-after-ring-clause-ok c =
    meet_out c.args.next.now (SLOTS - c.ring._step) c.ring.node _ _ (omega (arith, c.ring-test.false)) c.ring.invariant.met

pub returns-then-node-ge-SLOTS-clause-ok : goal.returns-then-node-ge-SLOTS-clause-ok
returns-then-node-ge-SLOTS-clause-ok c =
    meet_done c.args.next.now (SLOTS - c.ring._step) c.ring.node _ _ (omega (arith, c.if-node-ge-SLOTS.true)) c.ring.invariant.met

pub ring-preserved : goal.ring-preserved
ring-preserved c =
    let n = SLOTS - c.ring._step in
    let m = SLOTS - (c.ring._step + 1) in
    let e : n ≡ suc m = omega (arith, c.ring-test.true) in
    let lt : c.ring.node < SLOTS = omega (arith, c.if-node-ge-SLOTS.false) in
    record {
      met = rw c.in_ok-push.ensures.items (meet_more c.args.next.now n m c.ring.node c.ring.out.items _ lt e c.ring.invariant.met);
      kept = rw c.in_ok-push.ensures.items
          (take-append-le (vec_len c.args.out.now) c.ring.out.items (c.ring.node ∷ [])
          (omega (arith, length-take (vec_len c.args.out.now) c.ring.out.items, ap length c.ring.invariant.kept, c.args.out.now.ok.0))
          ∙ c.ring.invariant.kept);
    }
