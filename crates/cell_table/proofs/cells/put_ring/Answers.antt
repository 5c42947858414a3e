-- The walk goes on through the ring.
use Rattle.std.proofs.Common.{◌≡◌, ◌+◌, ◌-◌, ◌<◌, arith, ap, ◌∙◌, suc, length}
use Rattle.std.proofs.lemmas.Bool.Decides.{nat_tests}
use Rattle.std.proofs.lemmas.List.{length-set}
use Rattle.fixed_box.specs.declared.TheConstants.{SLOTS}
use Rattle.cell_table.specs.Kept.{walk}
use Rattle.cell_table.proofs.RingLemmas.{meet_done, meet_out, put_first, put_met, put_room, walk_end, walk_more, walk_none}
use Rattle.cell_table.proofs.cells.put_ring.Goals as goal

pub ring-init : goal.ring-init
ring-init c =
    let p = put_first c.args.next.now c.args.slots.now c.args.first c.args.place c.from.result c.requires.first
    (λ lt. grind (arith, nat_tests, c.from.ensures)) (λ le. grind (arith, nat_tests, c.from.ensures)) (omega (arith, c.requires.room)) in
    record { room = p.room; met = p.met }

pub ring-preserved : goal.ring-preserved
ring-preserved c =
    let next = c.args.next.now in
    let n = SLOTS - c.ring._step in
    let m = SLOTS - (c.ring._step + 1) in
    let e : n ≡ suc m = omega (arith, c.ring-test.true) in
    let lt : c.ring.later < SLOTS = omega (arith, c.if-later-ge-SLOTS.false) in
    let i = c.ring.invariant in
    let len = length-set c.args.slots.now c.args.place c.args.first in
    let more = ap length (walk_more next n m c.ring.later lt e) in
    record {
      room = put_room next n m c.ring.later c.ring.len _ lt e i.room;
      met = put_met next c.ring.slots n m c.ring.later c.ring.len _ lt e (omega (arith, i.room, more, c.requires.room, c.ring.auto.slots, len)) i.met;
    }

pub returns-after-ring-clause-len : goal.returns-after-ring-clause-len
returns-after-ring-clause-len c =
    let e : SLOTS - c.ring._step ≡ 0 = omega (arith, c.ring-test.false) in
    let none = ap length (ap (λ n. walk c.args.next.now n c.ring.later) e ∙ walk_none c.args.next.now c.ring.later) in
    omega (arith, none, c.ring.invariant.room)

pub returns-after-ring-clause-met : goal.returns-after-ring-clause-met
returns-after-ring-clause-met c =
    meet_out c.args.next.now (SLOTS - c.ring._step) c.ring.later _ _ (omega (arith, c.ring-test.false)) c.ring.invariant.met

pub returns-then-later-ge-SLOTS-clause-len : goal.returns-then-later-ge-SLOTS-clause-len
returns-then-later-ge-SLOTS-clause-len c =
    let none = ap length (walk_end c.args.next.now (SLOTS - c.ring._step) c.ring.later (omega (arith, c.if-later-ge-SLOTS.true))) in
    omega (arith, none, c.ring.invariant.room)

pub returns-then-later-ge-SLOTS-clause-met : goal.returns-then-later-ge-SLOTS-clause-met
returns-then-later-ge-SLOTS-clause-met c =
    meet_done c.args.next.now (SLOTS - c.ring._step) c.ring.later _ _ (omega (arith, c.if-later-ge-SLOTS.true)) c.ring.invariant.met
