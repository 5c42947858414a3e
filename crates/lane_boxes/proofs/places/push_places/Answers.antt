-- One bit after the other, from the lowest on.
use Rattle.std.proofs.Common.{◌≡◌, suc, ◌+◌, ◌-◌, ◌/◌, ◌%◌, ◌^◌, ◌<◌, ◌∷◌, [], append_assoc, append-nil, arith, sym, ◌∙◌}
use Rattle.std.proofs.lemmas.Bool.{ne_eqb}
use Rattle.std.proofs.lemmas.Grind.{common_steps}
use Rattle.std.proofs.lemmas.List.Elements.{All-head, All-tail}
use Rattle.lane_boxes.specs.Bits.{set_places}
use Rattle.lane_boxes.proofs.Masks.{none_set, next_set, next_clear, room_left, half_low}
use Rattle.lane_boxes.proofs.places.push_places.Goals as goal
use Rattle.lane_boxes.proofs.places.push_places.Goals.{then-rest-eq1+in_ok-push, else-rest-eq1}

pub overflow_cast-at : goal.overflow_cast-at
overflow_cast-at c =
    let some : 0 < c.bits.rest = omega arith in
    let n = c.args.from + 8 - (c.bits.at + 1) in
    let e : c.args.from + 8 - c.bits.at ≡ suc n = omega (arith, room_left (c.args.from + 8 - c.bits.at) c.bits.rest c.bits.invariant.low some) in
    let small = rw (e, next_set n c.bits.at c.bits.rest c.if-rest-eq1.true) at c.bits.invariant.small in
    record { fits = All-head (λ k. k < 2 ^ 32) c.bits.at (set_places n (c.bits.at + 1) (c.bits.rest / 2)) small }

pub bits-preserved : goal.bits-preserved
bits-preserved c =
    let some : 0 < c.bits.rest = omega arith in
    let n = c.args.from + 8 - (c.bits.at + 1) in
    let e : c.args.from + 8 - c.bits.at ≡ suc n = omega (arith, room_left (c.args.from + 8 - c.bits.at) c.bits.rest c.bits.invariant.low some) in
    let low = rw e at c.bits.invariant.low in
    elim c.if-rest-eq1.branch [
      | then-rest-eq1+in_ok-push w ↦
          let set = next_set n c.bits.at c.bits.rest w.if-rest-eq1.true in
          record {
            after = omega arith;
            left = omega arith;
            low = half_low n c.bits.rest low;
            small = All-tail (λ k. k < 2 ^ 32) c.bits.at (set_places n (c.bits.at + 1) (c.bits.rest / 2)) (rw (e, set) at c.bits.invariant.small);
            whole =
                rw (w.out-is, w.in_ok-push.ensures.items)
                (append_assoc c.bits.out.items (c.bits.at ∷ []) (set_places n (c.bits.at + 1) (c.bits.rest / 2)) ∙ (rw (e, set) at c.bits.invariant.whole));
            kept = rw (w.out-is, w.in_ok-push.ensures.items) (grind (arith, common_steps));
          }
      | else-rest-eq1 w ↦
          let clear = next_clear n c.bits.at c.bits.rest (ne_eqb (c.bits.rest % 2) 1 w.if-rest-eq1.false) in
          record {
            after = omega arith;
            left = omega arith;
            low = half_low n c.bits.rest low;
            small = rw (e, clear) at c.bits.invariant.small;
            whole = rw w.out-is (rw (e, clear) at c.bits.invariant.whole);
            kept = rw w.out-is c.bits.invariant.kept;
          }
    ]

pub returns-clause-ok : goal.returns-clause-ok
returns-clause-ok c =
    let empty = rw (c.bits-test.false, none_set (c.args.from + 8 - c.bits.at) c.bits.at) at c.bits.invariant.whole in
    sym (append-nil c.bits.out.items) ∙ empty
