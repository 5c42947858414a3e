-- This slot is done, and those below it stay so. No slot above all has a box, or a cell.
use Rattle.std.proofs.Common.{◌≡◌, option_map, ap, sym, ◌∙◌, inl, inr, arith}
use Rattle.std.proofs.lemmas.Bool.{cases_lt}
use Rattle.std.specs.FinMap.{get}
use Rattle.fixed_box.specs.declared.TheConstants.{SLOTS}
use Rattle.fixed_box.proofs.Numbers.{nat_next}
use Rattle.grid_cells.specs.Cells.{standing_cell}
use Rattle.grid_boxes.proofs.StandingLemmas.{absent}
use Rattle.grid_boxes.proofs.standing_cells.settle_cells.Goals as goal

pub slots-init : goal.slots-init
slots-init c = record { bound = omega arith; done = λ s lt. absurd (omega (arith, lt)) }

pub slots-preserved : goal.slots-preserved
slots-preserved c =
    let kept = c.args.kept.now in
    let f = standing_cell c.args.floor in
    let new = c.settle_cell.new.cells in
    record {
      bound = omega (arith, c.slots-test.true);
      done = λ s lt. elim (nat_next s c.slots.slot lt) as (λ _. get new s ≡ option_map f (get kept s)) [
        | inl lower ↦ c.settle_cell.ensures.others s (λ e. omega (arith, lower, e)) ∙ c.slots.invariant.done s lower
        | inr at ↦ ap (get new) at ∙ c.settle_cell.ensures.here ∙ ap (λ m. option_map f (get m c.slots.slot)) c.boxes.ensures
            ∙ sym (ap (λ n. option_map f (get kept n)) at)
      ];
    }

pub returns : goal.returns
returns c s =
    let kept = c.args.kept.now in
    let f = standing_cell c.args.floor in
    elim (cases_lt s SLOTS) as (λ _. get c.slots.cells s ≡ option_map f (get kept s)) [
      | inl lt ↦ c.slots.invariant.done s (omega (arith, lt, c.slots-test.false))
      | inr ge ↦ absent (get c.slots.cells s) (λ k e. let l = c.slots_law-2.ensures s k e in omega (arith, l, ge))
          ∙ sym (ap (option_map f) (absent (get kept s) (λ b e. let l = c.slots_law.ensures s b e in omega (arith, l, ge))))
    ]
