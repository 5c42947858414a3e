-- The next eight are passed by too.
use Rattle.std.proofs.Common.{◌≡◌, ◌<◌, ◌+◌, ◌*◌, ◌-◌, ◌≤◌, ◌∙◌, All, false, length, subst, sym, take, drop, arith}
use Rattle.fixed_box.specs.Bounds.{meets}
use Rattle.grid_boxes.specs.declared.slot_box.SlotBox.{SlotBox}
use Rattle.grid_boxes.specs.Copies.{stretch}
use Rattle.grid_boxes.proofs.CopyLemmas.{eight_more, passed_by, up_to}
use Rattle.grid_boxes.proofs.box_copies.BoxCopies.next_near.Goals as goal

pub packets-preserved : goal.packets-preserved
packets-preserved c =
    let p = c.packets.packet in
    let body = c.args.body.now in
    let es = c.self.inside.entries.items in
    let packets = c.self.inside.packets.items in
    let P : SlotBox → Type 0 = λ e. meets body e.body ≡ false in
    let test : p < c.min-end.result = c.packets-test.true in
    let there : p < length packets = omega (arith, test, c.min-end.ensures, c.len-2.ensures) in
    let next : 8 * (p + 1) ≡ 8 * p + 8 = omega arith in
    let passed = passed_by body es c.index.result.now (8 * p) (c.index.ensures ∙ c.self.invariant.each p c.index.result.now there)
    (c.is_passed.ensures c.if-is_passed.true) in
    record {
      within = omega (arith, there, c.self.invariant.within);
      passed = subst (λ n. All P (stretch c.args.from n c.args.self.now)) (sym next)
          (eight_more body c.args.self.now c.args.from (8 * p) c.packets.invariant.passed
          (subst (λ l. All P (take 8 (drop (8 * p) l))) c.self.view_is passed));
    }

pub returns-clause-passed : goal.returns-clause-passed
returns-clause-passed c =
    let at = 8 * c.packets.packet in
    let le : c.max.result - c.args.from ≤ at - c.args.from = omega (arith, c.max.ensures) in
    up_to c.args.body.now c.args.self.now c.args.from at c.max.result le c.packets.invariant.passed
