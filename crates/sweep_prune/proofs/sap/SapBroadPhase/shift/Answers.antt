-- On all axes the lists and keys are those of the map with the new box.
use Rattle.std.proofs.Common.{◌≡◌, true, false, ap, sym, subst, ◌∙◌, rules, is_err}
use Rattle.std.specs.FinMap.{contains_key, get}
use Rattle.sweep_prune.specs.Sweep.{SweepKeeps, SweepMoved}
use Rattle.sweep_prune.proofs.EntryLemmas.{some_is}
use Rattle.sweep_prune.proofs.WalkLemmas.{on_ok_so}
use Rattle.sweep_prune.proofs.sap.SapBroadPhase.shift.Goals as goal

pub move_box-moved-requires-clause-ready : goal.move_box-moved-requires-clause-ready
move_box-moved-requires-clause-ready c =
    let k = c.self.invariant c.if-self.false in (
      c.self.inside.plain.bodies,
      k.1,
      ap (λ i. contains_key i.bodies c.args.slot) c.self.view_is
          ∙ c.requires.present (sym (ap (λ i. i.spent) c.self.view_is) ∙ c.if-self.false),
    )

pub invariant_of-self-2 : goal.invariant_of-self-2
invariant_of-self-2 c h =
    let k = c.self.invariant c.if-self.false in
    let present : contains_key c.self.inside.plain.bodies c.args.slot ≡ true = ap (λ i. contains_key i.bodies c.args.slot) c.self.view_is
    ∙ c.requires.present (sym (ap (λ i. i.spent) c.self.view_is) ∙ c.if-self.false) in
    let was = some_is (get c.self.inside.plain.bodies c.args.slot) present in
    let sound : is_err c.move_box-moved.result ≡ false = search rules in
    let m : SweepMoved c.self.inside.plain.bodies c.args.slot was.0 c.args.body c.move_box-moved.new.keys.x.items c.move_box-moved.new.keys.y.items
    c.move_box-moved.new.keys.z.items c.self.inside.core c.move_box-moved.new.core =
    on_ok_so c.move_box-moved.result sound c.move_box-moved.ensures c.self.inside.plain.bodies was.0 k.1 was.1 in (
      c.shift.ensures.spent ∙ k.0,
      subst (λ b. SweepKeeps b c.move_box-moved.new.keys.x.items c.move_box-moved.new.keys.y.items c.move_box-moved.new.keys.z.items
          c.move_box-moved.new.core.lists) (sym (rw k.0 at c.shift.ensures.bodies)) m.keeps,
    )
