-- On all axes the lists and keys are those of the map with the box.
use Rattle.std.proofs.Common.{◌≡◌, false, ap, sym, subst, ◌∙◌, rules, is_err}
use Rattle.std.specs.FinMap.{contains_key}
use Rattle.sweep_prune.specs.Sweep.{SweepKeeps}
use Rattle.sweep_prune.proofs.WalkLemmas.{on_ok_so}
use Rattle.sweep_prune.proofs.SweepLemmas.{min_known}
use Rattle.sweep_prune.proofs.sap.SapBroadPhase.add.Goals as goal

pub enter-requires-clause-absent : goal.enter-requires-clause-absent
enter-requires-clause-absent c axis =
    let k = c.self.invariant c.if-self.false in
    let absent : contains_key c.self.inside.plain.bodies c.args.slot ≡ false = ap (λ i. contains_key i.bodies c.args.slot) c.self.view_is
    ∙ c.requires.absent (sym (ap (λ i. i.spent) c.self.view_is) ∙ c.if-self.false) in
    min_known c.self.inside.plain.bodies _ _ _ c.self.inside.core.lists c.args.slot false k.1 absent axis

pub place_box-placed-requires-clause-ready : goal.place_box-placed-requires-clause-ready
place_box-placed-requires-clause-ready c =
    let k = c.self.invariant c.if-self.false in
    let absent : contains_key c.self.inside.plain.bodies c.args.slot ≡ false = ap (λ i. contains_key i.bodies c.args.slot) c.self.view_is
    ∙ c.requires.absent (sym (ap (λ i. i.spent) c.self.view_is) ∙ c.if-self.false) in
    (c.self.inside.plain.bodies, c.self.inside.core.lists, k.1, absent, ap (λ s. s.lists) c.enter.ensures.entered)

pub invariant_of-self-else-is_err-2 : goal.invariant_of-self-else-is_err-2
invariant_of-self-else-is_err-2 c h =
    let k = c.self.invariant c.if-self.false in
    let absent : contains_key c.self.inside.plain.bodies c.args.slot ≡ false = ap (λ i. contains_key i.bodies c.args.slot) c.self.view_is
    ∙ c.requires.absent (sym (ap (λ i. i.spent) c.self.view_is) ∙ c.if-self.false) in
    let placed : is_err c.place_box-placed.result ≡ false = search rules in
    let added : is_err c.add-added.result ≡ false = search rules in
    let m = on_ok_so c.place_box-placed.result placed c.place_box-placed.ensures c.self.inside.plain.bodies c.self.inside.core.lists k.1 absent
    (ap (λ s. s.lists) c.enter.ensures.entered) in (
      on_ok_so c.add-added.result added c.add-added.ensures.sound,
      subst (λ b. SweepKeeps b c.place_box-placed.new.keys.x.items c.place_box-placed.new.keys.y.items c.place_box-placed.new.keys.z.items
          c.place_box-placed.new.core.lists) (sym (on_ok_so c.add-added.result added c.add-added.ensures.ok)) m.keeps,
    )
