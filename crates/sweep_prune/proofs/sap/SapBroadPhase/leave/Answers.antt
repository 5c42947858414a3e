-- On all axes the lists and keys are those of the map without the slot.
use Rattle.std.proofs.Common.{◌≡◌, true, ap, sym, subst, ◌∙◌}
use Rattle.std.specs.FinMap.{contains_key, remove}
use Rattle.sweep_prune.specs.Sweep.{SweepKeeps}
use Rattle.sweep_prune.proofs.SweepLemmas.{min_known}
use Rattle.sweep_prune.proofs.LeaveLemmas.{swept_left}
use Rattle.sweep_prune.proofs.sap.SapBroadPhase.leave.Goals as goal

pub quit-requires : goal.quit-requires
quit-requires c = record {
  present = λ axis.
      let k = c.self.invariant c.if-self.false in
      let present : contains_key c.self.inside.plain.bodies c.args.slot ≡ true =
      ap (λ i. contains_key i.bodies c.args.slot) c.self.view_is ∙ c.requires.present (sym (ap (λ i. i.spent) c.self.view_is) ∙ c.if-self.false) in
      min_known c.self.inside.plain.bodies _ _ _ c.self.inside.core.lists c.args.slot true k.1 present axis;
}

pub invariant_of-self : goal.invariant_of-self
invariant_of-self c h =
    let k = c.self.invariant c.if-self.false in (
      c.leave.ensures.spent ∙ k.0,
      subst (λ b. SweepKeeps b c.self.inside.keys.x.items c.self.inside.keys.y.items c.self.inside.keys.z.items c.quit.new.core.lists)
          (sym (c.leave.ensures.gone k.0))
          (subst (λ ls. SweepKeeps (remove c.self.inside.plain.bodies c.args.slot) c.self.inside.keys.x.items c.self.inside.keys.y.items
          c.self.inside.keys.z.items ls) (sym (ap (λ s. s.lists) c.quit.ensures.left))
          (swept_left c.self.inside.plain.bodies _ _ _ c.self.inside.core.lists c.args.slot k.1)),
    )
