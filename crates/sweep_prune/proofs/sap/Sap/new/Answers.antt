-- Empty lists are those of the empty map.
use Rattle.std.proofs.Common.{ap, sym, subst, rules}
use Rattle.std.specs.FinMap.{empty}
use Rattle.sweep_prune.specs.declared.axis.Axis.TheVariants.{X, Y, Z}
use Rattle.sweep_prune.specs.Keyed.{coord}
use Rattle.sweep_prune.specs.Sweep.{SweepKeeps}
use Rattle.sweep_prune.proofs.LeaveLemmas.{axis_empty}
use Rattle.sweep_prune.proofs.sap.Sap.new.Goals as goal

pub invariant_of-result : goal.invariant_of-result
invariant_of-result c h = (
  c.in_ok-plain.ensures.sound,
  subst (λ b. SweepKeeps b c.in_ok-x.x.items c.in_ok-y.y.items c.in_ok-z.z.items c.in_ok-core.core.lists) (sym c.in_ok-plain.ensures.none)
      (subst (λ ls. SweepKeeps empty c.in_ok-x.x.items c.in_ok-y.y.items c.in_ok-z.z.items ls) (sym (ap (λ s. s.lists) c.in_ok-core.ensures))
      (record {
        on_x = axis_empty (coord X) c.in_ok-x.x.items (search rules);
        on_y = axis_empty (coord Y) c.in_ok-y.y.items (search rules);
        on_z = axis_empty (coord Z) c.in_ok-z.z.items (search rules);
      })),
)
