-- The slot has the lanes of its box.
use Rattle.std.proofs.Common.{◌<◌, ◌∙◌, Some, length, set, sym, subst, arith}
use Rattle.std.proofs.lemmas.List.{length-set}
use Rattle.skin_index.specs.Lanes.{lanes_of, AreLanes}
use Rattle.skin_index.proofs.LaneLaws.{lanes_put}
use Rattle.skin_index.proofs.laned_boxes.LanedBoxes.set.Goals as goal

pub invariant_of-self : goal.invariant_of-self
invariant_of-self c =
    let lanes = c.self.inside.lanes.items in
    let slot = c.args.slot in
    let within : slot < length lanes = omega (arith, c.self.invariant.0, c.requires.small) in
    let long = length-set lanes slot c.of.result ∙ c.self.invariant.0 in (
      long,
      subst (λ l. AreLanes (set lanes slot l) c.set.new.self) (sym c.of.ensures)
          (subst (AreLanes (set lanes slot (lanes_of (Some c.args.body)))) (sym c.set.ensures)
          (lanes_put lanes c.self.inside.boxes slot within c.self.invariant.1 c.args.body)),
    )
