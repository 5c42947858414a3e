-- The slot has no lanes of a box.
use Rattle.std.proofs.Common.{◌<◌, ◌∙◌, length, set, sym, subst, arith}
use Rattle.std.proofs.lemmas.List.{length-set}
use Rattle.skin_index.specs.Lanes.{absent, AreLanes}
use Rattle.skin_index.proofs.LaneLaws.{lanes_taken}
use Rattle.skin_index.proofs.laned_boxes.LanedBoxes.take.Goals as goal

pub invariant_of-self : goal.invariant_of-self
invariant_of-self c =
    let lanes = c.self.inside.lanes.items in
    let slot = c.args.slot in
    let within : slot < length lanes = omega (arith, c.self.invariant.0, c.requires.small) in (
      length-set lanes slot c.absent.result ∙ c.self.invariant.0,
      subst (λ l. AreLanes (set lanes slot l) c.take.new.self) (sym c.absent.ensures)
          (subst (AreLanes (set lanes slot absent)) (sym c.take.ensures) (lanes_taken lanes c.self.inside.boxes slot within c.self.invariant.1)),
    )
