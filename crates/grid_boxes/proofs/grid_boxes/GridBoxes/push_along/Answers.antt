-- Where no part of the region is reached, no box meets the line.
use Rattle.std.proofs.Common.{◌≡◌, true, Option, subst}
use Rattle.std.proofs.lemmas.Bool.{false≢true}
use Rattle.fixed_box.specs.Bounds.{Bounds}
use Rattle.grid_boxes.specs.Grid.{meets_part}
use Rattle.grid_cells.specs.AppendLaws.{none_where}
use Rattle.grid_boxes.proofs.grid_boxes.GridBoxes.push_along.Goals as goal

pub returns-in-None-clause-ok : goal.returns-in-None-clause-ok
returns-in-None-clause-ok g c =
    none_where _ _ _ (λ q b e m. false≢true (subst (λ (o : Option Bounds). meets_part o b ≡ true) c.in-None.is (c.part_of.ensures q b e m.1.0)))
