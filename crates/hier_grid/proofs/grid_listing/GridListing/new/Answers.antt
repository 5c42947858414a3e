-- Nothing is listed, and no cells are kept.
use Rattle.std.proofs.Common.{subst, sym}
use Rattle.std.specs.Prelude.{IfSome}
use Rattle.std.proofs.lemmas.Bool.{false≢true}
use Rattle.grid_boxes.specs.Standing.{IsMerged}
use Rattle.hier_grid.proofs.grid_listing.GridListing.new.Goals as goal

pub returns : goal.returns
returns c bodies = record {
  listed = λ e. absurd (false≢true e);
  merged = subst (λ o. IfSome o (IsMerged bodies)) (sym c.new.ensures) tt;
}
