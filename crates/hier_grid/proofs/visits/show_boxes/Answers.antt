-- Where there is no hull there is no box.
use Rattle.std.proofs.Common.{◌≡◌, true, [], ◌++◌, append-nil, ap, sym, subst, ◌∙◌}
use Rattle.std.proofs.lemmas.Bool.{false≢true}
use Rattle.std.specs.Prelude.{IsTrue}
use Rattle.std.specs.FinMap.{entries, get}
use Rattle.grid_cells.specs.Sized.{is_held}
use Rattle.hier_grid.proofs.VisitLemmas.{all_in, none_in}
use Rattle.hier_grid.proofs.visits.show_boxes.Goals as goal

pub returns-in_default-clause-seen : goal.returns-in_default-clause-seen
returns-in_default-clause-seen g c seen before =
    let bodies = c.args.grid.now in
    let nothing : entries bodies ≡ [] =
    sym (all_in bodies) ∙ none_in (λ _. true) bodies (λ k b e. absurd (false≢true (subst (λ hull. IsTrue (is_held hull b)) c.in_default.is
    (c.hull.ensures k b (ap (λ m. get m k) c.kept.ensures ∙ e))))) in
    subst (g.V.Visitor.saw c.args.visitor.now) (sym (ap (λ l. seen ++ l) nothing ∙ append-nil seen)) before
