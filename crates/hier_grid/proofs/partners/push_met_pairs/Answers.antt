-- Each partner makes a pair.
use Rattle.std.proofs.Common.{ap, cond, ◌∙◌, ◌++◌, Some, None, rules}
use Rattle.broad_index.specs.Touched.{ordered}
use Rattle.hier_grid.specs.Listing.{pairs_up}
use Rattle.hier_grid.proofs.PartnerLemmas.{made_pairs}
use Rattle.hier_grid.proofs.partners.push_met_pairs.Goals as goal

pub returns-clause-ok : goal.returns-clause-ok
returns-clause-ok c =
    let own = c.args.own.now in
    c.in_ok-push_filter_mapped.ensures.ok (λ e. cond (pairs_up own c.args.any e) (Some (ordered own.slot e.slot)) None) (λ e r made. search rules)
    ∙ ap (λ l. c.args.out.now.items ++ l) (made_pairs (pairs_up own c.args.any) (λ e. ordered own.slot e.slot) c.args.others.now)
