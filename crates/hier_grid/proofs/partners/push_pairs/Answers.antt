-- Each partner makes a pair.
use Rattle.std.proofs.Common.{ap, cond, ◌∙◌, ◌++◌, Some, None, rules}
use Rattle.broad_index.specs.Touched.{ordered}
use Rattle.hier_grid.specs.Search.{is_partner}
use Rattle.hier_grid.proofs.PartnerLemmas.{made_pairs}
use Rattle.hier_grid.proofs.partners.push_pairs.Goals as goal

pub returns-clause-ok : goal.returns-clause-ok
returns-clause-ok c =
    let own = c.args.own.now in
    let is_met = is_partner c.args.boxes.now own.slot own.body c.args.any in
    c.in_ok-push_filter_mapped.ensures.ok (λ q. cond (is_met q) (Some (ordered own.slot q)) None) (λ q r made. search rules)
    ∙ ap (λ l. c.args.out.now.items ++ l) (made_pairs is_met (ordered own.slot) c.args.slots.now)
