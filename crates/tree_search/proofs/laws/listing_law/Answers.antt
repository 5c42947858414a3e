-- Each node adds its leaves.
use Rattle.tree_search.proofs.Preorders.{listed_in}
use Rattle.tree_search.proofs.laws.listing_law.Goals as goal

pub returns : goal.returns
returns c = listed_in
