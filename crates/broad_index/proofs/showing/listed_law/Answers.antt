-- each clause is a lemma
use Rattle.broad_index.proofs.Shown.{at_filtered}
use Rattle.broad_index.proofs.showing.listed_law.Goals as goal

pub returns : goal.returns
returns c = at_filtered
