-- each clause is a lemma
use Rattle.broad_index.proofs.Renewing.{near_elsewhere, near_without, renewing}
use Rattle.broad_index.proofs.Seeking.{marked_sought}
use Rattle.broad_index.proofs.Touching.{touched_members, renewed}
use Rattle.broad_index.proofs.laws.keeping_laws.Goals as goal

pub returns-clause-inserted : goal.returns-clause-inserted
returns-clause-inserted c = near_elsewhere

pub returns-clause-removed : goal.returns-clause-removed
returns-clause-removed c = near_without

pub returns-clause-touched : goal.returns-clause-touched
returns-clause-touched c = touched_members

pub returns-clause-renewing : goal.returns-clause-renewing
returns-clause-renewing c = renewing

pub returns-clause-marked_sought : goal.returns-clause-marked_sought
returns-clause-marked_sought c = marked_sought

pub returns-clause-renewed : goal.returns-clause-renewed
returns-clause-renewed c = renewed
