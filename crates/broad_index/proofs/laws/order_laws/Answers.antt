-- each clause is a lemma
use Rattle.broad_index.specs.PairLaws.{is_same, self_same, less_precedes, equal_is, greater_precedes}
use Rattle.broad_index.proofs.laws.order_laws.Goals as goal

pub returns-clause-same : goal.returns-clause-same
returns-clause-same c = is_same

pub returns-clause-itself : goal.returns-clause-itself
returns-clause-itself c = self_same

pub returns-clause-less : goal.returns-clause-less
returns-clause-less c = less_precedes

pub returns-clause-equal : goal.returns-clause-equal
returns-clause-equal c = equal_is

pub returns-clause-greater : goal.returns-clause-greater
returns-clause-greater c = greater_precedes
