-- each clause is a lemma
use Rattle.broad_index.proofs.ExchangeCounts.{added_few, shifted_few}
use Rattle.broad_index.proofs.laws.exchange_laws.Goals as goal

pub returns-clause-added : goal.returns-clause-added
returns-clause-added c = added_few

pub returns-clause-shifted : goal.returns-clause-shifted
returns-clause-shifted c = shifted_few
