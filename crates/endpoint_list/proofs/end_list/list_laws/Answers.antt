-- By induction on the list, and by its cases.
use Rattle.endpoint_list.specs.NodeLaws.{first_split, has_split, has_middle}
use Rattle.endpoint_list.proofs.end_list.list_laws.Goals as goal

pub returns-clause-cut : goal.returns-clause-cut
returns-clause-cut c node nodes h = has_split node nodes h

pub returns-clause-present : goal.returns-clause-present
returns-clause-present c node before after = has_middle node before after

pub returns-clause-begins : goal.returns-clause-begins
returns-clause-begins c node nodes e = first_split node nodes e
