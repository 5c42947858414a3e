-- The last node is before the end.
use Rattle.std.proofs.Common.{ap, ◌∙◌, subst}
use Rattle.endpoint_list.specs.declared.TheConstants.{NODES}
use Rattle.endpoint_list.specs.NodeList.{last_of, IsNodeList}
use Rattle.endpoint_list.proofs.NodeLemmas.{node_list}
use Rattle.endpoint_list.proofs.LinkLemmas.{last_read}
use Rattle.endpoint_list.proofs.end_list.EndList.last.Goals as goal

pub returns-clause-last : goal.returns-clause-last
returns-clause-last c = c.neighbour.ensures ∙ last_read _ _ _ NODES c.self.invariant.linked c.self.invariant.below ∙ ap last_of c.self.view_is

pub returns-clause-list : goal.returns-clause-list
returns-clause-list c = subst IsNodeList c.self.view_is (node_list _ _ _ c.self.invariant)
