-- The first node is behind the end.
use Rattle.std.proofs.Common.{ap, ◌∙◌, subst}
use Rattle.endpoint_list.specs.declared.TheConstants.{NODES}
use Rattle.endpoint_list.specs.NodeList.{first_of, IsNodeList}
use Rattle.endpoint_list.proofs.NodeLemmas.{node_list}
use Rattle.endpoint_list.proofs.LinkLemmas.{first_read}
use Rattle.endpoint_list.proofs.end_list.EndList.first.Goals as goal

pub returns-clause-first : goal.returns-clause-first
returns-clause-first c = c.neighbour.ensures ∙ first_read _ _ NODES _ c.self.invariant.linked c.self.invariant.below ∙ ap first_of c.self.view_is

pub returns-clause-list : goal.returns-clause-list
returns-clause-list c = subst IsNodeList c.self.view_is (node_list _ _ _ c.self.invariant)
