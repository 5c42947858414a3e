-- The nodes before the present one have been appended.
use Rattle.std.proofs.Common.{◌≡◌, ◌++◌, ◌+◌, ◌-◌, List, ℕ, length, vec_len}
use Rattle.endpoint_list.specs.NodeList.{first_of}
use Rattle.sweep_prune.proofs.lists.push_nodes.Given as goal

abbrev pub invariant-nodes : goal.invariant-nodes
invariant-nodes l = record {
  front : List ℕ;
  back : List ℕ;
  cut : l.list ≡ front ++ back;
  next : l.at ≡ first_of back;
  pushed : l.out.items ≡ l.fn.out.items ++ front;
}

abbrev pub decreases-nodes : goal.decreases-nodes
decreases-nodes l = (length l.list + vec_len l.fn.out) - vec_len l.out
