use Rattle.std.proofs.Common.{◌≡◌, ℕ, ◌<◌, length, slice_index}
use Rattle.cell_table.proofs.rings.nodes.Given as goal

abbrev pub invariant-nodes : goal.invariant-nodes
invariant-nodes l = record {
  len : length l.nodes.items ≡ l.node;
  own : (k : ℕ) → k < l.node → slice_index l.nodes.items k ≡ k;
}
