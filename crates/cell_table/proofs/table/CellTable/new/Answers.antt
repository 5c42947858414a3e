-- Every ring is empty.
use Rattle.slot_lists.specs.SlotMapLaws.{map_blank}
use Rattle.cell_table.proofs.KeptLemmas.{kept_new}
use Rattle.cell_table.proofs.table.CellTable.new.Goals as goal

pub invariant_of-result : goal.invariant_of-result
invariant_of-result c = kept_new c.in_ok-no_keys.field-0.items c.in_ok-nodes.field-0.items c.in_ok-nodes-2.field-0.items c.in_ok-no_counts.field-0.items
    c.in_ok-no_keys.ensures.len c.in_ok-no_keys.ensures.none
    c.in_ok-nodes.ensures.len c.in_ok-nodes-2.ensures.len c.in_ok-nodes.ensures.own c.in_ok-nodes-2.ensures.own
    c.in_ok-no_counts.ensures.len c.in_ok-no_counts.ensures.zero

pub returns : goal.returns
returns c = map_blank c.in_ok-no_keys.field-0.items c.in_ok-no_keys.ensures.none
