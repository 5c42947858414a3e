-- Each clause is a lemma on tables.
use Rattle.live_table.proofs.BodyMaps.{vacated_absent}
use Rattle.live_table.proofs.TableChanges.{slot_small, slot_present, ungiven_map, ungiven_table, moved_map}
use Rattle.live_table.proofs.TableChanges.{moved_table, masked_map, masked_table, grouped_map, grouped_table, put_back_map, put_back_table}
use Rattle.live_table.proofs.laws.map_laws.Goals as goal

pub returns-clause-small : goal.returns-clause-small
returns-clause-small c = slot_small

pub returns-clause-present : goal.returns-clause-present
returns-clause-present c = slot_present

pub returns-clause-ungiven : goal.returns-clause-ungiven
returns-clause-ungiven c = ungiven_map

pub returns-clause-ungiven_table : goal.returns-clause-ungiven_table
returns-clause-ungiven_table c = ungiven_table

pub returns-clause-moved : goal.returns-clause-moved
returns-clause-moved c = moved_map

pub returns-clause-moved_table : goal.returns-clause-moved_table
returns-clause-moved_table c = moved_table

pub returns-clause-masked : goal.returns-clause-masked
returns-clause-masked c = masked_map

pub returns-clause-masked_table : goal.returns-clause-masked_table
returns-clause-masked_table c = masked_table

pub returns-clause-grouped : goal.returns-clause-grouped
returns-clause-grouped c = grouped_map

pub returns-clause-grouped_table : goal.returns-clause-grouped_table
returns-clause-grouped_table c = grouped_table

pub returns-clause-vacant : goal.returns-clause-vacant
returns-clause-vacant c = vacated_absent

pub returns-clause-put_back : goal.returns-clause-put_back
returns-clause-put_back c = put_back_map

pub returns-clause-put_back_table : goal.returns-clause-put_back_table
returns-clause-put_back_table c = put_back_table
