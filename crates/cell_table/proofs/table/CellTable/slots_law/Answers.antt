-- No key stands behind that of the last slot.
use Rattle.std.proofs.Common.{◌<◌, is_some, sym, ◌∙◌, ap, arith, inl, inr}
use Rattle.std.proofs.lemmas.Bool.{cases_lt, false≢true}
use Rattle.std.specs.FinMap.{get}
use Rattle.fixed_box.specs.declared.TheConstants.{SLOTS}
use Rattle.slot_lists.specs.SlotMapLaws.{get_map}
use Rattle.cell_table.proofs.KeptLemmas.{past}
use Rattle.cell_table.proofs.table.CellTable.slots_law.Goals as goal

pub returns : goal.returns
returns c slot k e =
    let keys = c.self.inside.keys.items in
    elim (cases_lt slot SLOTS) as (λ _. slot < SLOTS) [
      | inl lt ↦ lt
      | inr ge ↦ absurd (false≢true (ap is_some (sym (past keys slot (omega (arith, ge, c.self.invariant.keys_len)))
          ∙ sym (get_map keys slot) ∙ ap (λ m. get m slot) c.self.view_is ∙ e)))
    ]
