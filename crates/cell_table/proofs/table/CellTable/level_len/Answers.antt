-- The number that is kept is that of the map.
use Rattle.std.proofs.Common.{arith, sym, ◌∙◌, ap, map, length, ◌==◌, ℕ}
use Rattle.std.specs.List.{filter}
use Rattle.std.proofs.lemmas.List.{get_or_read}
use Rattle.cell_table.specs.declared.cell_key.CellKey.{CellKey}
use Rattle.cell_table.specs.Cells.{slots_at}
use Rattle.slot_lists.specs.SlotMapLaws.{entries_of_map}
use Rattle.cell_table.proofs.KeptLemmas.{len_passing}
use Rattle.cell_table.proofs.table.CellTable.level_len.Goals as goal

pub returns : goal.returns
returns c =
    let s = c.self.inside in
    let r = get_or_read s.levels.items c.args.level c.index.result.now (omega (arith, c.self.invariant.levels_len, c.requires)) c.index.ensures 0 in
    let n = c.self.invariant.counted c.args.level (omega (arith, c.requires)) in
    sym (ap (λ m. length (slots_at m c.args.level)) (sym c.self.view_is)
    ∙ ap (λ es. length (map (λ (e : ℕ × CellKey). e.0) (filter (λ e. e.1.level == c.args.level) es))) (entries_of_map s.keys.items)
    ∙ len_passing (λ k. k.level == c.args.level) 0 s.keys.items ∙ sym n ∙ sym r)
