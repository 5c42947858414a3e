-- No entry is left at the end.
use Rattle.std.proofs.Common.{◌≡◌, ◌≤◌, length, zip, ap, sym, ◌∙◌, arith}
use Rattle.std.specs.FinMap.{entries}
use Rattle.std.proofs.Common.{append-nil}
use Rattle.std.proofs.lemmas.List.{drop_all}
use Rattle.broad_index.proofs.PlainEntries.{entries_are, zip_long}
use Rattle.broad_index.proofs.slot_entries.Entries.push_each.Goals as goal

pub push_partners-requires : goal.push_partners-requires
push_partners-requires c =
    let slots = c.self.inside.slots.items in
    let boxes = c.self.inside.boxes.boxes in
    let is : entries c.args.self.now ≡ zip slots boxes = ap entries (sym c.self.view_is) ∙ entries_are slots boxes c.self.invariant in
    omega (arith, ap length is, zip_long slots boxes c.self.invariant, c.len-len.ensures)

pub returns-clause-ok : goal.returns-clause-ok
returns-clause-ok c =
    let slots = c.self.inside.slots.items in
    let boxes = c.self.inside.boxes.boxes in
    let is : entries c.args.self.now ≡ zip slots boxes = ap entries (sym c.self.view_is) ∙ entries_are slots boxes c.self.invariant in
    let past : length (entries c.args.self.now) ≤ c.slots.at = omega (arith, ap length is, zip_long slots boxes c.self.invariant, c.len-len.ensures) in
    let whole = rw (drop_all c.slots.at (entries c.args.self.now) past) at c.slots.invariant.found in
    sym (append-nil c.slots.out.items) ∙ whole
