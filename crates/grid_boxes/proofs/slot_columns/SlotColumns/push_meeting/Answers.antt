-- The places stand behind what was there, and the slots come in their stead.
use Rattle.std.proofs.Common.{◌≡◌, ◌++◌, ap, ◌∙◌, map, take, drop, length, rules, slice_index}
use Rattle.fixed_box.specs.Bounds.{meets}
use Rattle.grid_boxes.proofs.ColumnLemmas.{found}
use Rattle.grid_boxes.proofs.slot_columns.SlotColumns.push_meeting.Goals as goal

pub returns-clause-ok : goal.returns-clause-ok
returns-clause-ok c =
    let old = c.args.out.now.items in
    let scanned = c.scan_between.new.out.items in
    let own : c.deref.result.now ≡ c.args.self.now.slots = search rules in
    let boxes : c.self.inside.columns.boxes ≡ c.args.self.now.boxes = ap (λ l. l.boxes) c.self.view_is in
    found c.args.self.now (meets c.args.region.now) c.args.from c.args.to old scanned c.put_slots.new.out.items c.requires.end
    (rw boxes at c.in_ok-scan_between.ensures.ok)
    (c.put_slots.ensures
    ∙ ap (λ n. take n scanned ++ map (slice_index c.deref.result.now) (drop n scanned)) (search rules)
    ∙ ap (λ l. take (length old) scanned ++ map (slice_index l) (drop (length old) scanned)) own)
