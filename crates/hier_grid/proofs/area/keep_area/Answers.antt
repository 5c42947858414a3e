-- What is left of the slots are those with a box in the area.
use Rattle.std.proofs.Common.{◌≡◌, ℕ, Bool, ◌&&◌, List, Option, None, Some, refl, ap, ◌∙◌, filter, rules}
use Rattle.std.specs.FinMap.{get}
use Rattle.fixed_box.specs.Bounds.{Bounds, meets}
use Rattle.fixed_box.proofs.Bools.{and_false}
use Rattle.broad_index.specs.Members.{has_slot, passes}
use Rattle.grid_cells.specs.SlotLaws.{has_filtered}
use Rattle.hier_grid.specs.declared.area.Area.{Area}
use Rattle.hier_grid.specs.Visits.{in_area, has_box, is_slot_in}
use Rattle.hier_grid.proofs.area.keep_area.Goals as goal

at_box : (old : List ℕ) (area : Area) (region : Bounds) (k : ℕ) (o : Option Bounds)
    → (has_slot old k && has_box area region o) ≡ passes (λ e. has_slot old e.0 && (meets region e.1 && in_area area e.1)) k o
at_box old area region k None = and_false (has_slot old k)
at_box old area region k (Some b) = refl

pub returns : goal.returns
returns c =
    let bodies = c.args.boxes.now in
    let area = c.args.area.now in
    let region = c.args.region.now in
    let old = c.args.slots.now.items in
    let p : ℕ × Bounds → Bool = λ e. has_slot old e.0 && (meets region e.1 && in_area area e.1) in
    let is : c.keep_passing.new.items.items ≡ filter (is_slot_in area region bodies) old = search rules in
    c.settle_slots_from.ensures.listed bodies p (λ k.
    ap (λ l. has_slot l k) is ∙ has_filtered (is_slot_in area region bodies) old k ∙ at_box old area region k (get bodies k))
