-- The entries of the list are those of the map.
use Rattle.std.proofs.Common.{◌≡◌, ℕ, List, ap, sym, ◌∙◌, map, subst, true, All}
use Rattle.std.specs.FinMap.{entries, contains_key}
use Rattle.fixed_box.specs.Bounds.{Bounds}
use Rattle.slot_lists.specs.SlotMap.{entries_from}
use Rattle.slot_lists.specs.SlotMapLaws.{entries_of_map}
use Rattle.slot_lists.proofs.SlotCounts.{slots_present}
use Rattle.slot_lists.proofs.slot_boxes.SlotBoxes.list.Goals as goal

pub returns-clause-slots : goal.returns-clause-slots
returns-clause-slots c =
    c.in_ok-list_present.ensures.slots ∙ ap (λ l. map (λ (e : ℕ × Bounds). e.0) (entries_from 0 l)) c.deref.ensures.value
    ∙ ap (map (λ (e : ℕ × Bounds). e.0)) (sym (entries_of_map c.self.inside.boxes.items) ∙ ap entries c.self.view_is)

pub returns-clause-present : goal.returns-clause-present
returns-clause-present c =
    subst (λ (l : List ℕ). All (λ slot. contains_key c.args.self.now slot ≡ true) l)
    (sym (c.in_ok-list_present.ensures.slots ∙ ap (λ l. map (λ (e : ℕ × Bounds). e.0) (entries_from 0 l)) c.deref.ensures.value))
    (subst (λ m. All (λ slot. contains_key m slot ≡ true) (map (λ (e : ℕ × Bounds). e.0) (entries_from 0 c.self.inside.boxes.items))) c.self.view_is
    (slots_present c.self.inside.boxes.items))
