-- What a change of one slot does to boxes and fat boxes, as maps.
use Rattle.std.proofs.Common.{◌≡◌, ℕ, ◌<◌, true, false, cond, Option, None, Some, List, length, get_or, set, sym, ap, ◌∙◌}
use Rattle.std.specs.FinMap.{insert}
use Rattle.fixed_box.specs.Bounds.{Bounds, fattened}
use Rattle.box_tree.specs.declared.TheConstants.{MARGIN}
use Rattle.box_tree.specs.declared.moved.Moved.TheVariants.{Inside, Relinked}
use Rattle.box_tree.specs.Boxes.{is_inside, shifted, told}
use Rattle.slot_lists.specs.SlotMap.{map_of}
use Rattle.slot_lists.specs.SlotMapLaws.{get_map, map_put}

module _ (fats : List (Option Bounds)) (slot : ℕ) (b : Bounds) where
  pub inside_told : is_inside (get_or fats slot None) b ≡ true → Inside ≡ told (map_of fats) slot b
  inside_told e = sym (ap (λ i. cond i Inside Relinked) (ap (λ o. is_inside o b) (get_map fats slot) ∙ e))

  pub outside_told : is_inside (get_or fats slot None) b ≡ false → Relinked ≡ told (map_of fats) slot b
  outside_told e = sym (ap (λ i. cond i Inside Relinked) (ap (λ o. is_inside o b) (get_map fats slot) ∙ e))

  pub inside_shifted : is_inside (get_or fats slot None) b ≡ true → map_of fats ≡ shifted (map_of fats) slot b
  inside_shifted e =
      sym (ap (λ i. cond i (map_of fats) (insert (map_of fats) slot (fattened b MARGIN))) (ap (λ o. is_inside o b) (get_map fats slot) ∙ e))

  pub outside_shifted : is_inside (get_or fats slot None) b ≡ false → slot < length fats
      → map_of (set fats slot (Some (fattened b MARGIN))) ≡ shifted (map_of fats) slot b
  outside_shifted e lt =
      map_put fats slot (fattened b MARGIN) lt
      ∙ sym (ap (λ i. cond i (map_of fats) (insert (map_of fats) slot (fattened b MARGIN))) (ap (λ o. is_inside o b) (get_map fats slot) ∙ e))
