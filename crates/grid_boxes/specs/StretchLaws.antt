-- Serves proofs alone: stretches of a list of boxes beside their slots, one behind the other.
use Rattle.std.proofs.Common.{◌≡◌, ℕ, ◌+◌, ◌-◌, ◌≤◌, List, ◌++◌, take, drop, sym, ap, ◌∙◌, arith}
use Rattle.std.proofs.Math.Seq.{take-add}
use Rattle.std.proofs.lemmas.List.{drop-drop}
use Rattle.grid_boxes.specs.declared.slot_box.SlotBox.{SlotBox}
use Rattle.grid_boxes.specs.Copies.{stretch}

-- a stretch in two parts
pub stretch_parts : (es : List SlotBox) (from mid end : ℕ) → from ≤ mid → mid ≤ end → stretch from mid es ++ stretch mid end es ≡ stretch from end es
stretch_parts es from mid end low high =
    let count : end - from ≡ (mid - from) + (end - mid) = omega arith in
    let start : from + (mid - from) ≡ mid = omega arith in
    sym (ap (λ n. take n (drop from es)) count ∙ take-add (mid - from) (end - mid) (drop from es)
    ∙ ap (λ l. take (mid - from) (drop from es) ++ take (end - mid) l) (drop-drop (mid - from) from es ∙ ap (λ n. drop n es) start))
