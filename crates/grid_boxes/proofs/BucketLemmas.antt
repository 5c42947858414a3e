-- Boxes beside their slots: which slots a stretch of them has, and how they come from a list of slots.
use Rattle.std.proofs.lemmas.Bool.{false≢true}
use Rattle.std.proofs.Common.{◌≡◌, ℕ, zero, suc, ◌+◌, ◌<◌, ◌≤◌, Bool, true, false, ◌||◌, ◌==◌, refl, sym, ap, ◌∙◌}
use Rattle.std.proofs.Common.{List, [], ◌∷◌, length, take, drop, get_or, option_map, All, Some, None, is_some, arith}
use Rattle.std.specs.List.{cons_option, filter_map, drop-map, take-map}
use Rattle.std.proofs.lemmas.List.Elements.{All-cons, All-drop, All-nil, All-take}
use Rattle.std.proofs.lemmas.Bool.Decides.{nat_tests}
use Rattle.std.specs.Ordering.{nat_cmp}
use Rattle.std.specs.FinMap.{FinMap, contains_key, get}
use Rattle.fixed_box.specs.Bounds.{Bounds}
use Rattle.broad_index.specs.Members.{has_slot}
use Rattle.grid_boxes.specs.declared.slot_box.SlotBox.{SlotBox}
use Rattle.grid_boxes.specs.Buckets.{AreOf, boxed}
use Rattle.grid_boxes.specs.Copies.{slots_of}

-- what stands at a place of a list is in a stretch of it that has this place
in_stretch : (xs : List ℕ) (from count place : ℕ) → from ≤ place → place < from + count → place < length xs
    → has_slot (take count (drop from xs)) (get_or xs place 0) ≡ true
in_stretch [] from count place le lt l = absurd (omega arith)
in_stretch (x ∷ xs) (suc from) count zero le lt l = absurd (omega arith)
in_stretch (x ∷ xs) (suc from) count (suc place) le lt l = in_stretch xs from count place (omega arith) (omega arith) (omega arith)
in_stretch (x ∷ xs) zero zero place le lt l = absurd (omega arith)
in_stretch (x ∷ xs) zero (suc count) zero le lt l =
    let here : (x == x) ≡ true = grind (arith, nat_tests) in ap (λ t. t || has_slot (take count xs) x) here
in_stretch (x ∷ xs) zero (suc count) (suc place) le lt l =
    ap (λ t. (get_or xs place 0 == x) || t) (in_stretch xs zero count place (omega arith) (omega arith) (omega arith)) ∙ or_true (get_or xs place 0 == x)
  where
    or_true : (b : Bool) → (b || true) ≡ true
    or_true true = refl
    or_true false = refl

-- the same of a stretch of boxes beside their slots
pub slot_in_stretch : (es : List SlotBox) (slots : List ℕ) (from count place q : ℕ) → slots_of es ≡ slots → from ≤ place → place < from + count
    → place < length slots → get_or slots place 0 ≡ q → has_slot (slots_of (take count (drop from es))) q ≡ true
slot_in_stretch es slots from count place q same le lt l is =
    ap (λ xs. has_slot xs q) (sym (take-map (λ (e : SlotBox). e.slot) count (drop from es))
    ∙ ap (take count) (sym (drop-map (λ (e : SlotBox). e.slot) from es) ∙ ap (drop from) same))
    ∙ ap (has_slot (take count (drop from slots))) (sym is)
    ∙ in_stretch slots from count place le lt l

pub of_stretch : (bodies : FinMap nat_cmp Bounds) (es : List SlotBox) (from count : ℕ) → AreOf bodies es → AreOf bodies (take count (drop from es))
of_stretch bodies es from count h =
    All-take (λ e. get bodies e.slot ≡ Some e.body) count (drop from es) (All-drop (λ e. get bodies e.slot ≡ Some e.body) from es h)

abbrev beside : ℕ → Bounds → SlotBox
beside slot body = record { slot = slot; body = body }

-- slots that all have boxes, each beside its box
pub all_boxed : (bodies : FinMap nat_cmp Bounds) (slots : List ℕ) → All (λ slot. contains_key bodies slot ≡ true) slots
    → (slots_of (filter_map (boxed bodies) slots) ≡ slots) × AreOf bodies (filter_map (boxed bodies) slots)
all_boxed bodies [] h = (refl, All-nil (λ (e : SlotBox). get bodies e.slot ≡ Some e.body))
all_boxed bodies (s ∷ ss) h =
    let es = filter_map (boxed bodies) ss in
    let rest = all_boxed bodies ss (λ i d l. h (suc i) d (omega arith)) in
    elim (get bodies s) as (λ o. get bodies s ≡ o → is_some o ≡ true → (slots_of (cons_option (option_map (beside s) o) es) ≡ s ∷ ss)
    × AreOf bodies (cons_option (option_map (beside s) o) es)) [
      | None ↦ λ _ t. absurd (false≢true t)
      | Some b ↦ λ at _. (ap (λ l. s ∷ l) rest.0, All-cons (λ (e : SlotBox). get bodies e.slot ≡ Some e.body) (beside s b) es at rest.1)
    ] refl (h 0 s (omega arith))
