-- The places of boxes that pass a test, in a list of slots beside them.
use Rattle.std.proofs.Common.{◌≡◌, ℕ, suc, ◌+◌, Bool, true, false, cond, List, [], ◌∷◌, length, map, filter, drop, zip, get_or, slice_index_or, refl}
use Rattle.std.proofs.Common.{ap, ap₂, sym, ◌∙◌, arith, length-drop}
use Rattle.std.proofs.lemmas.List.{get_or-drop}
use Rattle.fixed_box.specs.Bounds.{Bounds}
use Rattle.lane_boxes.specs.Places.{places}
use Rattle.lane_boxes.proofs.Beside.{zip_is, beside_drop}
use Rattle.lane_boxes.proofs.Masks.{one_more}

kept_more : (at : ℕ → ℕ) (t : Bool) (from s : ℕ) (later : List ℕ) (b : Bounds) (es : List (ℕ × Bounds)) → at from ≡ s → map at later ≡ map (λ e. e.0) es
    → map at (cond t (from ∷ later) later) ≡ map (λ e. e.0) (cond t ((s, b) ∷ es) es)
kept_more at true from s later b es h r = ap₂ (λ x l. x ∷ l) h r
kept_more at false from s later b es h r = r

module _ (test : Bounds → Bool) where
  -- what stands at the places of the boxes that pass, where `at k` is what stands k places on
  kept_at : (at : ℕ → ℕ) (from : ℕ) (slots : List ℕ) (boxes : List Bounds) → length slots ≡ length boxes → ((k : ℕ) → at (from + k) ≡ get_or slots k 0)
      → map at (places test from boxes) ≡ map (λ e. e.0) (filter (λ e. test e.1) (zip slots boxes))
  kept_at at from [] [] h f = refl
  kept_at at from [] (b ∷ boxes) h f = absurd (omega arith)
  kept_at at from (s ∷ slots) [] h f = absurd (omega arith)
  kept_at at from (s ∷ slots) (b ∷ boxes) h f =
      let here : at from ≡ s = ap at (omega arith) ∙ f 0 in
      let rest = kept_at at (from + 1) slots boxes (omega arith) (λ k. ap at (omega arith) ∙ f (suc k)) in
      ap (map at) (one_more test from b boxes) ∙ kept_more at (test b) from s (places test (from + 1) boxes) b (filter (λ e. test e.1) (zip slots boxes))
      here rest

  same_drop : (n : ℕ) (slots : List ℕ) (boxes : List Bounds) → length slots ≡ length boxes → length (drop n slots) ≡ length (drop n boxes)
  same_drop n slots boxes h = omega (arith, length-drop n slots, length-drop n boxes)

  zip_drop : (n : ℕ) (slots : List ℕ) (boxes : List Bounds) → zip (drop n slots) (drop n boxes) ≡ drop n (zip slots boxes)
  zip_drop n slots boxes =
      zip_is (drop n slots) (drop n boxes) ∙ beside_drop (λ k (b : Bounds). (k, b)) n slots boxes ∙ sym (ap (drop n) (zip_is slots boxes))

  slots_behind : (from : ℕ) (slots : List ℕ) (boxes : List Bounds) → length slots ≡ length boxes
      → map (λ k. slice_index_or slots k 0) (places test from (drop from boxes)) ≡ map (λ e. e.0) (filter (λ e. test e.1) (drop from (zip slots boxes)))
  slots_behind from slots boxes h =
      kept_at (λ k. get_or slots k 0) from (drop from slots) (drop from boxes) (same_drop from slots boxes h) (λ k. sym (get_or-drop from slots k 0))
      ∙ ap (λ es. map (λ e. e.0) (filter (λ e. test e.1) es)) (zip_drop from slots boxes)

pub slots_at_places : (test : Bounds → Bool) (from : ℕ) (slots : List ℕ) (boxes : List Bounds) → length slots ≡ length boxes
    → map (λ k. slice_index_or slots k 0) (places test from (drop from boxes)) ≡ map (λ e. e.0) (filter (λ e. test e.1) (drop from (zip slots boxes)))
slots_at_places test = slots_behind test
