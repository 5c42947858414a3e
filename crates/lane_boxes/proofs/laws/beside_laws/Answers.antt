-- Each clause is an edit of two lists side by side.
use Rattle.std.proofs.Common.{ℕ, [], ◌∷◌, ◌++◌, zip, insert, remove, swap_remove, set, get_or, ap, sym, ◌∙◌}
use Rattle.std.proofs.lemmas.List.{set-get_or}
use Rattle.fixed_box.specs.Bounds.{Bounds}
use Rattle.lane_boxes.proofs.Beside.{zip_is, beside_append, beside_insert, beside_remove, beside_set, beside_swap_remove}
use Rattle.lane_boxes.proofs.laws.beside_laws.Goals as goal

abbrev entry : ℕ → Bounds → ℕ × Bounds
entry k b = (k, b)

pub returns-clause-pushed : goal.returns-clause-pushed
returns-clause-pushed c slots boxes slot body h =
    zip_is (slots ++ slot ∷ []) (boxes ++ body ∷ []) ∙ beside_append entry slots (slot ∷ []) boxes (body ∷ []) h ∙ sym
    (ap (λ l. l ++ (slot, body) ∷ []) (zip_is slots boxes))

pub returns-clause-inserted : goal.returns-clause-inserted
returns-clause-inserted c slots boxes at slot body h =
    zip_is (insert slots at slot) (insert boxes at body) ∙ beside_insert entry slots boxes at slot body h ∙ sym
    (ap (λ l. insert l at (slot, body)) (zip_is slots boxes))

pub returns-clause-set : goal.returns-clause-set
returns-clause-set c slots boxes at body h =
    ap (λ l. zip l (set boxes at body)) (sym (set-get_or slots at 0))
    ∙ zip_is (set slots at (get_or slots at 0)) (set boxes at body)
    ∙ beside_set entry slots boxes at (get_or slots at 0) body
    ∙ sym (ap (λ l. set l at (get_or slots at 0, body)) (zip_is slots boxes))

pub returns-clause-removed : goal.returns-clause-removed
returns-clause-removed c slots boxes at h =
    zip_is (remove slots at) (remove boxes at) ∙ beside_remove entry slots boxes at h ∙ sym (ap (λ l. remove l at) (zip_is slots boxes))

pub returns-clause-swapped : goal.returns-clause-swapped
returns-clause-swapped c slots boxes at slot body h =
    zip_is (swap_remove slots at slot) (swap_remove boxes at body)
    ∙ beside_swap_remove entry slots boxes at slot body h
    ∙ sym (ap (λ l. swap_remove l at (slot, body)) (zip_is slots boxes))
