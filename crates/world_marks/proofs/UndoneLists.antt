-- Lists of changes that are undone: in two parts, and with no more gives than before.
use Rattle.std.proofs.Common.{◌≡◌, ℕ, ◌+◌, ◌-◌, ◌≤◌, sum, arith, length, get_or, set, inl, inr, List, [], ◌∷◌, ◌++◌, refl, ap, subst, sym}
use Rattle.std.proofs.lemmas.Bool.{cases_lt}
use Rattle.std.proofs.lemmas.List.{set_past}
use Rattle.std.proofs.lemmas.List.Sums.{sum_by-set}
use Rattle.live_table.specs.Table.{Table, lowered}
use Rattle.world_marks.specs.declared.undo.Undo.{Undo}
use Rattle.world_marks.specs.declared.undo.Undo.TheVariants.{Given, Moved, Masked, Regrouped, Taken}
use Rattle.world_marks.specs.Undone.{after_undo, undone, CanUndo, AreUndoable}

pub undone-append : (us vs : List Undo) (t : Table) → undone (us ++ vs) t ≡ undone us (undone vs t)
undone-append [] vs t = refl
undone-append (u ∷ us) vs t = ap (λ s. after_undo s u) (undone-append us vs t)

pub undoable_parts : (us vs : List Undo) (t : Table) → AreUndoable (us ++ vs) t → AreUndoable us (undone vs t) × AreUndoable vs t
undoable_parts [] vs t h = (tt, h)
undoable_parts (u ∷ us) vs t h =
    let rest : AreUndoable us (undone vs t) × AreUndoable vs t = undoable_parts us vs t h.1 in
    ((subst (CanUndo u) (undone-append us vs t) h.0, rest.0), rest.1)

pub undoable_from : (us vs : List Undo) (t : Table) → AreUndoable us (undone vs t) → AreUndoable vs t → AreUndoable (us ++ vs) t
undoable_from [] vs t h g = g
undoable_from (u ∷ us) vs t h g = (subst (CanUndo u) (sym (undone-append us vs t)) h.0, undoable_from us vs t h.1 g)

-- the latest of those that are left, in the table that the ones behind it have left
pub latest_undoable : (all former left done : List Undo) (undo : Undo) (t now : Table) → all ≡ former ++ done → former ≡ left ++ undo ∷ []
    → now ≡ undone done t → AreUndoable all t → CanUndo undo now
latest_undoable all former left done undo t now split popped so_far undoable =
    let both = undoable_parts former done t (subst (λ us. AreUndoable us t) split undoable) in
    let last = undoable_parts left (undo ∷ []) (undone done t) (subst (λ us. AreUndoable us (undone done t)) popped both.0) in
    subst (CanUndo undo) (sym so_far) last.1.0

lowered_few : (gives : List ℕ) (slot : ℕ) → sum (lowered gives slot) ≤ sum gives
lowered_few gives slot =
    let less : ℕ = get_or gives slot 0 - 1 in
    elim (cases_lt slot (length gives)) [
      | inl lt ↦
          let e : sum (set gives slot less) + get_or gives slot 0 ≡ sum gives + less = sum_by-set (λ x. x) gives slot less 0 lt in
          omega (arith, e)
      | inr past ↦ let e : sum (set gives slot less) ≡ sum gives = ap sum (set_past gives slot less past) in omega (arith, e)
    ]

-- no more gives than before
pub undone_few : (us : List Undo) (t : Table) → sum (undone us t).gives ≤ sum t.gives
undone_few [] t = omega arith
undone_few (Given handle ∷ us) t = omega (arith, lowered_few (undone us t).gives handle.slot, undone_few us t)
undone_few (Moved handle body ∷ us) t = undone_few us t
undone_few (Masked handle masks ∷ us) t = undone_few us t
undone_few (Regrouped handle group ∷ us) t = undone_few us t
undone_few (Taken live ∷ us) t = undone_few us t
