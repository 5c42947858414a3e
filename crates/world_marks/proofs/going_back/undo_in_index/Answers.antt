-- The index takes the step that undoes the latest change left, in the table that the later ones have left.
use Rattle.std.proofs.Common.{◌∷◌, ◌∙◌, ap, refl, ◌++◌}
use Rattle.std.proofs.lemmas.List.{append_assoc}
use Rattle.world_marks.specs.Undone.{undone}
use Rattle.world_marks.proofs.ReadyIndex.{ready_for}
use Rattle.world_marks.proofs.UndoneLists.{latest_undoable}
use Rattle.world_marks.proofs.going_back.undo_in_index.Goals as goal

pub undo_box-requires-clause-ready : goal.undo_box-requires-clause-ready
undo_box-requires-clause-ready g c _ _ =
    let done = c.undone.invariant.done in
    let t = undone done c.args.table.now in
    let can = latest_undoable c.args.undos.now c.undone.left.now c.in-Some.sooner.now done c.in-Some.undo.now c.args.table.now t
    c.undone.invariant.split c.in-Some.ensures.cases.0 refl c.requires.undoable in
    ready_for c.in-Some.undo.now _ t c.undone.invariant.table can (c.clear_exchanges.ensures.bodies ∙ c.undone.invariant.boxes)

pub undone-preserved : goal.undone-preserved
undone-preserved g c =
    let done = c.undone.invariant.done in
    let t = undone done c.args.table.now in
    let can = latest_undoable c.args.undos.now c.undone.left.now c.in-Some.sooner.now done c.in-Some.undo.now c.args.table.now t
    c.undone.invariant.split c.in-Some.ensures.cases.0 refl c.requires.undoable in
    record {
      done = c.in-Some.undo.now ∷ done;
      split = c.undone.invariant.split ∙ ap (λ us. us ++ done) c.in-Some.ensures.cases.0 ∙ append_assoc c.in-Some.sooner.now _ done;
      table = c.undo_box.ensures.table t c.undone.invariant.table can;
      sound = c.in_ok-undo_box.ensures.sound;
      boxes = c.in_ok-undo_box.ensures.boxes t c.undone.invariant.table can (c.clear_exchanges.ensures.bodies ∙ c.undone.invariant.boxes);
    }
