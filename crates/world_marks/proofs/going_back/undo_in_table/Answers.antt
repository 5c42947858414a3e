-- The step that is popped can be undone in the table that the later ones have left.
use Rattle.world_marks.proofs.UndoneLists.{latest_undoable}
use Rattle.world_marks.proofs.going_back.undo_in_table.Goals as goal

pub undo_change-requires-clause-can : goal.undo_change-requires-clause-can
undo_change-requires-clause-can c =
    latest_undoable c.args.undos.now.items c.undone.undos.items c.pop.new.self.items c.undone.invariant.done c.in-Some.undo c.args.table.now c.undone.table
    c.undone.invariant.split c.in-Some.ensures.items c.undone.invariant.so_far c.requires.undoable
