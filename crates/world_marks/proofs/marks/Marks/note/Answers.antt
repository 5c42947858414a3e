-- Where there is a newest mark, it has one more change.
use Rattle.std.proofs.Common.{ap, ◌∙◌}
use Rattle.world_marks.specs.HeldMarks.{marks_of}
use Rattle.world_marks.specs.Marks.{noted, with_newest}
use Rattle.world_marks.proofs.Newest.{changed_newest, no_newest}
use Rattle.world_marks.proofs.marks.Marks.note.Goals as goal
use Rattle.world_marks.proofs.marks.Marks.note.Goals.{in-Some, in_default}

pub returns-clause-noted : goal.returns-clause-noted
returns-clause-noted c =
    let older = c.self.inside.older.items in
    let newest = c.self.inside.newest in
    let viewed = ap (λ v. with_newest (noted c.args.undo) v.marks) c.self.view_is in
    elim c.match-self.branch [
      | in-Some w ↦
          ap (λ x. marks_of x.older.items x.newest) w.self-inside-is
          ∙ changed_newest (noted c.args.undo) older newest w.in-Some.mark w.note.new.self w.in-Some.is w.note.ensures.noted ∙ viewed
      | in_default w ↦
          ap (λ x. marks_of x.older.items x.newest) w.self-inside-is
          ∙ no_newest (noted c.args.undo) older newest w.in_default.is (c.self.invariant.first w.in_default.is) ∙ viewed
    ]
