-- Where there is a newest mark without pairs, it has these.
use Rattle.std.proofs.Common.{ap, ◌∙◌}
use Rattle.world_marks.specs.HeldMarks.{marks_of}
use Rattle.world_marks.specs.Marks.{keeping, with_newest}
use Rattle.world_marks.proofs.Newest.{changed_newest, no_newest}
use Rattle.world_marks.proofs.marks.Marks.keep.Goals as goal
use Rattle.world_marks.proofs.marks.Marks.keep.Goals.{in-Some, in_default}

pub returns-clause-kept : goal.returns-clause-kept
returns-clause-kept c =
    let older = c.self.inside.older.items in
    let newest = c.self.inside.newest in
    let last = c.args.last.items in
    let viewed = ap (λ v. with_newest (keeping last) v.marks) c.self.view_is in
    elim c.match-self.branch [
      | in-Some w ↦
          ap (λ x. marks_of x.older.items x.newest) w.self-inside-is
          ∙ changed_newest (keeping last) older newest w.in-Some.mark w.keep.new.self w.in-Some.is w.keep.ensures.kept ∙ viewed
      | in_default w ↦
          ap (λ x. marks_of x.older.items x.newest) w.self-inside-is
          ∙ no_newest (keeping last) older newest w.in_default.is (c.self.invariant.first w.in_default.is) ∙ viewed
    ]
