-- The newest mark is the last one.
use Rattle.std.proofs.Common.{ap, ◌∙◌}
use Rattle.world_marks.proofs.Newest.{newest_keeps, none_newest, some_newest}
use Rattle.world_marks.proofs.marks.Marks.keeps_pairs.Goals as goal

pub returns-in-Some-clause-newest : goal.returns-in-Some-clause-newest
returns-in-Some-clause-newest c older mark these =
    c.is_some.ensures ∙ newest_keeps c.self.inside.older.items c.self.inside.newest c.in-Some.mark older mark c.in-Some.is
    (ap (λ v. v.marks) c.self.view_is ∙ these)

pub returns-in-Some-clause-none : goal.returns-in-Some-clause-none
returns-in-Some-clause-none c none =
    absurd (some_newest c.self.inside.older.items c.self.inside.newest c.in-Some.mark c.in-Some.is (ap (λ v. v.marks) c.self.view_is ∙ none))

pub returns-in-None-clause-newest : goal.returns-in-None-clause-newest
returns-in-None-clause-newest c older mark these =
    absurd (none_newest c.self.inside.older.items c.self.inside.newest older mark c.in-None.is (c.self.invariant.first c.in-None.is)
    (ap (λ v. v.marks) c.self.view_is ∙ these))
