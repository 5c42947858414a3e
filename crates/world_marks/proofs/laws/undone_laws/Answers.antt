-- each clause is a lemma
use Rattle.world_marks.proofs.UndoneLists.{undone-append, undoable_parts, undoable_from, undone_few}
use Rattle.world_marks.proofs.laws.undone_laws.Goals as goal

pub returns-clause-append : goal.returns-clause-append
returns-clause-append c = undone-append

pub returns-clause-parts : goal.returns-clause-parts
returns-clause-parts c = undoable_parts

pub returns-clause-whole : goal.returns-clause-whole
returns-clause-whole c = undoable_from

pub returns-clause-gives : goal.returns-clause-gives
returns-clause-gives c = undone_few
