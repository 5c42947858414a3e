-- Where memory runs out in the index the world has what it had.
use Rattle.std.proofs.Common.{◌≡◌, true, is_some, Err, ap, subst, sym, ◌∙◌}
use Rattle.live_table.specs.Entries.{entry_at}
use Rattle.box_world.specs.Parts.{world_in, Explains}
use Rattle.box_world.proofs.Refused.{may_shift, cut_off, spent_from}
use Rattle.box_world.proofs.world.BoxWorld.shift.Goals as goal

pub returns-in-Err-NoMemory-clause-answer : goal.returns-in-Err-NoMemory-clause-answer
returns-in-Err-NoMemory-clause-answer g c =
    let parts = c.self.inside.parts in
    let is = c.in-Err-NoMemory.ensures.cut_off (ap Err c.in-Err-NoMemory.field-0-is) in
    let live : is_some (entry_at c.args.handle parts.table.entries) ≡ true =
    subst (Explains (entry_at c.args.handle parts.table.entries)) c.in-Err-NoMemory.field-0-is c.in-Err-NoMemory.ensures.err in
    rw (← c.self.view_is) (cut_off _ _ _ c.if-self.false
    (may_shift (world_in g.B.BroadPhase.exchanges parts) c.args.handle live (sym c.is_counted_out.ensures ∙ c.if-is_counted_out.false))
    (spent_from g.B.BroadPhase.exchanges g.B.BroadPhase.spent c.self.inside.spent parts c.shift.new.self
    (record { index = is.index; table = is.table; last = is.last; marks = is.marks ∙ c.in_ok-before.ensures.marks; frames = is.frames; tells = record { told = is.tells.told; began = is.tells.began; over = is.tells.over } })))
