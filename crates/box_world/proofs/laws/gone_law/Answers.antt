-- What is known of a table holds of the world over it.
use Rattle.std.proofs.Common.{is_some, ap}
use Rattle.live_table.specs.Entries.{entry_at}
use Rattle.box_world.proofs.Gone.{stays_stale, lives}
use Rattle.box_world.proofs.laws.gone_law.Goals as goal

pub returns-clause-removed : goal.returns-clause-removed
returns-clause-removed c w handle is live =
    let some = lives (entry_at handle w.table.entries) live in c.gone_law.ensures.taken w.table handle some.live is some.is

pub returns-clause-gone : goal.returns-clause-gone
returns-clause-gone c counts w steps handle gone = stays_stale c.gone_law.ensures.kept counts w steps handle gone

pub returns-clause-past : goal.returns-clause-past
returns-clause-past c w handle is past = ap is_some (c.gone_law.ensures.past w.table handle is past)
