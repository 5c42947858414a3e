-- Each pair of the frame is told once, and each that is over.
use Rattle.std.proofs.Common.{length, sym, ap, ◌∙◌}
use Rattle.pair_events.proofs.ToldOf.{length_told}
use Rattle.pair_events.proofs.events.Events.len.Goals as goal

pub returns : goal.returns
returns c = sym (length_told c.self.inside.pairs.now c.self.inside.began.now c.self.inside.over.now) ∙ ap length c.self.view_is
