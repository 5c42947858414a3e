-- A cast comes to a hull no later than to what lies in it.
use Rattle.live_queries.proofs.PlaceLaws.{cast_no_later}
use Rattle.live_queries.proofs.probe.CastProbe.place_law.Goals as goal

pub returns : goal.returns
returns c = cast_no_later c.cast_law.ensures.enclosed c.cast_law.ensures.some c.cast_law.ensures.first c.args.self.now
