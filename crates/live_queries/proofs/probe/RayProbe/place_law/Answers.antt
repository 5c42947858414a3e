-- A ray comes to a hull no later than to what lies in it.
use Rattle.live_queries.proofs.PlaceLaws.{ray_no_later}
use Rattle.live_queries.proofs.probe.RayProbe.place_law.Goals as goal

pub returns : goal.returns
returns c = ray_no_later c.ray_law.ensures.enclosed c.first_law.ensures.first c.args.self.now
