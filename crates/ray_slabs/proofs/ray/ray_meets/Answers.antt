-- The test by pairs of axes decides it.
use Rattle.std.proofs.Common.{◌∙◌}
use Rattle.ray_slabs.proofs.Answered.{ray_answer}
use Rattle.ray_slabs.proofs.ray.ray_meets.Goals as goal

pub returns : goal.returns
returns c =
    c.meet_ahead.ensures
    ∙ ray_answer c.args.ray.now.from c.args.ray.now.dir c.args.body.now c.axes.ensures.x c.axes.ensures.y c.axes.ensures.z c.axes.ensures.ordered
