-- The test by pairs of axes decides whether there is an entry, and the greatest of 0 and the three entries is the first fraction.
use Rattle.std.proofs.Common.{◌≡◌, sym, ◌∙◌, true, false}
use Rattle.ray_slabs.specs.Crossing.{in_ray}
use Rattle.ray_slabs.specs.Mirrored.{meet_ahead}
use Rattle.ray_slabs.proofs.Answered.{ray_answer, first_answer}
use Rattle.ray_slabs.proofs.ray.ray_entry.Goals as goal

pub returns-then-meet_ahead : goal.returns-then-meet_ahead
returns-then-meet_ahead c =
    let answer : meet_ahead c.axes-axes.result.x c.axes-axes.result.y c.axes-axes.result.z ≡ in_ray c.args.ray.now.from c.args.ray.now.dir c.args.body.now =
    ray_answer c.args.ray.now.from c.args.ray.now.dir c.args.body.now c.axes-axes.ensures.x c.axes-axes.ensures.y c.axes-axes.ensures.z
    c.axes-axes.ensures.ordered in (
      sym (c.if-meet_ahead.ensures ∙ answer),
      c.latest_entry.ensures
          ∙ first_answer c.args.ray.now.from c.args.ray.now.dir c.args.body.now c.axes-axes.ensures.x c.axes-axes.ensures.y c.axes-axes.ensures.z,
    )

pub returns-else-meet_ahead : goal.returns-else-meet_ahead
returns-else-meet_ahead c some =
    let answer : meet_ahead c.axes-axes.result.x c.axes-axes.result.y c.axes-axes.result.z ≡ in_ray c.args.ray.now.from c.args.ray.now.dir c.args.body.now =
    ray_answer c.args.ray.now.from c.args.ray.now.dir c.args.body.now c.axes-axes.ensures.x c.axes-axes.ensures.y c.axes-axes.ensures.z
    c.axes-axes.ensures.ordered in
    let clash : false ≡ true = c.if-meet_ahead.ensures ∙ answer ∙ some in let no : ⊥ = cc in no
