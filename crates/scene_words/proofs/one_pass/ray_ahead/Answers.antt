-- Behind the direction, few words are left before the tail.
use Rattle.std.proofs.Common.{sym, ap, ◌∙◌}
use Rattle.scene_words.specs.SceneWords.{words, point_at}
use Rattle.scene_words.proofs.TailCounts.{ray_read_allowed}
use Rattle.scene_words.proofs.one_pass.ray_ahead.Goals as goal

pub returns-clause-allowed : goal.returns-clause-allowed
returns-clause-allowed c =
    ray_read_allowed c.args.version (words c.args.line.now) (words c.in_ok-from.line.now) (words c.in_ok-dir.line.now) c.in_ok-from.from c.in_ok-dir.dir
    (ap point_at (sym c.in_ok-line.ensures.words) ∙ c.in_ok-from.ensures.value) c.in_ok-dir.ensures.value c.in_ok-mask.ensures.few
