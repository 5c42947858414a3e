-- Behind the corners, few words are left before the tail.
use Rattle.std.proofs.Common.{sym, ap, ◌∙◌}
use Rattle.scene_words.specs.SceneWords.{words, point_at}
use Rattle.scene_words.proofs.TailCounts.{add_read_allowed}
use Rattle.scene_words.proofs.one_pass.add_ahead.Goals as goal

pub returns-clause-allowed : goal.returns-clause-allowed
returns-clause-allowed c =
    add_read_allowed c.args.version (words c.args.line.now) (words c.in_ok-lo.line.now) (words c.in_ok-hi.line.now) c.in_ok-lo.lo c.in_ok-hi.hi
    (ap point_at (sym c.in_ok-line.ensures.words) ∙ c.in_ok-lo.ensures.value) c.in_ok-hi.ensures.value c.in_ok-masks.ensures.few
