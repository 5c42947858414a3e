-- Each law is a lemma on bytes cut at line feeds.
use Rattle.std.proofs.Common.{length, le_refl, true, List, ℕ, subst, sym, false}
use Rattle.scene_lines.specs.SceneLines.{lines, IsPrefix}
use Rattle.scene_lines.proofs.Cutting.{lines_first, lines_prefix, lines_ended, lines_open}
use Rattle.scene_lines.proofs.FeedCount.{one_feed}
use Rattle.fixed_box.proofs.Lists.{prepend_known-append}
use Rattle.scene_lines.proofs.Settling.{line_ahead_len}
use Rattle.scene_lines.proofs.laws.line_laws.Goals as goal

pub returns-clause-first : goal.returns-clause-first
returns-clause-first c = lines_first

pub returns-clause-prefix : goal.returns-clause-prefix
returns-clause-prefix c front whole h =
    let P : List ℕ → Type 0 = λ bytes. IsPrefix (lines front false) (lines bytes true) in
    subst P (sym h.1) (lines_prefix (length front) front h.0 (le_refl (length front)))

pub returns-clause-ended : goal.returns-clause-ended
returns-clause-ended c = lines_ended

pub returns-clause-unended : goal.returns-clause-unended
returns-clause-unended c = lines_open

pub returns-clause-in_parts : goal.returns-clause-in_parts
returns-clause-in_parts c = prepend_known-append

pub returns-clause-near : goal.returns-clause-near
returns-clause-near c = line_ahead_len

pub returns-clause-one_feed : goal.returns-clause-one_feed
returns-clause-one_feed c = one_feed
