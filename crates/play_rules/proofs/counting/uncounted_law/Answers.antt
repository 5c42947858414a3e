-- The exchanges are hidden along the whole play.
use Rattle.play_rules.proofs.Uncounted.{uncounted}
use Rattle.play_rules.proofs.counting.uncounted_law.Goals as goal

pub returns : goal.returns
returns c counts shows limit lines known = uncounted limit counts shows lines known
