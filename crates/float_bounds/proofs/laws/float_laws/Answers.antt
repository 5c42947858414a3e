-- Each clause is a lemma on quotients, or on the ends of intervals.
use Rattle.float_bounds.proofs.Bounding.{below_bounds, above_bounds, below_exact, above_exact}
use Rattle.float_bounds.proofs.Spanned.{ordered, held, least_box, still_meets}
use Rattle.float_bounds.proofs.laws.float_laws.Goals as goal

pub returns-clause-below : goal.returns-clause-below
returns-clause-below c = below_bounds

pub returns-clause-above : goal.returns-clause-above
returns-clause-above c = above_bounds

pub returns-clause-ordered : goal.returns-clause-ordered
returns-clause-ordered c = ordered

pub returns-clause-exact_below : goal.returns-clause-exact_below
returns-clause-exact_below c = below_exact

pub returns-clause-exact_above : goal.returns-clause-exact_above
returns-clause-exact_above c = above_exact

pub returns-clause-held : goal.returns-clause-held
returns-clause-held c = held

pub returns-clause-met : goal.returns-clause-met
returns-clause-met c = still_meets

pub returns-clause-least : goal.returns-clause-least
returns-clause-least c = least_box
