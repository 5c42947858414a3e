-- Each clause is a lemma on boxes.
use Rattle.fixed_box.proofs.BoxLaws.{encloses_itself, encloses_chain, hull_this, hull_that, meets_either_way, met_outside, held_outside}
use Rattle.fixed_box.proofs.laws.box_laws.Goals as goal

pub returns-clause-itself : goal.returns-clause-itself
returns-clause-itself c = encloses_itself

pub returns-clause-chain : goal.returns-clause-chain
returns-clause-chain c = encloses_chain

pub returns-clause-hull_this : goal.returns-clause-hull_this
returns-clause-hull_this c = hull_this

pub returns-clause-hull_that : goal.returns-clause-hull_that
returns-clause-hull_that c = hull_that

pub returns-clause-either_way : goal.returns-clause-either_way
returns-clause-either_way c = meets_either_way

pub returns-clause-met : goal.returns-clause-met
returns-clause-met c = met_outside

pub returns-clause-held : goal.returns-clause-held
returns-clause-held c = held_outside
