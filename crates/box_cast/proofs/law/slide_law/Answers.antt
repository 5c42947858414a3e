-- They are lemmas on what rays and segments tell.
use Rattle.box_cast.proofs.Ordered.{apart_ordered}
use Rattle.box_cast.proofs.Contact.{same_value, none_law}
use Rattle.box_cast.proofs.Slid.{RayTold, as_seg, met_law}
use Rattle.box_cast.proofs.law.slide_law.Goals as goal

told : goal.After-first_law → RayTold
told c = record { seg = c.seg_law.ensures.fraction; ray = c.ray_law.ensures.fraction; entry = c.first_law.ensures.first; among = c.first_law.ensures.candidate }

pub returns-clause-seg : goal.returns-clause-seg
returns-clause-seg c = as_seg

pub returns-clause-met : goal.returns-clause-met
returns-clause-met c = met_law (told c)

pub returns-clause-first : goal.returns-clause-first
returns-clause-first c = same_value (told c)

pub returns-clause-none : goal.returns-clause-none
returns-clause-none c = none_law

pub returns-clause-ordered : goal.returns-clause-ordered
returns-clause-ordered c = apart_ordered
