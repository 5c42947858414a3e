-- The places of a test name the entries that pass it.
use Rattle.lane_boxes.proofs.Masks.{places_within}
use Rattle.lane_boxes.proofs.PlacedSlots.{slots_at_places}
use Rattle.lane_boxes.proofs.laws.place_laws.Goals as goal

pub returns-clause-within : goal.returns-clause-within
returns-clause-within c = places_within

pub returns-clause-slots : goal.returns-clause-slots
returns-clause-slots c = slots_at_places
