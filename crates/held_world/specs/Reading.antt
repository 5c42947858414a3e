-- What is told of a world as it stands.
use Rattle.std.specs.Prelude.{List, length, if◌then◌else◌}
use Rattle.pair_events.specs.declared.told.Told.{Told}
use Rattle.pair_events.specs.PairEvents.{changes}
use Rattle.box_world.specs.Answers.{State}
use Rattle.any_world.specs.declared.any_world.AnyWorld.{AnyWorld}
use Rattle.any_world.specs.AnyWorld.{state_of, structure_of}
use Rattle.held_world.specs.declared.reading.PwInfo.{PwInfo}
use Rattle.held_world.specs.Plain.{structure_out}

abbrev pub info_of : AnyWorld → PwInfo
info_of world = let s = state_of world in let w = s.time.now in record {
  structure = structure_out (structure_of world);
  spent = if s.spent then 1 else 0;
  boxes = length w.table.entries;
  marks = length s.time.marks;
  frames = w.frames;
  exchanges = if s.spent then 0 else w.exchanges;
}

-- what changed in the last frame that ended: the pairs that began, in their order, and then those that were over
abbrev pub changes_of : State → List Told
changes_of s = changes s.began s.over
