-- Serves proofs alone: the last line of a play, and what writing a text makes of the status.
use Rattle.std.specs.Prelude.{◌≡◌, ℕ, ◌<◌, List, [], Result, Ok, Err}
use Rattle.play_io.specs.declared.sink.SinkFault.{SinkFault}
use Rattle.play_io.specs.declared.sink.SinkFault.TheVariants as why
use Rattle.pair_report.specs.PairReport.{end_line, refused_line}
use Rattle.play_rules.specs.declared.status.Status.{Status}
use Rattle.play_rules.specs.declared.status.Status.TheVariants.{Done, Refused, ReadFault, WriteFault, NoMemory}
use Rattle.frame_player.specs.declared.last.Last.{Last}
use Rattle.frame_player.specs.declared.last.Last.TheVariants as last

-- the last line, of which there is none after a read fault
abbrev pub last_line : Last → List ℕ
last_line (last.End lines frames live) = end_line lines frames live
last_line (last.Refused n c) = refused_line n c
last_line last.ReadFault = []

abbrev pub status_of : Last → Status
status_of (last.End lines frames live) = Done
status_of (last.Refused n c) = Refused n c
status_of last.ReadFault = ReadFault

-- the answer where the sink failed: a read fault stays one
abbrev pub after_fault : Status → Status
after_fault ReadFault = ReadFault
after_fault other = WriteFault

-- the status where the reading ended so, by what sending the rest came to
abbrev pub ended : Status → Result (Unit {0}) SinkFault → Status
ended status (Ok _) = status
ended status (Err why.Failed) = after_fault status
ended status (Err why.NoMemory) = NoMemory

-- how the reading of a source ends, and what that does to its count of faults
abbrev pub IsCountedAs : ℕ → ℕ → Status → Type 0
IsCountedAs before now Done = now ≡ before
IsCountedAs before now (Refused n c) = now ≡ before
IsCountedAs before now ReadFault = before < now
IsCountedAs before now other = ⊥
