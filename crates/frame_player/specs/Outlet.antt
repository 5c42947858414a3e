-- How a text goes on to a sink, a part at a time.
use Rattle.std.specs.Prelude.{◌≡◌, ℕ, List, ◌++◌, Option, Result, Ok, Err}
use Rattle.std.specs.Io.KnownBytes.{append_known}
use Rattle.play_io.specs.declared.sink.SinkFault.{SinkFault}
use Rattle.play_io.specs.Sink.{SinkCount}
use Rattle.play_rules.specs.Outcome.{IsBegun}
use Rattle.frame_player.specs.declared.report.Report.{Report}

-- A sink: what is written, how often it failed, and how often it was called since.
pub record Outlet : Type 0 where
  pub written : Option (List ℕ)
  pub faults : ℕ
  pub since : Option ℕ

abbrev pub outlet : Option (List ℕ) → ℕ → Option ℕ → Outlet
outlet written faults since = record { written = written; faults = faults; since = since }

-- once it has failed it isn't called again
abbrev pub IsUncalled : Outlet → Outlet → Type 0
IsUncalled before now = before.faults ≡ 0 → now.since ≡ before.since

-- The front of a text was written, and the rest is held.
pub record IsHanded (before now : Outlet) (text held : List ℕ) : Type 0 where
  pub part : List ℕ
  pub split : text ≡ part ++ held
  pub written : now.written ≡ append_known before.written part
  pub unfailed : now.faults ≡ before.faults
  pub uncalled : IsUncalled before now

-- A part of a text was written, and no more can be.
pub record IsStopped (before now : Outlet) (text : List ℕ) (fault : SinkFault) : Type 0 where
  pub begun : IsBegun before.written now.written text
  pub count : SinkCount {T = Unit {0}} before.faults now.faults (Err fault)
  pub uncalled : IsUncalled before now

-- what sending a text comes to
abbrev pub IsSent : {T : Type 0} → Outlet → Outlet → List ℕ → List ℕ → Result T SinkFault → Type 0
IsSent before now text held (Ok _) = IsHanded before now text held
IsSent before now text held (Err fault) = IsStopped before now text fault

-- what the sink of a report tells, by the ghost members of its kind
abbrev pub outlet_of : {K : Type 0} → (K → Option (List ℕ)) → (K → ℕ) → (K → Option ℕ) → Report K → Outlet
outlet_of written faults since out = outlet (written out.sink.now) (faults out.sink.now) (since out.sink.now)

-- what sending a text by a report comes to: its sink stays the same one
abbrev pub IsSentBy : {K T : Type 0} → (K → Option (List ℕ)) → (K → ℕ) → (K → Option ℕ) → Report K → Report K
    → List ℕ → List ℕ → Result T SinkFault → Type 0
IsSentBy written faults since before now text held result =
    (now.sink.ghost_name ≡ before.sink.ghost_name) × IsSent (outlet_of written faults since before) (outlet_of written faults since now) text held result

-- what a piece of text comes to that goes behind the text that a report holds
abbrev pub IsAppended : {K T : Type 0} → (K → Option (List ℕ)) → (K → ℕ) → (K → Option ℕ) → Report K → Report K
    → List ℕ → Result T SinkFault → Type 0
IsAppended written faults since before now piece result =
    IsSentBy written faults since before now (before.text.now.items ++ piece) now.text.now.items result

-- What was written and what is held are a whole of this kind.
pub record IsSaid (before now : Outlet) (held : List ℕ) (P : List ℕ → Type 0) : Type 0 where
  pub done : List ℕ
  pub written : now.written ≡ append_known before.written done
  pub unfailed : now.faults ≡ before.faults
  pub uncalled : IsUncalled before now
  pub whole : P (done ++ held)

-- A play is cut short by a fault of the sink, or for want of memory: this part of its report is written, and no more can be.
pub record IsCutShort (before now : Outlet) (fault : SinkFault) (begun : Type 0) : Type 0 where
  pub part : begun
  pub count : SinkCount {T = Unit {0}} before.faults now.faults (Err fault)
  pub uncalled : IsUncalled before now

-- the same two of a report's sink
abbrev pub IsSaidBy : {K : Type 0} → (K → Option (List ℕ)) → (K → ℕ) → (K → Option ℕ) → Report K → Report K
    → List ℕ → (List ℕ → Type 0) → Type 0
IsSaidBy written faults since before now held P = IsSaid (outlet_of written faults since before) (outlet_of written faults since now) held P

abbrev pub IsCutShortBy : {K : Type 0} → (K → Option (List ℕ)) → (K → ℕ) → (K → Option ℕ) → Report K → Report K
    → SinkFault → Type 0 → Type 0
IsCutShortBy written faults since before now fault begun =
    IsCutShort (outlet_of written faults since before) (outlet_of written faults since now) fault begun
