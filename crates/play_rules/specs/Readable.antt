-- What a line says where it stands, or the first cause why it is refused.
use Rattle.std.specs.Prelude.{ℕ, nat_lt, List, if◌then◌else◌, Option, Some, None, Result, Ok, Err}
use Rattle.fixed_box.specs.declared.TheConstants.{SLOTS}
use Rattle.pair_report.specs.declared.cause.Cause.{Cause}
use Rattle.pair_report.specs.declared.cause.Cause.TheVariants as cause
use Rattle.scene_words.specs.declared.command.Command.{Command}
use Rattle.scene_words.specs.declared.command.Command.TheVariants.{Blank, Header, Add}
use Rattle.scene_words.specs.declared.line_fault.LineFault.{LineFault}
use Rattle.scene_words.specs.declared.line_fault.LineFault.TheVariants as fault
use Rattle.scene_words.specs.declared.version.Version.{Version}
use Rattle.scene_words.specs.declared.version.Version.TheVariants.{One}
use Rattle.scene_words.specs.SceneWords.{command}

-- the cause of the same name
abbrev pub cause_of : LineFault → Cause
cause_of fault.Header = cause.Header
cause_of fault.Word = cause.Word
cause_of fault.Count = cause.Count
cause_of fault.Handle = cause.Handle
cause_of fault.Number = cause.Number
cause_of fault.Range = cause.Range
cause_of fault.Mask = cause.Mask
cause_of fault.Owner = cause.Owner
cause_of fault.Inverted = cause.Inverted

-- before a header only that and blank lines pass
abbrev pub allowed_first : Result Command LineFault → Result Command Cause
allowed_first (Ok Blank) = Ok Blank
allowed_first (Ok (Header version)) = Ok (Header version)
allowed_first _ = Err cause.Header

-- later no second header passes
abbrev pub allowed_later : Result Command LineFault → Result Command Cause
allowed_later (Err f) = Err (cause_of f)
allowed_later (Ok (Header version)) = Err cause.Header
allowed_later (Ok other) = Ok other

-- what passes where a header named this version, or none came
abbrev pub allowed_in : Option Version → Result Command LineFault → Result Command Cause
allowed_in None said = allowed_first said
allowed_in (Some version) said = allowed_later said

-- the version that a line is read under: that of the header, and before it version 1
abbrev pub reads_under : Option Version → Version
reads_under None = One
reads_under (Some version) = version

-- What a line says under the version that a header named, or the first cause why it is refused, room for boxes aside.
abbrev pub readable : Option Version → List ℕ → Result Command Cause
readable version line = allowed_in version (command (reads_under version) line)

-- nor does a box pass for which there is no slot, where so many boxes are live
abbrev pub unless_full : ℕ → Result Command Cause → Result Command Cause
unless_full live (Ok (Add body masks group)) = if nat_lt live SLOTS then Ok (Add body masks group) else Err cause.Full
unless_full live said = said
