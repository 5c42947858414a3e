-- Each answer of the reader says what the next line comes to.
use Rattle.std.proofs.Common.{◌≡◌, ◌+◌, refl, sym, ap, subst, ◌∙◌, IfSome, Result, Ok}
use Rattle.pair_report.specs.declared.cause.Cause.{Cause}
use Rattle.scene_lines.specs.Reading.{coming}
use Rattle.scene_words.specs.declared.command.Command.{Command}
use Rattle.scene_words.specs.declared.line_fault.LineFault.{LineFault}
use Rattle.scene_words.specs.SceneWords.{command}
use Rattle.play_rules.specs.Readable.{allowed_in, reads_under, unless_full}
use Rattle.frame_player.specs.declared.step.Step.{Step}
use Rattle.frame_player.specs.Step.{IsAhead, IsPast, IsStepOf, IfCommand, OnCommand, OnRefused, UnlessReadFault}
use Rattle.frame_player.proofs.Steps.{line_says, long_says, too_many_says, line_past, line_cut, nothing_cut, command_again, where_commanded, where_refused}
use Rattle.frame_player.proofs.step.next_step.Goals as goal

pub returns-in-Line-clause-says : goal.returns-in-Line-clause-says
returns-in-Line-clause-says g c =
    let reader = c.args.reader.now in
    let o = coming reader.held (g.S.Source.left c.args.source.now) in
    let P : Step → Type 0 = λ s. UnlessReadFault s (IfSome o (λ bytes. IsStepOf c.args.version c.args.live reader.limit (reader.number + 1) bytes s)) in
    let comes : Result Command LineFault → Result Command Cause = λ read. unless_full c.args.live (allowed_in c.args.version read) in
    let read : c.read_command.result ≡ command (reads_under c.args.version) c.next.new.self.line =
    c.read_command.ensures.command ∙ ap (λ v. command v c.line.result.now) c.reads_under.ensures
    ∙ ap (command (reads_under c.args.version)) c.line.ensures.value in
    subst P (sym c.step_for.ensures.step)
    (line_says c.line_laws.ensures.first c.args.version c.args.live reader.limit reader.number c.number.result
    (c.number.ensures.value ∙ c.in-Line.ensures.number) o c.next.new.self.line (comes c.read_command.result) (ap comes read) c.in-Line.ensures.line
    c.in-Line.ensures.exact)

pub returns-in-Long-clause-says : goal.returns-in-Long-clause-says
returns-in-Long-clause-says g c =
    let reader = c.args.reader.now in
    long_says c.line_laws.ensures.first c.args.version c.args.live reader.limit reader.number c.number-in-Long.result
    (c.number-in-Long.ensures.value ∙ c.in-Long.ensures.number) (coming reader.held (g.S.Source.left c.args.source.now)) c.in-Long.ensures.exact

pub returns-in-TooMany-clause-says : goal.returns-in-TooMany-clause-says
returns-in-TooMany-clause-says g c =
    let reader = c.args.reader.now in
    too_many_says c.line_laws.ensures.first c.args.version c.args.live reader.limit reader.number c.number-in-TooMany.result
    (c.number-in-TooMany.ensures.value ∙ c.in-TooMany.ensures.number) (coming reader.held (g.S.Source.left c.args.source.now)) c.in-TooMany.ensures.exact

pub returns-in-Line-clause-allowed : goal.returns-in-Line-clause-allowed
returns-in-Line-clause-allowed g c =
    let version = c.args.version in
    let live = c.args.live in
    let P : Step → Type 0 = λ s. IfCommand s (λ said. unless_full live (allowed_in version (Ok said)) ≡ Ok said) in
    subst P (sym c.step_for.ensures.step)
    (command_again version live c.number.result c.read_command.result (unless_full live (allowed_in version c.read_command.result)) refl)

pub returns-in-Line-clause-past : goal.returns-in-Line-clause-past
returns-in-Line-clause-past g c =
    let o = coming c.args.reader.now.held (g.S.Source.left c.args.source.now) in
    let over = c.next.new.self.over in
    let Q : Type 0 = IfSome o (λ bytes. IsPast bytes over) in
    let P : Step → Type 0 = λ s. OnCommand s Q in
    subst P (sym c.step_for.ensures.step)
    (where_commanded c.number.result (unless_full c.args.live (allowed_in c.args.version c.read_command.result)) Q
    (line_past c.line_laws.ensures.one_feed c.line_laws.ensures.ended o over c.in-Line.ensures.last_at_end))

pub returns-in-Line-clause-ahead : goal.returns-in-Line-clause-ahead
returns-in-Line-clause-ahead g c =
    let o = coming c.args.reader.now.held (g.S.Source.left c.args.source.now) in
    let now = g.S.Source.left c.next.new.source in
    let held = c.next.new.self.held in
    let P : Step → Type 0 = λ s. OnRefused s (IsAhead o held now) in
    subst P (sym c.step_for.ensures.step)
    (where_refused c.number.result (unless_full c.args.live (allowed_in c.args.version c.read_command.result)) (IsAhead o held now)
    (line_cut c.line_laws.ensures.in_parts c.line_laws.ensures.near o now held c.next.new.self.line c.in-Line.ensures.rest c.in-Line.ensures.line
    c.in-Line.ensures.short))

pub returns-in-Long-clause-ahead : goal.returns-in-Long-clause-ahead
returns-in-Long-clause-ahead g c =
    nothing_cut (coming c.args.reader.now.held (g.S.Source.left c.args.source.now)) (g.S.Source.left c.next.new.source) c.next.new.self.held
    c.in-Long.ensures.kept

pub returns-in-TooMany-clause-ahead : goal.returns-in-TooMany-clause-ahead
returns-in-TooMany-clause-ahead g c =
    nothing_cut (coming c.args.reader.now.held (g.S.Source.left c.args.source.now)) (g.S.Source.left c.next.new.source) c.next.new.self.held
    c.in-TooMany.ensures.kept
