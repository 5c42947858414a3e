-- The text so far goes on with each line, and each way out of the loop has the text of its ending.
use Rattle.std.proofs.Common.{◌≡◌, ℕ, ◌+◌, ◌∙◌, List, [], Option, None, Result, Ok, Err, ap, refl, arith, false}
use Rattle.pair_report.specs.declared.cause.Cause.{Cause}
use Rattle.pair_report.specs.declared.cause.Cause.TheVariants as cause
use Rattle.scene_lines.specs.Reading.{coming}
use Rattle.scene_words.specs.declared.command.Command.{Command}
use Rattle.scene_words.specs.declared.command.Command.TheVariants.{Blank, Header, Add, Move, Mask, Remove, Frame, BoxQ, PointQ, RayQ, SegQ, Cast, Near, Mark}
use Rattle.scene_words.specs.declared.command.Command.TheVariants.{Back}
use Rattle.scene_words.specs.declared.version.Version.{Version}
use Rattle.scene_words.specs.Printed.{line_of}
use Rattle.play_rules.specs.declared.status.Status.TheVariants.{Done, Refused}
use Rattle.play_rules.specs.Readable.{readable, unless_full}
use Rattle.play_rules.specs.Upgrade.{upgrading, upgraded}
use Rattle.frame_player.specs.declared.step.Step.TheVariants as what
use Rattle.frame_player.specs.Outlet.{outlet_of}
use Rattle.frame_player.proofs.LoopSteps.{begins, cut_short, ended_there, goes_on, next_command, no_last_line}
use Rattle.frame_player.proofs.LoopSteps.{read_fault_there, refused_there, says_within, unbegun_there}
use Rattle.frame_player.proofs.scene_upgrade.upgrade_lines.Goals as goal

-- there is room for one more box where none is kept
never_full : (said : Result Command Cause) → said ≡ unless_full 0 said
never_full (Err c) = refl
never_full (Ok Blank) = refl
never_full (Ok (Header version)) = refl
never_full (Ok (Add body masks group)) = refl
never_full (Ok (Move handle body)) = refl
never_full (Ok (Mask handle masks)) = refl
never_full (Ok (Remove handle)) = refl
never_full (Ok Frame) = refl
never_full (Ok (BoxQ body mask)) = refl
never_full (Ok (PointQ at mask)) = refl
never_full (Ok (RayQ ray mask entry)) = refl
never_full (Ok (SegQ seg mask)) = refl
never_full (Ok (Cast cast mask)) = refl
never_full (Ok (Near at want mask)) = refl
never_full (Ok Mark) = refl
never_full (Ok Back) = refl

always_room : (version : Option Version) (line : List ℕ) → readable version line ≡ unless_full 0 (readable version line)
always_room version line = never_full (readable version line)

pub lines-init : goal.lines-init
lines-init g c =
    let reader = c.in_ok-reader.reader in
    let made = c.in_ok-reader.ensures in
    let number : reader.number ≡ 0 = ap (λ r. r.number) made in
    record {
      same_sink = refl;
      said = begins upgrading (upgraded c.args.limit) c.args.limit (g.S.Source.left c.args.source.now)
          (outlet_of g.K.Sink.written g.K.Sink.faults g.K.Sink.since c.args.out.now) None reader (λ ls. refl) made refl c.requires.nothing;
      going_on = ap (λ r. r.ended) made;
      at_end = λ over. absurd (let goes : reader.over ≡ false = ap (λ r. r.over) made in cc);
      limit = ap (λ r. r.limit) made;
      number = omega (arith, number);
      count = refl;
    }

pub lines-preserved : goal.lines-preserved
lines-preserved g c =
    let left = g.S.Source.left in
    let inv = c.lines.invariant in
    let next = c.in-Command.ensures in
    let old = c.lines.reader in
    let new = c.next_step.new.reader in
    let version = c.lines.version in
    let said = c.in-Command.command in
    let sent = c.in_ok-send_command-in-Command.ensures in
    let number = next.number in
    let within = next.within in
    let limit_is = inv.limit in
    let limit_stays = next.limit in
    record {
      same_sink = sent.0 ∙ inv.same_sink;
      said = goes_on upgrading (upgraded c.args.limit) c.args.limit (left c.args.source.now) version old (left c.lines.source) inv.said version 0
          (always_room version) new (left c.next_step.new.source) said
          (next_command version 0 old new (left c.lines.source) (left c.next_step.new.source) said limit_is next.says next.rest next.past
          number next.over_stays) (line_of c.as_two.result) (ap line_of c.as_two.ensures.two) c.version_after-version.ensures sent.1;
      going_on = next.open;
      at_end = next.over_at_end;
      limit = limit_stays ∙ limit_is;
      number = omega (arith, limit_is, limit_stays, within);
      count = next.no_fault ∙ inv.count;
    }

pub returns-in_err-send_command-in-Command-clause-stopped : goal.returns-in_err-send_command-in-Command-clause-stopped
returns-in_err-send_command-in-Command-clause-stopped g c =
    let left = g.S.Source.left in
    let next = c.in-Command.ensures in
    let old = c.lines.reader in
    let new = c.next_step.new.reader in
    let version = c.lines.version in
    let said = c.in-Command.command in
    let fault = c.in_err-send_command-in-Command in
    let carried = c.from_residual-in_err-send_command-in-Command in
    cut_short upgrading (upgraded c.args.limit) c.args.limit (left c.args.source.now) version old (left c.lines.source) c.lines.invariant.said version 0
    (always_room version) new (left c.next_step.new.source) said
    (next_command version 0 old new (left c.lines.source) (left c.next_step.new.source) said c.lines.invariant.limit next.says next.rest next.past
    next.number next.over_stays)
    (line_of c.as_two.result) (ap line_of c.as_two.ensures.two) carried.result fault.field-0.0 carried.ensures.1 fault.ensures.1

pub returns-in-Refused-clause-said : goal.returns-in-Refused-clause-said
returns-in-Refused-clause-said g c =
    let left = g.S.Source.left in
    let next = c.in-Refused.ensures in
    let old = c.lines.reader in
    let version = c.lines.version in
    let n = c.in-Refused.line in
    let why = c.in-Refused.cause in
    let now = left c.next_step.new.source in
    no_last_line (upgraded c.args.limit) (left c.args.source.now) now (Refused n why)
    (refused_there upgrading (upgraded c.args.limit) c.args.limit (left c.args.source.now) version old (left c.lines.source) c.lines.invariant.said version 0
    (always_room version) c.next_step.new.reader.held now n why
    (says_within version 0 (old.number + 1) (what.Refused n why) (coming old.held (left c.lines.source)) c.lines.invariant.limit next.says)
    next.ahead next.small)

pub returns-in-ReadFault-clause-said : goal.returns-in-ReadFault-clause-said
returns-in-ReadFault-clause-said g c =
    let left = g.S.Source.left in
    let next = c.in-ReadFault.ensures in
    read_fault_there upgrading (upgraded c.args.limit) c.args.limit (left c.args.source.now) c.lines.version c.lines.reader (left c.lines.source)
    c.lines.invariant.said c.next_step.new.reader.held (left c.next_step.new.source) next.kept next.none_ended next.going_on

pub overflow_add-result : goal.overflow_add-result
overflow_add-result g c =
    let ended = c.in-End.ensures.counted in
    let number = c.lines.invariant.number in
    let most = c.requires.most_lines in
    omega (arith, ended, number, most)

pub returns-then-is_none-clause-said : goal.returns-then-is_none-clause-said
returns-then-is_none-clause-said g c =
    let left = g.S.Source.left in
    let next = c.in-End.ensures in
    let old = c.lines.reader in
    let version = c.lines.version in
    let k = c.in-End.lines in
    let now = left c.next_step.new.source in
    no_last_line (upgraded c.args.limit) (left c.args.source.now) now (Refused (k + 1) cause.Header)
    (unbegun_there upgrading (upgraded c.args.limit) c.args.limit (left c.args.source.now) version old (left c.lines.source) c.lines.invariant.said version 0
    (always_room version) c.next_step.new.reader.held now next.kept k
    (says_within version 0 (old.number + 1) (what.End k) (coming old.held (left c.lines.source)) c.lines.invariant.limit next.says)
    next.small c.if-is_none.ensures)

pub returns-in-End-clause-said : goal.returns-in-End-clause-said
returns-in-End-clause-said g c =
    let left = g.S.Source.left in
    let next = c.in-End.ensures in
    let old = c.lines.reader in
    let version = c.lines.version in
    let k = c.in-End.lines in
    let now = left c.next_step.new.source in
    no_last_line (upgraded c.args.limit) (left c.args.source.now) now Done
    (ended_there upgrading (upgraded c.args.limit) c.args.limit (left c.args.source.now) version old (left c.lines.source) c.lines.invariant.said version 0
    (always_room version) c.next_step.new.reader.held now next.kept k
    (says_within version 0 (old.number + 1) (what.End k) (coming old.held (left c.lines.source)) c.lines.invariant.limit next.says)
    [] refl c.if-is_none.ensures)
