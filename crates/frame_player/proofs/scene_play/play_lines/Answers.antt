-- The play so far goes on with each line, and each way out of the loop has the text of its ending.
use Rattle.std.proofs.Common.{◌≡◌, ℕ, ◌+◌, ◌<◌, ◌^◌, ◌∙◌, ◌++◌, Bool, List, [], IfSome, Ok, subst, sym, ap, refl, arith, true, false, length}
use Rattle.std.proofs.lemmas.List.{append-nil}
use Rattle.play_io.specs.declared.sink.SinkFault.TheVariants as why
use Rattle.pair_report.specs.PairReport.{end_line}
use Rattle.scene_lines.specs.Reading.{coming}
use Rattle.scene_lines.specs.SceneLines.{lines}
use Rattle.play_rules.specs.declared.status.Status.TheVariants.{ReadFault}
use Rattle.play_rules.specs.Counted.{IsCounted}
use Rattle.play_rules.specs.Outcome.{IsBegun, IsReplyTo}
use Rattle.play_rules.specs.OutcomeLaws.{nothing_begun}
use Rattle.play_rules.specs.Play.{playing, played, report}
use Rattle.play_rules.specs.Readable.{allowed_in, readable, unless_full}
use Rattle.play_rules.specs.World as world
use Rattle.play_rules.specs.World.{World, opening, reply}
use Rattle.frame_player.specs.Reached.{IsTextOf}
use Rattle.frame_player.specs.declared.step.Step.TheVariants as what
use Rattle.frame_player.specs.Outlet.{outlet_of, IsCutShort}
use Rattle.frame_player.specs.Owed.{owed}
use Rattle.frame_player.specs.Player.{world_of, live_in}
use Rattle.frame_player.proofs.LoopSteps.{begins, cut_short, ended_there, goes_on, next_command, read_fault_there, refused_there, says_within, unbegun_there}
use Rattle.frame_player.proofs.Sending.{on_fault, said_each}
use Rattle.frame_player.proofs.scene_play.play_lines.Goals as goal

-- a line is asked for where so many boxes are live
asks_at : (counts shows : Bool) (w : World) {live : ℕ} → live ≡ length (world.live_in w) → (line : List ℕ)
    → (playing counts shows).asks w line ≡ unless_full live (readable w.version line)
asks_at counts shows w is line = ap (λ k. unless_full k (readable w.version line)) (sym is)

pub lines-init : goal.lines-init
lines-init g c =
    let reader = c.in_ok-reader.reader in
    let player = c.args.player.now in
    let run = c.args.run.now in
    let made = c.in_ok-reader.ensures in
    let opens = c.requires.opening in
    let counts = g.B.BroadPhase.COUNTS in
    let shows = c.args.setup.now.options.exchanges in
    let limit = c.args.setup.now.limits.lines in
    let number : reader.number ≡ 0 = ap (λ r. r.number) made in
    let none : c.args.out.now.text.now.items ++ owed (live_in player.world) run ≡ [] = rw (c.requires.nothing, c.requires.asked) refl in
    record {
      same_sink = refl;
      said = begins (playing counts shows) (played shows limit) limit (g.S.Source.left c.args.source.now)
          (outlet_of g.K.Sink.written g.K.Sink.faults g.K.Sink.since c.args.out.now) opening reader
          (λ ls. c.uncounted_law.ensures counts shows limit ls c.requires.shown) made opens none;
      sound = c.requires.sound;
      counted = subst (λ n. IsCounted n player.world.time) (sym number) (subst (λ w. IsCounted 0 w.time) (sym opens) c.count_laws.ensures.opening);
      run = record { same = rw (c.requires.queries, c.requires.asked) refl; few = rw c.requires.asked (omega arith) };
      going_on = ap (λ r. r.ended) made;
      at_end = λ over. absurd (let goes : reader.over ≡ false = ap (λ r. r.over) made in cc);
      limit = ap (λ r. r.limit) made;
      number = omega (arith, number);
      count = refl;
    }

-- what passes is allowed in the world
pub obey-requires-clause-allowed : goal.obey-requires-clause-allowed
obey-requires-clause-allowed g c _ _ =
    let version = c.lines.player.version in
    ap (λ k. unless_full k (allowed_in version (Ok c.in-Command.command))) (sym c.live-live.ensures.live) ∙ c.in-Command.ensures.allowed

-- no number of the world is at its end after so few lines
pub obey-requires-clause-room : goal.obey-requires-clause-room
obey-requires-clause-room g c _ _ =
    let law = c.count_laws.ensures in
    let w = c.lines.player.world.time.now in
    let n = c.lines.reader.number in
    let small = c.lines.invariant.counted.now in
    let next = c.in-Command.ensures in
    let number = next.number in
    let within = next.within in
    let limit = next.limit in
    let limit_is = c.lines.invariant.limit in
    let most = c.args.setup.now.most_lines in
    let few : n < 2 ^ 28 = omega (arith, number, within, limit, limit_is, most) in record {
      add = law.add n w c.live-live.ensures.table few small;
      shift = λ handle. law.shift n w handle few small;
      frame = law.frame n w few small;
    }

pub lines-preserved : goal.lines-preserved
lines-preserved g c =
    let left = g.S.Source.left in
    let counts = g.B.BroadPhase.COUNTS in
    let shows = c.args.setup.now.options.exchanges in
    let limit = c.args.setup.now.limits.lines in
    let inv = c.lines.invariant in
    let next = c.in-Command.ensures in
    let old = c.lines.reader in
    let new = c.next_step.new.reader in
    let w = world_of c.lines.player.version c.lines.player.world in
    let live = c.live-live.result in
    let said = c.in-Command.command in
    let obey = c.in_ok-obey-in-Command.ensures in
    let number = next.number in
    let within = next.within in
    let limit_is = inv.limit in
    let limit_stays = next.limit in
    record {
      same_sink = obey.sent.0 ∙ inv.same_sink;
      said = goes_on (playing counts shows) (played shows limit) limit (left c.args.source.now) w old (left c.lines.source) inv.said
          w.version live (asks_at counts shows w c.live-live.ensures.live) new (left c.next_step.new.source) said
          (next_command w.version live old new (left c.lines.source) (left c.next_step.new.source) said limit_is next.says next.rest next.past
          number next.over_stays) (reply shows w said) refl obey.obeyed obey.sent.1;
      sound = obey.sound;
      counted = subst (λ n. IsCounted n c.obey.new.player.world.time) (sym number)
          (subst (λ v. IsCounted (old.number + 1) v.time) (sym obey.obeyed)
          (c.count_laws.ensures.after counts old.number w said c.live-live.ensures.table inv.counted));
      run = obey.run;
      going_on = next.open;
      at_end = next.over_at_end;
      limit = limit_stays ∙ limit_is;
      number = omega (arith, limit_is, limit_stays, within);
      count = next.no_fault ∙ inv.count;
    }

pub returns-in_err-reader-clause-stopped : goal.returns-in_err-reader-clause-stopped
returns-in_err-reader-clause-stopped g c =
    let here = outlet_of g.K.Sink.written g.K.Sink.faults g.K.Sink.since c.args.out.now in
    let known = g.K.Sink.written c.args.out.now.sink.now in
    let left = g.S.Source.left c.args.source.now in
    let text : List ℕ → List ℕ = λ given. report c.args.setup.now.options.exchanges c.args.setup.now.limits.lines (lines given true) in
    on_fault (λ fault. IsCutShort here here fault (IfSome left (λ given. IsBegun known known (text given))))
    c.from_residual.result why.NoMemory c.from_residual.ensures.1
    (record { part = nothing_begun left known text; count = refl; uncalled = λ _. refl })

pub returns-in_err-obey-in-Command-clause-stopped : goal.returns-in_err-obey-in-Command-clause-stopped
returns-in_err-obey-in-Command-clause-stopped g c =
    let left = g.S.Source.left in
    let counts = g.B.BroadPhase.COUNTS in
    let shows = c.args.setup.now.options.exchanges in
    let limit = c.args.setup.now.limits.lines in
    let next = c.in-Command.ensures in
    let w = world_of c.lines.player.version c.lines.player.world in
    let live = c.live-live.result in
    let said = c.in-Command.command in
    let fault = c.in_err-obey-in-Command in
    let carried = c.from_residual-in_err-obey-in-Command in
    cut_short (playing counts shows) (played shows limit) limit (left c.args.source.now) w c.lines.reader (left c.lines.source) c.lines.invariant.said
    w.version live (asks_at counts shows w c.live-live.ensures.live) c.next_step.new.reader (left c.next_step.new.source) said
    (next_command w.version live c.lines.reader c.next_step.new.reader (left c.lines.source) (left c.next_step.new.source) said c.lines.invariant.limit
    next.says next.rest next.past next.number next.over_stays) (reply shows w said) refl carried.result fault.field-0.0 carried.ensures.1 fault.ensures.sent.1

pub returns-in-Refused-clause-said : goal.returns-in-Refused-clause-said
returns-in-Refused-clause-said g c =
    let left = g.S.Source.left in
    let counts = g.B.BroadPhase.COUNTS in
    let shows = c.args.setup.now.options.exchanges in
    let limit = c.args.setup.now.limits.lines in
    let next = c.in-Refused.ensures in
    let old = c.lines.reader in
    let w = world_of c.lines.player.version c.lines.player.world in
    let live = c.live-live.result in
    refused_there (playing counts shows) (played shows limit) limit (left c.args.source.now) w old (left c.lines.source) c.lines.invariant.said
    w.version live (asks_at counts shows w c.live-live.ensures.live) c.next_step.new.reader.held (left c.next_step.new.source) c.in-Refused.line
    c.in-Refused.cause
    (says_within w.version live (old.number + 1) (what.Refused c.in-Refused.line c.in-Refused.cause) (coming old.held (left c.lines.source))
    c.lines.invariant.limit next.says) next.ahead next.small

pub returns-in-ReadFault-clause-said : goal.returns-in-ReadFault-clause-said
returns-in-ReadFault-clause-said g c =
    let left = g.S.Source.left in
    let shows = c.args.setup.now.options.exchanges in
    let limit = c.args.setup.now.limits.lines in
    let play = played shows limit in
    let next = c.in-ReadFault.ensures in
    let now = left c.next_step.new.source in
    said_each (left c.args.source.now) (λ given all. IsTextOf play given now all ReadFault) _
    (read_fault_there (playing g.B.BroadPhase.COUNTS shows) play limit (left c.args.source.now)
    (world_of c.lines.player.version c.lines.player.world) c.lines.reader (left c.lines.source) c.lines.invariant.said c.next_step.new.reader.held now
    next.kept next.none_ended next.going_on)
    (λ given all is. subst (λ text. IsReplyTo play given now text) (sym (append-nil all)) is)

pub overflow_add-result : goal.overflow_add-result
overflow_add-result g c =
    let ended = c.in-End.ensures.counted in
    let number = c.lines.invariant.number in
    let most = c.args.setup.now.most_lines in
    omega (arith, ended, number, most)

pub returns-then-is_none-clause-said : goal.returns-then-is_none-clause-said
returns-then-is_none-clause-said g c =
    let left = g.S.Source.left in
    let counts = g.B.BroadPhase.COUNTS in
    let shows = c.args.setup.now.options.exchanges in
    let limit = c.args.setup.now.limits.lines in
    let next = c.in-End.ensures in
    let old = c.lines.reader in
    let w = world_of c.lines.player.version c.lines.player.world in
    let live = c.live-live.result in
    unbegun_there (playing counts shows) (played shows limit) limit (left c.args.source.now) w old (left c.lines.source) c.lines.invariant.said
    w.version live (asks_at counts shows w c.live-live.ensures.live) c.next_step.new.reader.held (left c.next_step.new.source) next.kept c.in-End.lines
    (says_within w.version live (old.number + 1) (what.End c.in-End.lines) (coming old.held (left c.lines.source)) c.lines.invariant.limit next.says)
    next.small c.if-is_none.ensures

pub returns-in-End-clause-said : goal.returns-in-End-clause-said
returns-in-End-clause-said g c =
    let left = g.S.Source.left in
    let counts = g.B.BroadPhase.COUNTS in
    let shows = c.args.setup.now.options.exchanges in
    let limit = c.args.setup.now.limits.lines in
    let next = c.in-End.ensures in
    let old = c.lines.reader in
    let w = world_of c.lines.player.version c.lines.player.world in
    let live = c.live-live.result in
    let k = c.in-End.lines in
    ended_there (playing counts shows) (played shows limit) limit (left c.args.source.now) w old (left c.lines.source) c.lines.invariant.said
    w.version live (asks_at counts shows w c.live-live.ensures.live) c.next_step.new.reader.held (left c.next_step.new.source) next.kept k
    (says_within w.version live (old.number + 1) (what.End k) (coming old.held (left c.lines.source)) c.lines.invariant.limit next.says)
    (end_line k c.frames.result live)
    (ap (λ f. end_line k f live) c.frames.ensures ∙ ap (λ l. end_line k w.time.now.frames l) c.live-live.ensures.live) c.if-is_none.ensures
