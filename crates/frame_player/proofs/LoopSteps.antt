-- What each answer of the reading makes of the text so far, in any loop over the lines of a scene.
use Rattle.std.proofs.Common.{◌≡◌, ℕ, ◌+◌, ◌≤◌, ◌++◌, true, false, List, [], length, Option, IfSome, IfErr, option_map, Result}
use Rattle.std.proofs.Common.{refl, sym, subst}
use Rattle.std.specs.Result.{IsErrAnd}
use Rattle.std.proofs.lemmas.List.{append-nil}
use Rattle.pair_report.specs.declared.cause.Cause.{Cause}
use Rattle.pair_report.specs.declared.cause.Cause.TheVariants as cause
use Rattle.play_io.specs.declared.sink.SinkFault.{SinkFault}
use Rattle.scene_lines.specs.declared.TheConstants.{BUFFER_LEN}
use Rattle.scene_lines.specs.Reading.{Reading, coming}
use Rattle.scene_lines.specs.SceneLines.{lines, past_line}
use Rattle.scene_words.specs.declared.command.Command.{Command}
use Rattle.scene_words.specs.declared.version.Version.{Version}
use Rattle.play_rules.specs.declared.status.Status.{Status}
use Rattle.play_rules.specs.declared.status.Status.TheVariants.{Done, Refused, ReadFault}
use Rattle.play_rules.specs.Course.{Course, Played, run_from, whole}
use Rattle.play_rules.specs.Outcome.{IsBegun}
use Rattle.play_rules.specs.OutcomeLaws.{append_known-nil}
use Rattle.play_rules.specs.Readable.{readable, unless_full}
use Rattle.frame_player.specs.declared.step.Step.{Step}
use Rattle.frame_player.specs.declared.step.Step.TheVariants as what
use Rattle.frame_player.specs.Reached.{IsReached, IsTextOf}
use Rattle.frame_player.proofs.ReachedLaws.{opened, line_played, line_refused, input_ended, input_unbegun, read_failed, replied_within}
use Rattle.frame_player.specs.Step.{IsStepOf, IsPast, IsAhead}
use Rattle.frame_player.specs.Outlet.{Outlet, IsHanded, IsStopped, IsSaid, IsCutShort}
use Rattle.frame_player.proofs.Sending.{begun_within, on_some, said_each, said_on, said_stopped, on_fault}

-- what an answer says under the reader's own limit it says under the limit that the reader was made with
pub says_within : (version : Option Version) (live n : ℕ) (step : Step) (o : Option (List ℕ)) {own limit : ℕ} → own ≡ limit
    → IfSome o (λ bytes. IsStepOf version live own n bytes step) → IfSome o (λ bytes. IsStepOf version live limit n bytes step)
says_within version live n step o same says = subst (λ l. IfSome o (λ bytes. IsStepOf version live l n bytes step)) same says

-- What next_step tells of a line that passes: it comes to this command, and what comes is what stands behind it.
pub record IsNextCommand (version : Option Version) (live limit : ℕ) (old new : Reading) (was now : Option (List ℕ)) (command : Command) : Type 0 where
  pub says : IfSome (coming old.held was) (λ bytes. IsStepOf version live limit (old.number + 1) bytes (what.Command command))
  pub rest : coming new.held now ≡ option_map past_line (coming old.held was)
  pub past : IfSome (coming old.held was) (λ bytes. IsPast bytes new.over)
  pub number : new.number ≡ old.number + 1
  pub over_stays : old.over ≡ true → new.over ≡ true

pub next_command : (version : Option Version) (live : ℕ) (old new : Reading) (was now : Option (List ℕ)) (command : Command) {limit : ℕ}
    → old.limit ≡ limit → IfSome (coming old.held was) (λ bytes. IsStepOf version live old.limit (old.number + 1) bytes (what.Command command))
    → coming new.held now ≡ option_map past_line (coming old.held was) → IfSome (coming old.held was) (λ bytes. IsPast bytes new.over)
    → new.number ≡ old.number + 1 → (old.over ≡ true → new.over ≡ true) → IsNextCommand version live limit old new was now command
next_command version live old new was now command same says rest past number over_stays = record {
  says = says_within version live (old.number + 1) (what.Command command) (coming old.held was) same says;
  rest = rest;
  past = past;
  number = number;
  over_stays = over_stays;
}

-- a text without a last line
pub no_last_line : {a b : Outlet} {held : List ℕ} (play : List (List ℕ) → Played) (source left : Option (List ℕ)) (status : Status)
    → IsSaid a b held (λ all. IfSome source (λ given. IsTextOf play given left (all ++ []) status))
    → IsSaid a b held (λ all. IfSome source (λ given. IsTextOf play given left all status))
no_last_line play source left status said =
    said_each source (λ given all. IsTextOf play given left (all ++ []) status) (λ given all. IsTextOf play given left all status) said
    (λ given all is. subst (λ text. IsTextOf play given left text status) (append-nil all) is)

module _ {W : Type 0} (course : Course W) (play : List (List ℕ) → Played) (limit : ℕ) (source : Option (List ℕ)) where
  -- Where the loop stands between two lines: the text so far is what a run in this state has come to, of what the source told.
  abbrev pub IsAt : Option (List ℕ) → Reading → W → List ℕ → Type 0
  IsAt left reader w all = IfSome source (λ given. IsReached course play limit given left reader.held reader.over w (reader.number + 1) all)

  -- nothing is said before the first line
  pub begins : (a : Outlet) (start : W) (reader : Reading) {w : W} {held : List ℕ}
      → ((ls : List (List ℕ)) → run_from course limit start 1 ls ≡ play ls)
      → reader ≡ record { limit = limit; line = []; number = 0; ended = false; over = false; held = [] } → w ≡ start → held ≡ []
      → IsSaid a a held (IsAt source reader w)
  begins a start reader {w} {held} runs fresh starts none = record {
    done = [];
    written = append_known-nil a.written;
    unfailed = refl;
    uncalled = λ _. refl;
    whole = opened course play limit start source reader w held runs fresh starts none;
  }

  module _ (w : W) (old : Reading) (was : Option (List ℕ)) {a b : Outlet} {held : List ℕ} (said : IsSaid a b held (IsAt was old w)) where
    -- a read failed
    pub read_fault_there : (later : List ℕ) (now : Option (List ℕ)) → coming later now ≡ coming old.held was → lines later false ≡ []
        → old.over ≡ false → IsSaid a b held (λ all. IfSome source (λ given. IsTextOf play given now all ReadFault))
    read_fault_there later now kept unended goes =
        said_each source _ _ said (λ given all reached. read_failed reached later now kept unended goes)

    module _ (version : Option Version) (live : ℕ) (asks : (line : List ℕ) → course.asks w line ≡ unless_full live (readable version line)) where
      module _ (new : Reading) (now : Option (List ℕ)) (command : Command) (next : IsNextCommand version live limit old new was now command)
          (piece : List ℕ) (is : piece ≡ course.text w command) where
        played_on : (given all : List ℕ) → IsReached course play limit given was old.held old.over w (old.number + 1) all
            → IsReached course play limit given now new.held new.over (course.after w command) (old.number + 1 + 1) (all ++ piece)
        played_on given all reached =
            subst (λ text. IsReached course play limit given now new.held new.over (course.after w command) (old.number + 1 + 1) (all ++ text)) (sym is)
            (line_played reached version live asks command new.held now new.over next.says next.rest next.past next.over_stays)

        -- the text of the command went on
        pub goes_on : {c : Outlet} {left : List ℕ} {later : W} → later ≡ course.after w command → IsHanded b c (held ++ piece) left
            → IsSaid a c left (IsAt now new later)
        goes_on {c} {left} {later} after sent =
            said_on (IsAt was old w) (IsAt now new later) a b c held piece left said sent
            (λ all ok. on_some source ok (λ given reached.
            subst (λ v. IsReached course play limit given now new.held new.over v (new.number + 1) (all ++ piece)) (sym after)
            (subst (λ n. IsReached course play limit given now new.held new.over (course.after w command) (n + 1) (all ++ piece)) (sym next.number)
            (played_on given all reached))))

        -- a fault came before all of it went on
        pub cut_short : {T : Type 0} {c : Outlet} (r : Result T SinkFault) (fault : SinkFault) → IsErrAnd r (λ e. e ≡ fault)
            → IsStopped b c (held ++ piece) fault
            → IfErr r (λ f. IsCutShort a c f (IfSome source (λ given. IsBegun a.written c.written (whole (play (lines given true))))))
        cut_short {c = c} r fault carried stops =
            let stop = said_stopped (IsAt was old w) a b c held piece fault said stops in
            on_fault (λ f. IsCutShort a c f (IfSome source (λ given. IsBegun a.written c.written (whole (play (lines given true)))))) r fault carried
            (record {
              part = on_some source said.whole (λ given reached.
                  begun_within a.written c.written ((said.done ++ held) ++ piece) (whole (play (lines given true))) stop.begun
                  (replied_within (played_on given (said.done ++ held) reached)));
              count = stop.count;
              uncalled = stop.uncalled;
            })

      -- the line is refused
      pub refused_there : (later : List ℕ) (now : Option (List ℕ)) (line : ℕ) (why : Cause)
          → IfSome (coming old.held was) (λ bytes. IsStepOf version live limit (old.number + 1) bytes (what.Refused line why))
          → IsAhead (coming old.held was) later now → length later ≤ BUFFER_LEN
          → IsSaid a b held (λ all. IfSome source (λ given. IsTextOf play given now (all ++ course.last_refused line why) (Refused line why)))
      refused_there later now line why says ahead small =
          said_each source _ _ said (λ given all reached. line_refused reached version live asks line why later now says ahead small)

      module _ (later : List ℕ) (now : Option (List ℕ)) (kept : coming later now ≡ coming old.held was) (k : ℕ)
          (says : IfSome (coming old.held was) (λ bytes. IsStepOf version live limit (old.number + 1) bytes (what.End k))) where
        -- the input ended where no header came
        pub unbegun_there : length later ≤ BUFFER_LEN → course.is_begun w ≡ false
            → IsSaid a b held (λ all. IfSome source (λ given.
            IsTextOf play given now (all ++ course.last_refused (k + 1) cause.Header) (Refused (k + 1) cause.Header)))
        unbegun_there small begun = said_each source _ _ said (λ given all reached. input_unbegun reached version live k says later now kept small begun)

        -- it ended where one came
        pub ended_there : (last : List ℕ) → last ≡ course.last w k → course.is_begun w ≡ true
            → IsSaid a b held (λ all. IfSome source (λ given. IsTextOf play given now (all ++ last) Done))
        ended_there last is begun =
            said_each source _ _ said (λ given all reached.
            subst (λ text. IsTextOf play given now (all ++ text) Done) (sym is) (input_ended reached version live k says later now kept begun))
