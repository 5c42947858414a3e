-- A scene that is upgraded whole plays as what it is upgraded to.
use Rattle.std.proofs.Common.{◌≡◌, ◌⊎◌, inl, inr, ℕ, ◌+◌, ◌-◌, ◌≤◌, Bool, true, false, cond, nat_lt, List, [], ◌∷◌, ◌++◌}
use Rattle.std.proofs.Common.{length, is_some, Option, Some, None, Result, Ok, Err, refl, sym, ap, subst, ◌∙◌, arith}
use Rattle.std.proofs.lemmas.Bool.Decides.{nat_tests}
use Rattle.std.proofs.lemmas.List.{append-nil}
use Rattle.fixed_box.specs.declared.TheConstants.{SLOTS}
use Rattle.pair_report.specs.declared.cause.Cause.{Cause}
use Rattle.pair_report.specs.declared.cause.Cause.TheVariants as cause
use Rattle.pair_report.specs.PairReport.{end_line}
use Rattle.scene_lines.specs.SceneLines.{lines}
use Rattle.scene_lines.specs.declared.TheConstants.{LONGEST_LINE}
use Rattle.scene_words.specs.declared.command.Command.{Command}
use Rattle.scene_words.specs.declared.command.Command.TheVariants.{Blank, Header, Add, Move, Mask, Remove, Frame, BoxQ, PointQ, RayQ, SegQ, Cast, Near, Mark}
use Rattle.scene_words.specs.declared.command.Command.TheVariants.{Back}
use Rattle.scene_words.specs.declared.line_fault.LineFault.{LineFault}
use Rattle.scene_words.specs.declared.version.Version.{Version}
use Rattle.scene_words.specs.declared.version.Version.TheVariants.{One, Two}
use Rattle.scene_words.specs.Printed.{printed, line_of}
use Rattle.scene_words.specs.Ranges.{IsInRange}
use Rattle.scene_words.specs.SceneWords.{command}
use Rattle.play_rules.specs.declared.status.Status.TheVariants.{Done}
use Rattle.play_rules.specs.Course.{Course, Played, within_limits, refused_at, ended_at, reply_first, step, run_from, whole}
use Rattle.play_rules.specs.CourseLaws.{asked_within, no_replies}
use Rattle.play_rules.specs.Play.{playing, report}
use Rattle.play_rules.specs.Readable.{allowed_first, allowed_later, readable, unless_full}
use Rattle.play_rules.specs.Upgrade.{version_after, as_two, upgrading, upgraded}
use Rattle.play_rules.specs.World.{World, opening, live_in, after, reply}
use Rattle.play_rules.proofs.PrintedLines.{IsLegible, first_read}

-- a command of version 2 is in range where the command is
pub in_range_two : (c : Command) → IsInRange c → IsInRange (as_two c)
in_range_two Blank h = h
in_range_two (Header version) h = tt
in_range_two (Add body masks group) h = h
in_range_two (Move handle body) h = h
in_range_two (Mask handle masks) h = h
in_range_two (Remove handle) h = h
in_range_two Frame h = h
in_range_two (BoxQ body mask) h = h
in_range_two (PointQ at mask) h = h
in_range_two (RayQ ray mask entry) h = h
in_range_two (SegQ seg mask) h = h
in_range_two (Cast cast mask) h = h
in_range_two (Near at want mask) h = h
in_range_two Mark h = h
in_range_two Back h = h

-- what is known of the grammar: what a line says can be printed, and blank lines and headers are read alike by both versions
pub record IsGrammar : Type 0 where
  pub legible : (version : Version) (line : List ℕ) (c : Command) → command version line ≡ Ok c → IsLegible Two (as_two c)
  pub blank : command One (printed Blank) ≡ Ok Blank
  pub header : command One (printed (Header Two)) ≡ Ok (Header Two)

-- a command that passes where a header came is the one that the line says, and passes as one of version 2
kept : (d c : Command) → ◌≡◌ {A = Result Command Cause} (Ok d) (Ok c) → allowed_later (Ok (as_two d)) ≡ Ok (as_two d)
    → ◌≡◌ {A = Result Command LineFault} (Ok d) (Ok c) × (allowed_later (Ok (as_two c)) ≡ Ok (as_two c))
kept d c h passes =
    let same : d ≡ c = cc in
    (ap Ok same, subst (λ x. allowed_later (Ok (as_two x)) ≡ Ok (as_two x)) same passes)

said_later : (said : Result Command LineFault) (c : Command) → allowed_later said ≡ Ok c
    → (said ≡ Ok c) × (allowed_later (Ok (as_two c)) ≡ Ok (as_two c))
said_later (Ok Blank) c h = kept Blank c h refl
said_later (Ok (Header version)) c h = absurd (cc)
said_later (Ok (Add body masks group)) c h = kept (Add body masks group) c h refl
said_later (Ok (Move handle body)) c h = kept (Move handle body) c h refl
said_later (Ok (Mask handle masks)) c h = kept (Mask handle masks) c h refl
said_later (Ok (Remove handle)) c h = kept (Remove handle) c h refl
said_later (Ok Frame) c h = kept Frame c h refl
said_later (Ok (BoxQ body mask)) c h = kept (BoxQ body mask) c h refl
said_later (Ok (PointQ at mask)) c h = kept (PointQ at mask) c h refl
said_later (Ok (RayQ ray mask entry)) c h = kept (RayQ ray mask entry) c h refl
said_later (Ok (SegQ seg mask)) c h = kept (SegQ seg mask) c h refl
said_later (Ok (Cast cast mask)) c h = kept (Cast cast mask) c h refl
said_later (Ok (Near at want mask)) c h = kept (Near at want mask) c h refl
said_later (Ok Mark) c h = kept Mark c h refl
said_later (Ok Back) c h = kept Back c h refl
said_later (Err e) c h = absurd (cc)

-- where so many boxes are live, a command passes or is refused as it would be in version 2
abbrev PassesAlike : ℕ → Command → Type 0
PassesAlike live c = ((unless_full live (Ok c) ≡ Ok c) × (unless_full live (Ok (as_two c)) ≡ Ok (as_two c)))
    ⊎ ((unless_full live (Ok c) ≡ Err cause.Full) × (unless_full live (Ok (as_two c)) ≡ Err cause.Full))

passes_alike : (live : ℕ) (c : Command) → PassesAlike live c
passes_alike live Blank = inl (refl, refl)
passes_alike live (Header version) = inl (refl, refl)
passes_alike live (Add body masks group) =
    elim (nat_lt live SLOTS) as (λ b. let said : Result Command Cause = cond b (Ok (Add body masks group)) (Err cause.Full) in
    ((said ≡ Ok (Add body masks group)) × (said ≡ Ok (Add body masks group))) ⊎ ((said ≡ Err cause.Full) × (said ≡ Err cause.Full))) [
      | true ↦ inl (refl, refl)
      | false ↦ inr (refl, refl)
    ]
passes_alike live (Move handle body) = inl (refl, refl)
passes_alike live (Mask handle masks) = inl (refl, refl)
passes_alike live (Remove handle) = inl (refl, refl)
passes_alike live Frame = inl (refl, refl)
passes_alike live (BoxQ body mask) = inl (refl, refl)
passes_alike live (PointQ at mask) = inl (refl, refl)
passes_alike live (RayQ ray mask entry) = inl (refl, refl)
passes_alike live (SegQ seg mask) = inl (refl, refl)
passes_alike live (Cast cast mask) = inl (refl, refl)
passes_alike live (Near at want mask) = inl (refl, refl)
passes_alike live Mark = inl (refl, refl)
passes_alike live Back = inl (refl, refl)

-- the version of the upgraded scene at the same line
abbrev two_where : Option Version → Option Version
two_where None = None
two_where (Some version) = Some Two

-- The same world where the upgraded scene is played.
abbrev twin : World → World
twin w = record w { version = two_where w.version }

headed_alike : (v : Option Version) → is_some (two_where v) ≡ is_some v
headed_alike None = refl
headed_alike (Some version) = refl

-- the two worlds go on alike
twin_after : (w : World) (c : Command) → after true (twin w) (as_two c) ≡ twin (after true w c)
twin_after w Blank = refl
twin_after w (Header version) = refl
twin_after w (Add body masks group) = refl
twin_after w (Move handle body) = refl
twin_after w (Mask handle masks) = refl
twin_after w (Remove handle) = refl
twin_after w Frame = refl
twin_after w (BoxQ body mask) = refl
twin_after w (PointQ at mask) = refl
twin_after w (RayQ ray mask entry) = refl
twin_after w (SegQ seg mask) = refl
twin_after w (Cast cast mask) = refl
twin_after w (Near at want mask) = refl
twin_after w Mark = refl
twin_after w Back = refl

-- the version that was named is the same for both courses
same_version : (w : World) (c : Command) → version_after w.version c ≡ (after true w c).version
same_version w Blank = refl
same_version w (Header version) = refl
same_version w (Add body masks group) = refl
same_version w (Move handle body) = refl
same_version w (Mask handle masks) = refl
same_version w (Remove handle) = refl
same_version w Frame = refl
same_version w (BoxQ body mask) = refl
same_version w (PointQ at mask) = refl
same_version w (RayQ ray mask entry) = refl
same_version w (SegQ seg mask) = refl
same_version w (Cast cast mask) = refl
same_version w (Near at want mask) = refl
same_version w Mark = refl
same_version w Back = refl

twin_reply : (shows : Bool) (w : World) (c : Command) → reply shows (twin w) (as_two c) ≡ reply shows w c
twin_reply shows w Blank = refl
twin_reply shows w (Header version) = refl
twin_reply shows w (Add body masks group) = refl
twin_reply shows w (Move handle body) = refl
twin_reply shows w (Mask handle masks) = refl
twin_reply shows w (Remove handle) = refl
twin_reply shows w Frame = refl
twin_reply shows w (BoxQ body mask) = refl
twin_reply shows w (PointQ at mask) = refl
twin_reply shows w (RayQ ray mask entry) = refl
twin_reply shows w (SegQ seg mask) = refl
twin_reply shows w (Cast cast mask) = refl
twin_reply shows w (Near at want mask) = refl
twin_reply shows w Mark = refl
twin_reply shows w Back = refl

-- A line that asks for a command is within the limits, and says it.
record IsAsked (limit n : ℕ) (line : List ℕ) (said : Result Command Cause) (c : Command) : Type 0 where
  few : n ≤ limit
  short : length line ≤ LONGEST_LINE
  is : said ≡ Ok c

asked_when : (limit n : ℕ) (line : List ℕ) (said : Result Command Cause) (c : Command) → within_limits limit n line said ≡ Ok c
    → IsAsked limit n line said c
unfolding within_limits
asked_when limit n line said c asks =
    let within = go (nat_lt limit n) (nat_lt LONGEST_LINE (length line)) asks in
    let number = within.0 in let room = within.1 in
    record { few = grind (arith, nat_tests, number); short = grind (arith, nat_tests, room); is = within.2 }
  where
    go : (a b : Bool) → cond a (Err cause.Lines) (cond b (Err cause.Long) said) ≡ Ok c → (a ≡ false) × (b ≡ false) × (said ≡ Ok c)
    go true b h = absurd (cc)
    go false true h = absurd (cc)
    go false false h = (refl, refl, h)

module _ (grammar : IsGrammar) where
  -- before a header a command that passes is the one that the line says, and passes as one of version 2
  said_first : (said : Result Command LineFault) (c : Command) → allowed_first said ≡ Ok c
      → (said ≡ Ok c) × (allowed_first (command One (printed (as_two c))) ≡ Ok (as_two c))
  said_first (Ok Blank) c h =
      let same : Blank ≡ c = cc in
      (ap Ok same, subst (λ d. allowed_first (command One (printed (as_two d))) ≡ Ok (as_two d)) same (ap allowed_first grammar.blank))
  said_first (Ok (Header version)) c h =
      let same : Header version ≡ c = cc in
      (ap Ok same, subst (λ d. allowed_first (command One (printed (as_two d))) ≡ Ok (as_two d)) same (ap allowed_first grammar.header))
  said_first (Ok (Add body masks group)) c h = absurd (cc)
  said_first (Ok (Move handle body)) c h = absurd (cc)
  said_first (Ok (Mask handle masks)) c h = absurd (cc)
  said_first (Ok (Remove handle)) c h = absurd (cc)
  said_first (Ok Frame) c h = absurd (cc)
  said_first (Ok (BoxQ body mask)) c h = absurd (cc)
  said_first (Ok (PointQ at mask)) c h = absurd (cc)
  said_first (Ok (RayQ ray mask entry)) c h = absurd (cc)
  said_first (Ok (SegQ seg mask)) c h = absurd (cc)
  said_first (Ok (Cast cast mask)) c h = absurd (cc)
  said_first (Ok (Near at want mask)) c h = absurd (cc)
  said_first (Ok Mark) c h = absurd (cc)
  said_first (Ok Back) c h = absurd (cc)
  said_first (Err e) c h = absurd (cc)

  -- what is asked for is printed, and asked for again by the printed line
  asks_again : (v : Option Version) (line : List ℕ) (c : Command) → readable v line ≡ Ok c
      → IsLegible Two (as_two c) × (readable (two_where v) (printed (as_two c)) ≡ Ok (as_two c))
  asks_again None line c h =
      let said = said_first (command One line) c h in
      (grammar.legible One line c said.0, said.1)
  asks_again (Some version) line c h =
      let said = said_later (command version line) c h in
      let known = grammar.legible version line c said.0 in
      (known, ap allowed_later known.back ∙ said.1)

  module _ (shows : Bool) (limit : ℕ) where
    abbrev up : Course (Option Version)
    up = upgrading

    abbrev play : Course World
    play = playing true shows

    abbrev raised : Option Version → ℕ → List (List ℕ) → Played
    raised v n ls = run_from up limit v n ls

    abbrev PlaysAlike : List (List ℕ) → Type 0
    PlaysAlike ls = (w : World) (n : ℕ) → (raised w.version n ls).status ≡ Done
        → run_from play limit (twin w) n (lines (raised w.version n ls).replies true) ≡ run_from play limit w n ls

    -- what follows a line, in both scenes
    goes_on : (more : List (List ℕ)) → PlaysAlike more → (w : World) (n : ℕ) (c : Command)
        → (raised (version_after w.version c) (n + 1) more).status ≡ Done → PassesAlike (length (live_in w)) c
        → step play (twin w) n (unless_full (length (live_in w)) (Ok (as_two c)))
        (λ next. run_from play limit next (n + 1) (lines (raised (version_after w.version c) (n + 1) more).replies true))
        ≡ step play w n (unless_full (length (live_in w)) (Ok c)) (λ next. run_from play limit next (n + 1) more)
    goes_on more later w n c done (inr full) =
        let rest = (raised (version_after w.version c) (n + 1) more).replies in
        ap (λ a. step play (twin w) n a (λ next. run_from play limit next (n + 1) (lines rest true))) full.1
        ∙ ap (λ a. step play w n a (λ next. run_from play limit next (n + 1) more)) (sym full.0)
    goes_on more later w n c done (inl passes) =
        let rest = (raised (version_after w.version c) (n + 1) more).replies in
        let at = same_version w c in
        let follows = later (after true w c) (n + 1) (subst (λ v. (raised v (n + 1) more).status ≡ Done) at done) in
        ap (λ a. step play (twin w) n a (λ next. run_from play limit next (n + 1) (lines rest true))) passes.1
        ∙ ap (λ t. reply_first t (run_from play limit (after true (twin w) (as_two c)) (n + 1) (lines rest true))) (twin_reply shows w c)
        ∙ ap (λ v. reply_first (reply shows w c) (run_from play limit v (n + 1) (lines rest true))) (twin_after w c)
        ∙ ap (λ v. reply_first (reply shows w c) (run_from play limit (twin (after true w c)) (n + 1) (lines (raised v (n + 1) more).replies true))) at
        ∙ ap (reply_first (reply shows w c)) follows
        ∙ ap (λ a. step play w n a (λ next. run_from play limit next (n + 1) more)) (sym passes.0)

    -- one line, which asks for a command
    one_line : (line : List ℕ) (more : List (List ℕ)) → PlaysAlike more → (w : World) (n : ℕ) (c : Command)
        → within_limits limit n line (readable w.version line) ≡ Ok c → (raised (version_after w.version c) (n + 1) more).status ≡ Done
        → run_from play limit (twin w) n (lines (line_of (as_two c) ++ (raised (version_after w.version c) (n + 1) more).replies) true)
        ≡ run_from play limit w n (line ∷ more)
    one_line line more later w n c asks done =
        let asked = asked_when limit n line (readable w.version line) c asks in
        let again = asks_again w.version line c asked.is in
        let rest = (raised (version_after w.version c) (n + 1) more).replies in
        let live = length (live_in w) in
        let there = asked_within limit n (printed (as_two c)) (play.asks (twin w) (printed (as_two c))) asked.few again.0.short
        ∙ ap (unless_full live) again.1 in
        let here = asked_within limit n line (play.asks w line) asked.few asked.short ∙ ap (unless_full live) asked.is in
        ap (run_from play limit (twin w) n) (first_read (as_two c) rest again.0.visible)
        ∙ ap (λ a. step play (twin w) n a (λ next. run_from play limit next (n + 1) (lines rest true))) there
        ∙ goes_on more later w n c done (passes_alike live c)
        ∙ ap (λ a. step play w n a (λ next. run_from play limit next (n + 1) more)) (sym here)

    by_asked : (line : List ℕ) (more : List (List ℕ)) → PlaysAlike more → (w : World) (n : ℕ) (a : Result Command Cause)
        → within_limits limit n line (readable w.version line) ≡ a
        → (step up w.version n a (λ next. run_from up limit next (n + 1) more)).status ≡ Done
        → run_from play limit (twin w) n (lines (step up w.version n a (λ next. run_from up limit next (n + 1) more)).replies true)
        ≡ run_from play limit w n (line ∷ more)
    by_asked line more later w n (Err e) asks done = absurd (cc)
    by_asked line more later w n (Ok c) asks done = one_line line more later w n c asks done

    plays_alike : (ls : List (List ℕ)) → PlaysAlike ls
    plays_alike [] w n done =
        ap (λ t. run_from play limit (twin w) n (lines t true)) (no_replies up w.version n)
        ∙ ap (λ b. cond b (record {
          replies = [];
          last = end_line (n - 1) w.time.now.frames (length (live_in w));
          status = Done;
          passed = true;
        }) (record (refused_at play n cause.Header) { passed = true })) (headed_alike w.version)
    plays_alike (line ∷ more) w n done = by_asked line more (plays_alike more) w n (within_limits limit n line (readable w.version line)) refl done

    -- nothing is written behind the last line
    no_last_ended : (v : Option Version) (n : ℕ) → (ended_at up v n).last ≡ []
    no_last_ended None n = refl
    no_last_ended (Some version) n = refl

    no_last : (v : Option Version) (n : ℕ) (ls : List (List ℕ)) → (raised v n ls).last ≡ []
    no_last v n [] = no_last_ended v n
    no_last v n (line ∷ more) =
        elim (within_limits limit n line (readable v line)) as (λ a. (step up v n a (λ next. run_from up limit next (n + 1) more)).last ≡ []) [
          | Ok c ↦ no_last (version_after v c) (n + 1) more
          | Err e ↦ refl
        ]

    pub same_report : (scene : List (List ℕ)) → (upgraded limit scene).status ≡ Done
        → report shows limit (lines (whole (upgraded limit scene)) true) ≡ report shows limit scene
    same_report scene done =
        let text = ap (λ t. (upgraded limit scene).replies ++ t) (no_last None 1 scene) ∙ append-nil (upgraded limit scene).replies in
        ap (λ t. report shows limit (lines t true)) text ∙ ap whole (plays_alike scene opening 1 done)
