-- What a reader's answer says of the line that comes next.
use Rattle.std.proofs.Common.{◌≡◌, ℕ, ◌+◌, ◌≤◌, ◌<◌, Bool, true, false, cond, ◌==◌, nat_lt, nat_le, List, [], ◌∷◌, ◌++◌}
use Rattle.std.proofs.Common.{length, take, Option, Some, None, IfSome, option_map, Result, Ok, Err, refl, sym, ap, ◌∙◌, arith, length-take}
use Rattle.std.specs.List.{count_by}
use Rattle.std.proofs.lemmas.Bool.{ltb-false}
use Rattle.std.proofs.lemmas.Bool.Decides.{nat_tests}
use Rattle.std.proofs.lemmas.List.{take-append-drop}
use Rattle.pair_report.specs.declared.cause.Cause.{Cause}
use Rattle.pair_report.specs.declared.cause.Cause.TheVariants as cause
use Rattle.scene_lines.specs.declared.TheConstants.{LONGEST_LINE}
use Rattle.scene_lines.specs.declared.next.Next.TheVariants as next
use Rattle.scene_lines.specs.Next.{answer_at}
use Rattle.scene_lines.specs.Reading.{coming}
use Rattle.scene_lines.specs.SceneLines.{lines, is_feed, has_feed, length_ahead, line_ahead, past_line}
use Rattle.scene_words.specs.declared.command.Command.{Command}
use Rattle.scene_words.specs.declared.line_fault.LineFault.{LineFault}
use Rattle.scene_words.specs.declared.version.Version.{Version}
use Rattle.play_rules.specs.Course.{within_limits}
use Rattle.play_rules.specs.CourseLaws.{asked_within, asked_long, asked_past}
use Rattle.play_rules.specs.Readable.{allowed_in, readable, unless_full}
use Rattle.frame_player.specs.declared.step.Step.TheVariants as what
use Rattle.frame_player.specs.Step.{step_for, Line, IsStepOf, IsPast, IsAhead, IfCommand, OnCommand, OnRefused, UnlessReadFault}
use Rattle.frame_player.proofs.ReachedLaws.{allowed_again}

abbrev pub FirstLine : Type 0
FirstLine = (bytes : List ℕ) → 0 < length bytes → lines bytes true ≡ line_ahead bytes ∷ lines (past_line bytes) true

some_bytes : (n : ℕ) → (n == 0) ≡ false → 0 < n
some_bytes n h = grind (arith, nat_tests)

next_within : (limit number : ℕ) → nat_le limit number ≡ false → number + 1 ≤ limit
next_within limit number h = grind (arith, nat_tests)

next_past : (limit number : ℕ) → nat_le limit number ≡ true → limit < number + 1
next_past limit number h = grind (arith, nat_tests)

-- which tests an answer comes by
line_when : (a b c : Bool) → next.Line ≡ cond a next.End (cond b next.TooMany (cond c next.Long next.Line))
    → (a ≡ false) × (b ≡ false) × (c ≡ false)
line_when true b c h = absurd (cc)
line_when false true c h = absurd (cc)
line_when false false true h = absurd (cc)
line_when false false false h = (refl, refl, refl)

long_when : (a b c : Bool) → next.Long ≡ cond a next.End (cond b next.TooMany (cond c next.Long next.Line))
    → (a ≡ false) × (b ≡ false) × (c ≡ true)
long_when true b c h = absurd (cc)
long_when false true c h = absurd (cc)
long_when false false true h = (refl, refl, refl)
long_when false false false h = absurd (cc)

too_many_when : (a b c : Bool) → next.TooMany ≡ cond a next.End (cond b next.TooMany (cond c next.Long next.Line)) → (a ≡ false) × (b ≡ true)
too_many_when true b c h = absurd (cc)
too_many_when false true c h = (refl, refl)
too_many_when false false true h = absurd (cc)
too_many_when false false false h = absurd (cc)

module _ (law : FirstLine) (version : Option Version) (live limit number k : ℕ) (named : k ≡ number + 1) where
  abbrev says : List ℕ → Result Command Cause
  says line = unless_full live (readable version line)

  -- the line that comes, by what is said of it
  comes : (bytes : List ℕ) (said : Result Command Cause) → 0 < length bytes
      → said ≡ within_limits limit (number + 1) (line_ahead bytes) (says (line_ahead bytes))
      → Line version live limit (number + 1) bytes (step_for k said)
  comes bytes said some is = record { first = law bytes some; is = ap (λ j. step_for j said) named ∙ ap (step_for (number + 1)) is }

  step_of : (bytes : List ℕ) (said : Result Command Cause) → Line version live limit (number + 1) bytes (step_for k said)
      → IsStepOf version live limit (number + 1) bytes (step_for k said)
  step_of bytes (Ok c) h = h
  step_of bytes (Err c) h = h

  unless_read : (said : Result Command Cause) (P : Type 0) → P → UnlessReadFault (step_for k said) P
  unless_read (Ok c) P p = p
  unless_read (Err c) P p = p

  handed : (o : Option (List ℕ)) (line : List ℕ) (said : Result Command Cause) → said ≡ says line → IfSome o (λ bytes. line ≡ line_ahead bytes)
      → IfSome o (λ bytes. next.Line ≡ answer_at limit number bytes)
      → IfSome o (λ bytes. IsStepOf version live limit (number + 1) bytes (step_for k said))
  handed None line said is same exact = tt
  handed (Some bytes) line said is same exact =
      let when = line_when (length bytes == 0) (nat_le limit number) (nat_lt LONGEST_LINE (length (line_ahead bytes))) exact in
      step_of bytes said (comes bytes said (some_bytes (length bytes) when.0) (is ∙ ap says same
      ∙ sym (asked_within limit (number + 1) (line_ahead bytes) (says (line_ahead bytes)) (next_within limit number when.1)
      (ltb-false LONGEST_LINE (length (line_ahead bytes)) when.2))))

  -- a line that is handed out
  pub line_says : (o : Option (List ℕ)) (line : List ℕ) (said : Result Command Cause) → said ≡ says line
      → IfSome o (λ bytes. line ≡ line_ahead bytes) → IfSome o (λ bytes. next.Line ≡ answer_at limit number bytes)
      → UnlessReadFault (step_for k said) (IfSome o (λ bytes. IsStepOf version live limit (number + 1) bytes (step_for k said)))
  line_says o line said is same exact =
      unless_read said (IfSome o (λ bytes. IsStepOf version live limit (number + 1) bytes (step_for k said))) (handed o line said is same exact)

  pub long_says : (o : Option (List ℕ)) → IfSome o (λ bytes. next.Long ≡ answer_at limit number bytes)
      → IfSome o (λ bytes. IsStepOf version live limit (number + 1) bytes (what.Refused k cause.Long))
  long_says None exact = tt
  long_says (Some bytes) exact =
      let when = long_when (length bytes == 0) (nat_le limit number) (nat_lt LONGEST_LINE (length (line_ahead bytes))) exact in
      comes bytes (Err cause.Long) (some_bytes (length bytes) when.0)
      (sym (asked_long limit (number + 1) (line_ahead bytes) (says (line_ahead bytes)) (next_within limit number when.1) when.2))

  pub too_many_says : (o : Option (List ℕ)) → IfSome o (λ bytes. next.TooMany ≡ answer_at limit number bytes)
      → IfSome o (λ bytes. IsStepOf version live limit (number + 1) bytes (what.Refused k cause.Lines))
  too_many_says None exact = tt
  too_many_says (Some bytes) exact =
      let when = too_many_when (length bytes == 0) (nat_le limit number) (nat_lt LONGEST_LINE (length (line_ahead bytes))) exact in
      comes bytes (Err cause.Lines) (some_bytes (length bytes) when.0)
      (sym (asked_past limit (number + 1) (line_ahead bytes) (says (line_ahead bytes)) (next_past limit number when.1)))

-- laws of lines that the call is given
abbrev pub InParts : Type 0
InParts = (front back : List ℕ) (left : Option (List ℕ)) → coming (front ++ back) left ≡ coming front (coming back left)

abbrev pub EndsNear : Type 0
EndsNear = (bytes : List ℕ) → length_ahead bytes ≤ length (line_ahead bytes) + 1

abbrev pub OneFeed : Type 0
OneFeed = (bytes : List ℕ) → count_by is_feed (take (length_ahead bytes + 1) bytes) ≤ 1

abbrev pub LineEnds : Type 0
LineEnds = (bytes more : List ℕ) → has_feed bytes ≡ true
    → lines (take (length_ahead bytes + 1) bytes ++ more) false ≡ line_ahead bytes ∷ lines more false

missing : (a b : Bool) → (a ≡ false → b ≡ true) → b ≡ false → a ≡ true
missing true b h isnt = refl
missing false b h isnt = absurd (let yes : b ≡ true = h refl in cc)

-- how the lines go on behind one that was handed out
pub line_past : OneFeed → LineEnds → (o : Option (List ℕ)) (over : Bool) → IfSome o (λ bytes. has_feed bytes ≡ false → over ≡ true)
    → IfSome o (λ bytes. IsPast bytes over)
line_past one ends None over last = tt
line_past one ends (Some bytes) over last =
    record { one_feed = one bytes; ended = λ goes more. ends bytes more (missing (has_feed bytes) over last goes) }

-- behind a line that was handed out
pub line_cut : InParts → EndsNear → (o now : Option (List ℕ)) (held line : List ℕ) → coming held now ≡ option_map past_line o
    → IfSome o (λ bytes. line ≡ line_ahead bytes) → length line ≤ LONGEST_LINE → IsAhead o held now
line_cut parts near None now held line rest is short = record { cut = []; few = omega arith; split = sym rest }
line_cut parts near (Some bytes) now held line rest is short =
    let cut = take (length_ahead bytes + 1) bytes in
    let of_cut : length cut ≡ _ = length-take (length_ahead bytes + 1) bytes in
    let of_line : length line ≡ length (line_ahead bytes) = ap length is in
    let close = near bytes in
    record {
      cut = take (length_ahead bytes + 1) bytes;
      few = omega (arith, of_cut, of_line, close, short);
      split = ap Some (sym (take-append-drop (length_ahead bytes + 1) bytes))
          ∙ sym (parts (take (length_ahead bytes + 1) bytes) held now ∙ ap (coming (take (length_ahead bytes + 1) bytes)) rest);
    }

-- behind an answer that hands out nothing
pub nothing_cut : (o now : Option (List ℕ)) (held : List ℕ) → coming held now ≡ o → IsAhead o held now
nothing_cut o now held kept = record { cut = []; few = omega arith; split = sym kept }

pub where_refused : (k : ℕ) (said : Result Command Cause) (P : Type 0) → P → OnRefused (step_for k said) P
where_refused k (Ok c) P p = tt
where_refused k (Err c) P p = p

pub where_commanded : (k : ℕ) (said : Result Command Cause) (P : Type 0) → P → OnCommand (step_for k said) P
where_commanded k (Ok c) P p = p
where_commanded k (Err c) P p = tt

-- a command that passes would pass again
pub command_again : (version : Option Version) (live k : ℕ) (read : Result Command LineFault) (said : Result Command Cause)
    → said ≡ unless_full live (allowed_in version read) → IfCommand (step_for k said) (λ c. unless_full live (allowed_in version (Ok c)) ≡ Ok c)
command_again version live k read (Ok c) is = allowed_again version live read c (sym is)
command_again version live k read (Err c) is = tt
