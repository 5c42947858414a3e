-- Serves proofs alone: what each answer of the reading makes of a run over the lines of a scene, for any course.
use Rattle.std.specs.Prelude.{◌≡◌, ℕ, ◌+◌, ◌-◌, ◌≤◌, ◌<◌, Bool, true, false, nat_lt, List, [], ◌∷◌, ◌++◌, length, take}
use Rattle.std.specs.Prelude.{Option, Some, None, IfSome, option_map, is_some, Result, Ok, Err, IfOk}
use Rattle.std.specs.Io.KnownBytes.{prepend_known}
use Rattle.std.specs.List.{count_by}
use Rattle.std.proofs.Common.{refl, sym, ap, subst, cond, ◌∙◌}
use Rattle.std.proofs.Math.Nat.{add_comm, add-le-add, add-lt-add_of_lt_of_le, add-sub_cancel, le-add_right, le_trans, lt_of_le_of_lt, sub-le-sub_left}
use Rattle.std.proofs.Math.Numerals.{lt-add-one}
use Rattle.std.proofs.lemmas.Bool.{false≢true}
use Rattle.std.proofs.lemmas.List.{append-nil, append_assoc, length-append, take-append-drop, take-append-le}
use Rattle.std.proofs.lemmas.List.Sums.{sum_by-append, sum_by-take-le}
use Rattle.fixed_box.specs.declared.TheConstants.{SLOTS}
use Rattle.pair_report.specs.declared.cause.Cause.{Cause}
use Rattle.pair_report.specs.declared.cause.Cause.TheVariants as cause
use Rattle.scene_lines.specs.declared.TheConstants.{LONGEST_LINE, BUFFER_LEN}
use Rattle.scene_lines.specs.Reading.{Reading, coming}
use Rattle.scene_lines.specs.SceneLines.{IsPrefix, lines, is_feed, length_ahead, line_ahead, past_line}
use Rattle.scene_words.specs.declared.command.Command.{Command}
use Rattle.scene_words.specs.declared.command.Command.TheVariants.{Blank, Header, Add, Move, Mask, Remove, Frame, BoxQ, PointQ, RayQ, SegQ, Cast, Near, Mark}
use Rattle.scene_words.specs.declared.command.Command.TheVariants.{Back}
use Rattle.scene_words.specs.declared.line_fault.LineFault.{LineFault}
use Rattle.scene_words.specs.declared.version.Version.{Version}
use Rattle.play_rules.specs.declared.status.Status.{Status}
use Rattle.play_rules.specs.declared.status.Status.TheVariants.{Done, Refused, ReadFault}
use Rattle.play_rules.specs.Course.{Course, Played, within_limits, refused_at, ended_at, reply_first, step, run_from, whole}
use Rattle.play_rules.specs.CourseLaws.{both_first, no_replies, replies_begin}
use Rattle.play_rules.specs.Outcome.{READ_AHEAD, IsReadUpTo}
use Rattle.play_rules.specs.Readable.{allowed_first, allowed_later, allowed_in, readable, unless_full}
use Rattle.frame_player.specs.declared.step.Step.{Step}
use Rattle.frame_player.specs.declared.step.Step.TheVariants as what
use Rattle.frame_player.specs.Step.{step_for, Line, IsStepOf, IsPast, IsAhead}
use Rattle.frame_player.specs.Reached.{IsReached, IsTextOf}
use Rattle.fixed_box.proofs.Lists.{prepend_known-append}

-- a command that passes before a header passes there again
kept_first : (live : ℕ) (said : Result Command LineFault)
    → IfOk (unless_full live (allowed_first said)) (λ c. unless_full live (allowed_first (Ok c)) ≡ Ok c)
kept_first live (Err f) = tt
kept_first live (Ok Blank) = refl
kept_first live (Ok (Header version)) = refl
kept_first live (Ok (Add body masks group)) = tt
kept_first live (Ok (Move handle body)) = tt
kept_first live (Ok (Mask handle masks)) = tt
kept_first live (Ok (Remove handle)) = tt
kept_first live (Ok Frame) = tt
kept_first live (Ok (BoxQ body mask)) = tt
kept_first live (Ok (PointQ at mask)) = tt
kept_first live (Ok (RayQ ray mask entry)) = tt
kept_first live (Ok (SegQ seg mask)) = tt
kept_first live (Ok (Cast cast mask)) = tt
kept_first live (Ok (Near at want mask)) = tt
kept_first live (Ok Mark) = tt
kept_first live (Ok Back) = tt

-- and so it does later
kept_later : (live : ℕ) (said : Result Command LineFault)
    → IfOk (unless_full live (allowed_later said)) (λ c. unless_full live (allowed_later (Ok c)) ≡ Ok c)
kept_later live (Err f) = tt
kept_later live (Ok Blank) = refl
kept_later live (Ok (Header version)) = tt
kept_later live (Ok (Add body masks group)) = go (nat_lt live SLOTS) refl
  where
    add : Result Command Cause
    add = Ok (Add body masks group)

    go : (room : Bool) → nat_lt live SLOTS ≡ room → IfOk (cond room add (Err cause.Full)) (λ c. unless_full live (allowed_later (Ok c)) ≡ Ok c)
    go true some = ap (λ t. cond t add (Err cause.Full)) some
    go false none = tt
kept_later live (Ok (Move handle body)) = refl
kept_later live (Ok (Mask handle masks)) = refl
kept_later live (Ok (Remove handle)) = refl
kept_later live (Ok Frame) = refl
kept_later live (Ok (BoxQ body mask)) = refl
kept_later live (Ok (PointQ at mask)) = refl
kept_later live (Ok (RayQ ray mask entry)) = refl
kept_later live (Ok (SegQ seg mask)) = refl
kept_later live (Ok (Cast cast mask)) = refl
kept_later live (Ok (Near at want mask)) = refl
kept_later live (Ok Mark) = refl
kept_later live (Ok Back) = refl

-- what passes in a world passes there again
pub kept_again : (version : Option Version) (live : ℕ) (said : Result Command LineFault)
    → IfOk (unless_full live (allowed_in version said)) (λ c. unless_full live (allowed_in version (Ok c)) ≡ Ok c)
kept_again None live said = kept_first live said
kept_again (Some version) live said = kept_later live said

pub allowed_again : (version : Option Version) (live : ℕ) (said : Result Command LineFault) (c : Command)
    → unless_full live (allowed_in version said) ≡ Ok c → unless_full live (allowed_in version (Ok c)) ≡ Ok c
allowed_again version live said c is = subst (λ r. IfOk r (λ d. unless_full live (allowed_in version (Ok d)) ≡ Ok d)) is (kept_again version live said)

-- what a line says that comes to this, and its number
abbrev said_by : Step → Result Command Cause
said_by (what.Command c) = Ok c
said_by (what.Refused k c) = Err c
said_by other = Err cause.Header

said_of_step : (n : ℕ) (said : Result Command Cause) → said ≡ said_by (step_for n said)
said_of_step n (Ok c) = refl
said_of_step n (Err c) = refl

abbrev numbered : ℕ → Step → ℕ
numbered n (what.Refused k c) = k
numbered n other = n

number_of_step : (n : ℕ) (said : Result Command Cause) → numbered n (step_for n said) ≡ n
number_of_step n (Ok c) = refl
number_of_step n (Err c) = refl

asked : (version : Option Version) (live limit n : ℕ) (bytes : List ℕ) (s : Step) → Line version live limit n bytes s
    → within_limits limit n (line_ahead bytes) (unless_full live (readable version (line_ahead bytes))) ≡ said_by s
asked version live limit n bytes s next =
    said_of_step n (within_limits limit n (line_ahead bytes) (unless_full live (readable version (line_ahead bytes)))) ∙ ap said_by (sym next.is)

feeds_joined : (xs ys : List ℕ) → count_by is_feed (xs ++ ys) ≡ count_by is_feed xs + count_by is_feed ys
feeds_joined xs ys = sum_by-append (λ b. cond {A = ℕ} (is_feed b) 1 0) xs ys

-- the bytes taken, but for the last of them, hold no more ends of lines than those before the line
read_up_to : (n : ℕ) (given front behind : List ℕ) (now : Option (List ℕ))
    → Some given ≡ prepend_known (front ++ behind) now → count_by is_feed front < n → length behind ≤ READ_AHEAD → IsReadUpTo n given now
read_up_to n given front behind now split few short =
    let cut : ℕ = length (front ++ behind) - READ_AHEAD in
    let within : cut ≤ length front =
    subst (λ k. k - READ_AHEAD ≤ length front) (sym (length-append front behind))
    (subst (λ k. length front + length behind - READ_AHEAD ≤ k) (add-sub_cancel (length front) (length behind))
    (sub-le-sub_left short (length front + length behind))) in record {
      taken = front ++ behind;
      split = split;
      few = subst (λ bytes. count_by is_feed bytes < n) (sym (take-append-le cut front behind within))
          (lt_of_le_of_lt (sum_by-take-le (λ b. cond {A = ℕ} (is_feed b) 1 0) front cut) few);
    }

-- the bytes of a source that tells them
abbrev bytes_or : List ℕ → Option (List ℕ) → List ℕ
bytes_or other None = other
bytes_or other (Some bytes) = bytes

abbrev is_nil : List ℕ → Bool
is_nil [] = true
is_nil (b ∷ bs) = false

-- nothing is left where nothing comes
none_left : (held : List ℕ) (left : Option (List ℕ)) → coming held left ≡ Some [] → left ≡ Some []
none_left held None none = none
none_left [] (Some l) none = none
none_left (b ∷ held) (Some l) none = absurd (false≢true (ap (λ o. is_nil (bytes_or [] o)) none))

-- not over before where it isn't over now
still_going : (over over' : Bool) → (over ≡ true → over' ≡ true) → over' ≡ false → over ≡ false
still_going true over' stays goes = absurd (false≢true (sym goes ∙ stays refl))
still_going false over' stays goes = refl

-- a run that ends with a last line
ended_with : (p : Played) (out last : List ℕ) (status : Status) (passed : Bool)
    → reply_first out (record { replies = []; last = last; status = status; passed = passed }) ≡ p → (p.status ≡ status) × (out ++ last ≡ whole p)
ended_with p out last status passed is = (sym (ap (λ q. q.status) is), ap (λ o. o ++ last) (sym (append-nil out)) ∙ ap whole is)

-- the two ends of an input
abbrev ended_or : {W : Type 0} → Course W → W → ℕ → Bool → Played
ended_or course w n begun =
    cond begun (record { replies = []; last = course.last w (n - 1); status = Done; passed = true })
    (record (refused_at course n cause.Header) { passed = true })

-- every line that ended passed
all_passed : {W : Type 0} (course : Course W) (w : W) (n : ℕ) → (ended_at course w n).passed ≡ true
all_passed course w n = go (course.is_begun w)
  where
    go : (begun : Bool) → (ended_or course w n begun).passed ≡ true
    go true = refl
    go false = refl

-- before the first line
pub opened : {W : Type 0} (course : Course W) (play : List (List ℕ) → Played) (limit : ℕ) (start : W) (left : Option (List ℕ)) (reader : Reading)
    (w : W) (out : List ℕ)
    → ((ls : List (List ℕ)) → run_from course limit start 1 ls ≡ play ls)
    → reader ≡ record { limit = limit; line = []; number = 0; ended = false; over = false; held = [] } → w ≡ start → out ≡ []
    → IfSome left (λ given. IsReached course play limit given left reader.held reader.over w (reader.number + 1) out)
opened course play limit start None reader w out runs fresh starts none = tt
opened course play limit start (Some given) reader w out runs fresh starts none =
    subst (λ r. IsReached course play limit given (Some given) r.held r.over w (r.number + 1) out) (sym fresh)
    (subst (λ v. IsReached course play limit given (Some given) [] false v 1 out) (sym starts)
    (subst (λ text. IsReached course play limit given (Some given) [] false start 1 text) (sym none) (record {
      bytes = given;
      coming = refl;
      so_far = runs (lines given true);
      front = [];
      split = refl;
      ahead = λ _ more. runs (lines more false);
      feeds = lt-add-one 0;
    })))

module _ {W : Type 0} {course : Course W} {play : List (List ℕ) → Played} {limit : ℕ} {given : List ℕ} {left : Option (List ℕ)} {held : List ℕ}
    {over : Bool} {w : W} {n : ℕ} {out : List ℕ} (reached : IsReached course play limit given left held over w n out) where
  -- what was replied begins the text of all
  pub replied_within : IsPrefix out (whole (play (lines given true)))
  replied_within =
      let p = run_from course limit w n (lines reached.bytes true) in
      (p.replies ++ p.last, sym (ap whole reached.so_far) ∙ append_assoc out p.replies p.last)

  -- what is known of the bytes that are coming
  of_coming : (P : List ℕ → Type 0) → IfSome (coming held left) P → P reached.bytes
  of_coming P known = subst (λ o. IfSome o P) reached.coming known

  -- where the next line is this, so is the rest of the run
  at_line : (line : List ℕ) (more : List (List ℕ)) (said : Result Command Cause) → within_limits limit n line (course.asks w line) ≡ said
      → reply_first out (step course w n said (λ next. run_from course limit next (n + 1) more))
      ≡ reply_first out (run_from course limit w n (line ∷ more))
  at_line line more said is = ap (λ r. reply_first out (step course w n r (λ next. run_from course limit next (n + 1) more))) (sym is)

  module _ (version : Option Version) (live : ℕ) (asks : (line : List ℕ) → course.asks w line ≡ unless_full live (readable version line)) where
    comes_to : (s : Step) → Line version live limit n reached.bytes s
        → within_limits limit n (line_ahead reached.bytes) (course.asks w (line_ahead reached.bytes)) ≡ said_by s
    comes_to s next =
        ap (within_limits limit n (line_ahead reached.bytes)) (asks (line_ahead reached.bytes)) ∙ asked version live limit n reached.bytes s next

    -- a line that passes: the run has come one line further
    pub line_played : (c : Command) (later : List ℕ) (now : Option (List ℕ)) (over' : Bool)
        → IfSome (coming held left) (λ bytes. IsStepOf version live limit n bytes (what.Command c))
        → coming later now ≡ option_map past_line (coming held left) → IfSome (coming held left) (λ bytes. IsPast bytes over')
        → (over ≡ true → over' ≡ true)
        → IsReached course play limit given now later over' (course.after w c) (n + 1) (out ++ course.text w c)
    line_played c later now over' says rest past stays =
        let bytes = reached.bytes in
        let front = reached.front in
        let cut : List ℕ = take (length_ahead bytes + 1) bytes in
        let text = course.text w c in
        let next = of_coming (λ b. IsStepOf version live limit n b (what.Command c)) says in
        let behind = of_coming (λ b. IsPast b over') past in
        let goes_on : (more : List (List ℕ)) → reply_first (out ++ text) (run_from course limit (course.after w c) (n + 1) more)
        ≡ reply_first out (run_from course limit w n (line_ahead bytes ∷ more)) = λ more.
        sym (both_first out text (run_from course limit (course.after w c) (n + 1) more))
        ∙ at_line (line_ahead bytes) more (Ok c) (comes_to (what.Command c) next) in record {
          bytes = past_line bytes;
          coming = rest ∙ ap (option_map past_line) reached.coming;
          so_far = goes_on (lines (past_line bytes) true) ∙ ap (λ ls. reply_first out (run_from course limit w n ls)) (sym next.first) ∙ reached.so_far;
          front = front ++ cut;
          split = reached.split ∙ ap (λ b. front ++ b) (sym (take-append-drop (length_ahead bytes + 1) bytes))
              ∙ sym (append_assoc front cut (past_line bytes));
          ahead = λ goes more.
              goes_on (lines more false) ∙ ap (λ ls. reply_first out (run_from course limit w n ls)) (sym (behind.ended goes more))
              ∙ reached.ahead (still_going over over' stays goes) (cut ++ more) ∙ ap (λ b. play (lines b false)) (sym (append_assoc front cut more));
          feeds = subst (λ k. k < n + 1) (sym (feeds_joined front cut)) (add-lt-add_of_lt_of_le reached.feeds behind.one_feed);
        }

    -- a line that is refused: the text is whole, and little more than the line was read
    pub line_refused : (k : ℕ) (c : Cause) (later : List ℕ) (now : Option (List ℕ))
        → IfSome (coming held left) (λ bytes. IsStepOf version live limit n bytes (what.Refused k c))
        → IsAhead (coming held left) later now → length later ≤ BUFFER_LEN
        → IsTextOf play given now (out ++ course.last_refused k c) (Refused k c)
    line_refused k c later now says ahead small =
        let bytes = reached.bytes in
        let behind : List ℕ = ahead.cut ++ later in
        let next = of_coming (λ b. IsStepOf version live limit n b (what.Refused k c)) says in
        let number : n ≡ k = sym (number_of_step n _) ∙ ap (numbered n) (sym next.is) in
        let ends = ended_with (play (lines given true)) out (course.last_refused n c) (Refused n c) false
        (at_line (line_ahead bytes) (lines (past_line bytes) true) (Err c) (comes_to (what.Refused k c) next)
        ∙ ap (λ ls. reply_first out (run_from course limit w n ls)) (sym next.first) ∙ reached.so_far) in
        let short : length behind ≤ READ_AHEAD =
        subst (λ m. m ≤ READ_AHEAD) (sym (length-append ahead.cut later))
        (subst (λ m. length ahead.cut + length later ≤ m) (add_comm (LONGEST_LINE + 2) BUFFER_LEN) (add-le-add ahead.few small)) in
        subst (λ m. IsTextOf play given now (out ++ course.last_refused m c) (Refused m c)) number (
          ends.0,
          ends.1,
          read_up_to n given reached.front behind now (ap Some reached.split ∙ ap (prepend_known reached.front) (sym reached.coming ∙ ahead.split)
              ∙ sym (prepend_known-append reached.front behind now)) reached.feeds short,
        )

  -- what was taken behind the bytes of the lines that were read, where nothing was handed out
  kept_behind : (later : List ℕ) (now : Option (List ℕ)) → coming later now ≡ coming held left
      → Some given ≡ prepend_known (reached.front ++ later) now
  kept_behind later now kept =
      ap Some reached.split ∙ ap (prepend_known reached.front) (sym (kept ∙ reached.coming)) ∙ sym (prepend_known-append reached.front later now)

  -- a read that fails: the replies to the lines that ended, each of which passed
  pub read_failed : (later : List ℕ) (now : Option (List ℕ)) → coming later now ≡ coming held left → lines later false ≡ [] → over ≡ false
      → IsTextOf play given now out ReadFault
  read_failed later now kept unended goes =
      let ends : reply_first out (ended_at course w n) ≡ play (lines (reached.front ++ later) false) =
      ap (λ ls. reply_first out (run_from course limit w n ls)) (sym unended) ∙ reached.ahead goes later in record {
        taken = reached.front ++ later;
        split = kept_behind later now kept;
        replies = sym (append-nil out) ∙ ap (λ t. out ++ t) (sym (no_replies course w n)) ∙ ap (λ p. p.replies) ends;
        passed = sym (ap (λ p. p.passed) ends) ∙ all_passed course w n;
      }

  module _ (version : Option Version) (live k : ℕ) (ends : IfSome (coming held left) (λ bytes. IsStepOf version live limit n bytes (what.End k))) where
    -- the run where the input ends
    at_end : (begun : Bool) → course.is_begun w ≡ begun → reply_first out (ended_or course w n begun) ≡ play (lines given true)
    at_end begun is =
        ap (λ b. reply_first out (ended_or course w n b)) (sym is)
        ∙ ap (λ b. reply_first out (run_from course limit w n (lines b true))) (sym (of_coming (λ b. IsStepOf version live limit n b (what.End k)) ends).1)
        ∙ reached.so_far

    -- the input ends where a header came
    pub input_ended : (later : List ℕ) (now : Option (List ℕ)) → coming later now ≡ coming held left → course.is_begun w ≡ true
        → IsTextOf play given now (out ++ course.last w k) Done
    input_ended later now kept begun =
        let none = of_coming (λ b. IsStepOf version live limit n b (what.End k)) ends in
        let lines_before : n - 1 ≡ k = ap (λ m. m - 1) (sym none.0) ∙ add-sub_cancel k 1 in
        let all = ended_with (play (lines given true)) out (course.last w (n - 1)) Done true (at_end true begun) in (
          all.0,
          subst (λ m. out ++ course.last w m ≡ whole (play (lines given true))) lines_before all.1,
          none_left later now (kept ∙ reached.coming ∙ ap Some none.1),
        )

    -- the input ends where none came
    pub input_unbegun : (later : List ℕ) (now : Option (List ℕ)) → coming later now ≡ coming held left → length later ≤ BUFFER_LEN
        → course.is_begun w ≡ false
        → IsTextOf play given now (out ++ course.last_refused (k + 1) cause.Header) (Refused (k + 1) cause.Header)
    input_unbegun later now kept small begun =
        let none = of_coming (λ b. IsStepOf version live limit n b (what.End k)) ends in
        let all = ended_with (play (lines given true)) out (course.last_refused n cause.Header) (Refused n cause.Header) true (at_end false begun) in
        let short : length later ≤ READ_AHEAD = le_trans small (le-add_right BUFFER_LEN (LONGEST_LINE + 2)) in
        subst (λ m. IsTextOf play given now (out ++ course.last_refused m cause.Header) (Refused m cause.Header)) (sym none.0)
        (all.0, all.1, read_up_to n given reached.front later now (kept_behind later now kept) reached.feeds short)

-- the replies to the first bytes begin the text of all
abbrev pub Begins : (List (List ℕ) → Played) → Type 0
Begins play = (front all : List ℕ) → IsPrefix front all → IsPrefix (play (lines front false)).replies (whole (play (lines all true)))

pub run_begins : {W : Type 0} (course : Course W) (limit : ℕ) (start : W)
    → ((front all : List ℕ) → IsPrefix front all → IsPrefix (lines front false) (lines all true)) → Begins (run_from course limit start 1)
run_begins course limit start law front all is =
    let first = law front all is in
    subst (λ ls. IsPrefix (run_from course limit start 1 (lines front false)).replies (whole (run_from course limit start 1 ls))) (sym first.1)
    (replies_begin course limit (lines front false) first.0 start 1)

-- however the reading ends, its text begins the text of all
pub text_within : (play : List (List ℕ) → Played) (given : List ℕ) (left : Option (List ℕ)) (text : List ℕ) (status : Status)
    → Begins play → IsTextOf play given left text status → IsPrefix text (whole (play (lines given true)))
text_within play given left text Done law is = ([], sym is.1 ∙ sym (append-nil text))
text_within play given left text (Refused n c) law is = ([], sym is.1 ∙ sym (append-nil text))
text_within play given left text ReadFault law is =
    subst (λ t. IsPrefix t (whole (play (lines given true)))) (sym is.replies) (law is.taken given (taken_first given is.taken left is.split))
  where
    taken_first : (given taken : List ℕ) (left : Option (List ℕ)) → Some given ≡ prepend_known taken left → IsPrefix taken given
    taken_first given taken None split = absurd (false≢true (sym (ap is_some split)))
    taken_first given taken (Some rest) split = (rest, ap (bytes_or given) split)
text_within play given left text Status.Usage law is = absurd is
text_within play given left text Status.WriteFault law is = absurd is
text_within play given left text Status.NoMemory law is = absurd is
