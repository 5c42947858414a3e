-- Where the bytes held settle the answer, whatever bytes follow them.
use Rattle.std.proofs.Common.{◌≡◌, ℕ, ◌+◌, ◌-◌, ◌<◌, ◌≤◌, Bool, true, false, cond, List, [], ◌∷◌, ◌++◌, length, take, refl, sym, ap, ◌∙◌, subst}
use Rattle.std.proofs.Common.{arith, nat_eq, nat_lt, nat_le, inl, inr, ⊎_elim, ◌⊎◌, Some, None, IfSome, Option, slice_index, append-nil}
use Rattle.std.specs.Option.{option_map}
use Rattle.std.specs.Str.Lines.{strip_carriage_return}
use Rattle.std.proofs.lemmas.Bool.{cases_Bool, cases_lt, cond_both, ne_eqb, eqb-false, leb-false, ltb-false, lt-ltb, le-leb}
use Rattle.std.proofs.lemmas.List.{length-take, length-append}
use Rattle.scene_lines.specs.declared.next.Next.{Next}
use Rattle.scene_lines.specs.declared.next.Next.TheVariants.{Line, End, Long, TooMany, ReadFault}
use Rattle.scene_lines.specs.Next.{answer_at, OnLine, UnlessFault}
use Rattle.scene_lines.specs.Reading.{coming}
use Rattle.scene_lines.specs.declared.TheConstants.{LONGEST_LINE}
use Rattle.scene_lines.specs.SceneLines.{lines, has_feed, length_ahead, line_ahead, past_line}
use Rattle.scene_lines.proofs.Cutting.{length_ahead-append, length_ahead-le, length_ahead-within, line_ahead-append, past_line-append, no_feed_below}
use Rattle.scene_lines.proofs.Cutting.{feed_below, lines_first}

-- a line is shorter by one carriage return at most
strip_len : (xs : List ℕ) → length xs ≤ length (strip_carriage_return xs) + 1
strip_len xs =
    cond_both (nat_eq (slice_index xs (length xs - 1)) 13) (take (length xs - 1) xs) xs (λ line. length xs ≤ length line + 1)
    (λ _. omega (arith, length-take (length xs - 1) xs)) (λ _. omega arith)

pub line_ahead_len : (xs : List ℕ) → length_ahead xs ≤ length (line_ahead xs) + 1
line_ahead_len xs = omega (arith, strip_len (take (length_ahead xs) xs), length-take (length_ahead xs) xs, length_ahead-within xs)

-- a fact where a line is handed out
on_line : (answer : Next) (P : Type 0) → (answer ≡ Line → P) → OnLine answer P
on_line Line P f = f refl
on_line End P f = tt
on_line Long P f = tt
on_line TooMany P f = tt
on_line ReadFault P f = tt

at_line : (answer : Next) (P : Type 0) → answer ≡ Line → OnLine answer P → P
at_line Line P is p = p
at_line End P is p = absurd (cc)
at_line Long P is p = absurd (cc)
at_line TooMany P is p = absurd (cc)
at_line ReadFault P is p = absurd (cc)

pub OnLine-weaker : (answer : Next) (P Q : Type 0) → (P → Q) → OnLine answer P → OnLine answer Q
OnLine-weaker answer P Q f p = on_line answer Q (λ is. f (at_line answer P is p))

-- what is handed out of the bytes held, and what is left of them
pub record Hands (held : List ℕ) (over : Bool) (line rest : List ℕ) (after : Bool) : Type 0 where
  pub line_is : line ≡ line_ahead held
  pub rest_is : rest ≡ past_line held
  pub over_is : after ≡ over

module _ (limit number : ℕ) where
  -- how many bytes may be held with no line feed and settle nothing
  abbrev most : ℕ
  most = cond (nat_lt number limit) (LONGEST_LINE + 1) 0

  -- the answer at bytes that aren't empty
  answer_some : (xs : List ℕ) → 0 < length xs
      → answer_at limit number xs ≡ cond (nat_le limit number) TooMany (cond (nat_lt LONGEST_LINE (length (line_ahead xs))) Long Line)
  answer_some xs some = rw (ne_eqb (length xs) 0 (λ none. omega arith)) refl

  -- the same of bytes that are no line yet, and more than a line may have
  answer_refused : (xs : List ℕ) (n : ℕ) → most < n → n ≤ length_ahead xs → answer_at limit number xs ≡ cond (nat_le limit number) TooMany Long
  answer_refused xs n above ahead =
      answer_some xs (omega (arith, length_ahead-within xs))
      ∙ ⊎_elim
      (λ within.
      let enough : most ≡ (LONGEST_LINE + 1) = rw (lt-ltb number limit within) refl in
      rw (lt-ltb LONGEST_LINE (length (line_ahead xs)) (omega (arith, line_ahead_len xs, enough))) refl)
      (λ past. rw (le-leb limit number past) refl)
      (cases_lt number limit)

  -- bytes held in which a line ends, or that are all, or too many
  abbrev IsSettling : List ℕ → List ℕ → Bool → Type 0
  IsSettling held more over = (length_ahead held < length held) ⊎ (((more ≡ []) × (over ≡ true)) ⊎ ((length held ≤ length_ahead held) × (most < length held)))

  answer_settled : (held more : List ℕ) (over : Bool) → IsSettling held more over → answer_at limit number (held ++ more) ≡ answer_at limit number held
  answer_settled held more over =
      ⊎_elim
      (λ ends.
      answer_some (held ++ more) (omega (arith, length-append held more)) ∙ rw (line_ahead-append held more ends) (sym (answer_some held (omega arith))))
      (⊎_elim (λ none. let nothing = none.0 in rw nothing (ap (answer_at limit number) (append-nil held)))
      (λ many. answer_refused (held ++ more) (length held) many.1 (length_ahead-le held more many.0) ∙ sym (answer_refused held (length held) many.1 many.0)))

  is_line : (a b c : Bool) → Line ≡ cond a End (cond b TooMany (cond c Long Line)) → (a ≡ false) × (b ≡ false) × (c ≡ false)
  is_line true b c h = absurd (cc)
  is_line false true c h = absurd (cc)
  is_line false false true h = absurd (cc)
  is_line false false false h = (refl, refl, refl)

  -- a line is handed out where one ends among the bytes held, or where they are all
  line_settled : (held more : List ℕ) (over : Bool) → IsSettling held more over → Line ≡ answer_at limit number held → (0 < length held)
      × ((length_ahead held < length held) ⊎ ((more ≡ []) × (over ≡ true)))
  line_settled held more over settles h =
      let tests = is_line (nat_eq (length held) 0) (nat_le limit number) (nat_lt LONGEST_LINE (length (line_ahead held))) h in
      let some : 0 < length held = let apart = eqb-false (length held) 0 tests.0 in omega arith in
      let within : number < limit = leb-false limit number tests.1 in
      let short : length (line_ahead held) ≤ LONGEST_LINE = ltb-false LONGEST_LINE (length (line_ahead held)) tests.2 in
      let enough : most ≡ (LONGEST_LINE + 1) = rw (lt-ltb number limit within) refl in
      (some, ⊎_elim inl (⊎_elim inr (λ many. absurd (omega (arith, line_ahead_len held, many.0, many.1, enough)))) settles)

  -- what the bytes held and those that a source has left make of them
  pub record Settles (held : List ℕ) (over : Bool) (left : Option (List ℕ)) : Type 0 where
    pub enough : has_feed held ≡ false → over ≡ false → most < length held
    pub at_end : over ≡ true → IfSome left (λ bytes. bytes ≡ [])

  settling : (held more : List ℕ) (over : Bool) → Settles held over (Some more) → IsSettling held more over
  settling held more over s =
      ⊎_elim (λ feed. inl (feed_below held feed))
      (λ none. inr (⊎_elim (λ ended. inl (s.at_end ended, ended)) (λ going_on. inr (omega (arith, no_feed_below held none), s.enough none going_on))
      (cases_Bool over)))
      (cases_Bool (has_feed held))

  abbrev IsAnswered : Next → Option (List ℕ) → Type 0
  IsAnswered answer was = IfSome was (λ bytes. answer ≡ answer_at limit number bytes)

  unless_fault : (answer : Next) (P : Type 0) → P → UnlessFault answer P
  unless_fault Line P p = p
  unless_fault End P p = p
  unless_fault Long P p = p
  unless_fault TooMany P p = p
  unless_fault ReadFault P p = tt

  answered : (answer : Next) (held : List ℕ) (over : Bool) (left : Option (List ℕ)) → Settles held over left → answer ≡ answer_at limit number held
      → IsAnswered answer (coming held left)
  answered answer held over None s h = tt
  answered answer held over (Some more) s h = h ∙ sym (answer_settled held more over (settling held more over s))

  -- the answer at the bytes held is that at all that come
  pub exact_answer : (answer : Next) (held : List ℕ) (over : Bool) (left was : Option (List ℕ)) → Settles held over left → coming held left ≡ was
      → answer ≡ answer_at limit number held
      → UnlessFault answer (IfSome was (λ bytes. answer ≡ answer_at limit number bytes))
  exact_answer answer held over left was s same h =
      unless_fault answer (IsAnswered answer was) (subst (IsAnswered answer) same (answered answer held over left s h))

  -- What a line handed out of the bytes held says of all that come: it is their first, what is past it is what is past
  -- theirs, and where they have no line feed the input has ended.
  record IsFirst (held more : List ℕ) (over : Bool) : Type 0 where
    some : 0 < length (held ++ more)
    line : line_ahead (held ++ more) ≡ line_ahead held
    rest : past_line (held ++ more) ≡ past_line held ++ more
    at_end : has_feed (held ++ more) ≡ false → over ≡ true

  is_first : (held more : List ℕ) (over : Bool) → Settles held over (Some more) → Line ≡ answer_at limit number held → IsFirst held more over
  is_first held more over s h =
      let settled = line_settled held more over (settling held more over s) h in
      let len : length (held ++ more) ≡ length held + length more = length-append held more in
      record {
        some = omega (arith, settled.0);
        line = ⊎_elim (λ ends. line_ahead-append held more ends) (λ none. ap line_ahead (ap (λ bytes. held ++ bytes) none.0 ∙ append-nil held)) settled.1;
        rest = ⊎_elim (λ ends. past_line-append held more ends)
            (λ none. ap past_line (ap (λ bytes. held ++ bytes) none.0 ∙ append-nil held)
            ∙ sym (ap (λ bytes. past_line held ++ bytes) none.0 ∙ append-nil (past_line held))) settled.1;
        at_end = λ no_feed.
            ⊎_elim (λ ends. absurd (omega (arith, no_feed_below (held ++ more) no_feed, length_ahead-append held more ends, len))) (λ none. none.1) settled.1;
      }

  module _ (held : List ℕ) (over : Bool) (line rest : List ℕ) (after : Bool) where
    line_held : (left : Option (List ℕ)) → Settles held over left → Line ≡ answer_at limit number held → Hands held over line rest after
        → IfSome (coming held left) (λ bytes. line ≡ line_ahead bytes)
    line_held None s h hands = tt
    line_held (Some more) s h hands = hands.line_is ∙ sym (is_first held more over s h).line

    rest_held : (left : Option (List ℕ)) → Settles held over left → Line ≡ answer_at limit number held → Hands held over line rest after
        → coming rest left ≡ option_map past_line (coming held left)
    rest_held None s h hands = refl
    rest_held (Some more) s h hands = ap Some (ap (λ bytes. bytes ++ more) hands.rest_is ∙ sym (is_first held more over s h).rest)

    first_held : (left : Option (List ℕ)) → Settles held over left → Line ≡ answer_at limit number held → Hands held over line rest after
        → IfSome (coming held left) (λ bytes. IfSome (coming rest left) (λ past. lines bytes true ≡ line ∷ lines past true))
    first_held None s h hands = tt
    first_held (Some more) s h hands =
        let first = is_first held more over s h in
        let past : past_line (held ++ more) ≡ rest ++ more = first.rest ∙ ap (λ bytes. bytes ++ more) (sym hands.rest_is) in
        let ahead : line_ahead (held ++ more) ≡ line = first.line ∙ sym hands.line_is in
        lines_first (held ++ more) first.some ∙ rw (past, ahead) refl

    over_held : (left : Option (List ℕ)) → Settles held over left → Line ≡ answer_at limit number held → Hands held over line rest after
        → IfSome (coming held left) (λ bytes. has_feed bytes ≡ false → after ≡ true)
    over_held None s h hands = tt
    over_held (Some more) s h hands = λ no_feed. hands.over_is ∙ (is_first held more over s h).at_end no_feed

    module _ (answer : Next) (left was : Option (List ℕ)) (s : Settles held over left) (same : coming held left ≡ was)
        (h : answer ≡ answer_at limit number held) (handed : OnLine answer (Hands held over line rest after)) where
      pub line_answer : OnLine answer (IfSome was (λ bytes. line ≡ line_ahead bytes))
      line_answer =
          on_line answer (IfSome was (λ bytes. line ≡ line_ahead bytes))
          (λ is. subst (λ (w : Option (List ℕ)). IfSome w (λ bytes. line ≡ line_ahead bytes)) same
          (line_held left s (sym is ∙ h) (at_line answer (Hands held over line rest after) is handed)))

      pub rest_answer : OnLine answer (coming rest left ≡ option_map past_line was)
      rest_answer =
          on_line answer (coming rest left ≡ option_map past_line was)
          (λ is. rest_held left s (sym is ∙ h) (at_line answer (Hands held over line rest after) is handed) ∙ ap (option_map past_line) same)

      pub first_answer : OnLine answer (IfSome was (λ bytes. IfSome (coming rest left) (λ past. lines bytes true ≡ line ∷ lines past true)))
      first_answer =
          on_line answer (IfSome was (λ bytes. IfSome (coming rest left) (λ past. lines bytes true ≡ line ∷ lines past true)))
          (λ is. subst (λ (w : Option (List ℕ)). IfSome w (λ bytes. IfSome (coming rest left) (λ past. lines bytes true ≡ line ∷ lines past true))) same
          (first_held left s (sym is ∙ h) (at_line answer (Hands held over line rest after) is handed)))

      pub over_answer : OnLine answer (IfSome was (λ bytes. has_feed bytes ≡ false → after ≡ true))
      over_answer =
          on_line answer (IfSome was (λ bytes. has_feed bytes ≡ false → after ≡ true))
          (λ is. subst (λ (w : Option (List ℕ)). IfSome w (λ bytes. has_feed bytes ≡ false → after ≡ true)) same
          (over_held left s (sym is ∙ h) (at_line answer (Hands held over line rest after) is handed)))
