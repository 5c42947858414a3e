-- Serves proofs alone: what the first lines of a scene come to, and what the limits leave of a line, for any course.
use Rattle.std.specs.Prelude.{◌≡◌, ℕ, ◌+◌, ◌-◌, ◌≤◌, ◌<◌, Bool, true, false, nat_lt, List, [], ◌∷◌, ◌++◌, length, Result}
use Rattle.std.specs.Prelude.{Ok, Err}
use Rattle.std.proofs.Common.{refl, sym, ap, subst, cond, ◌∙◌}
use Rattle.std.proofs.lemmas.Bool.{le-ltb, lt-ltb}
use Rattle.std.proofs.lemmas.List.{append_assoc}
use Rattle.pair_report.specs.declared.cause.Cause.{Cause}
use Rattle.pair_report.specs.declared.cause.Cause.TheVariants as cause
use Rattle.scene_lines.specs.SceneLines.{IsPrefix}
use Rattle.scene_lines.specs.declared.TheConstants.{LONGEST_LINE}
use Rattle.scene_words.specs.declared.command.Command.{Command}
use Rattle.play_rules.specs.declared.status.Status.TheVariants.{Done}
use Rattle.play_rules.specs.Course.{Course, Played, within_limits, refused_at, ended_at, reply_first, step, run_from, whole}

-- a line whose number and length are within the limits asks for what it says
pub asked_within : (limit n : ℕ) (line : List ℕ) (said : Result Command Cause) → n ≤ limit → length line ≤ LONGEST_LINE
    → within_limits limit n line said ≡ said
unfolding within_limits
asked_within limit n line said few short =
    ap (λ t. cond t (Err cause.Lines) (cond (nat_lt LONGEST_LINE (length line)) (Err cause.Long) said)) (le-ltb limit n few)
    ∙ ap (λ t. cond t (Err cause.Long) said) (le-ltb LONGEST_LINE (length line) short)

pub asked_long : (limit n : ℕ) (line : List ℕ) (said : Result Command Cause) → n ≤ limit → nat_lt LONGEST_LINE (length line) ≡ true
    → within_limits limit n line said ≡ Err cause.Long
unfolding within_limits
asked_long limit n line said few long =
    ap (λ t. cond t (Err cause.Lines) (cond (nat_lt LONGEST_LINE (length line)) (Err cause.Long) said)) (le-ltb limit n few)
    ∙ ap (λ t. cond t (Err cause.Long) said) long

pub asked_past : (limit n : ℕ) (line : List ℕ) (said : Result Command Cause) → limit < n → within_limits limit n line said ≡ Err cause.Lines
unfolding within_limits
asked_past limit n line said past =
    ap (λ t. cond t (Err cause.Lines) (cond (nat_lt LONGEST_LINE (length line)) (Err cause.Long) said)) (lt-ltb limit n past)

-- two texts before what follows
pub both_first : (a b : List ℕ) (p : Played) → reply_first a (reply_first b p) ≡ reply_first (a ++ b) p
both_first a b p = ap (λ t. record p { replies = t }) (sym (append_assoc a b p.replies))

module _ {W : Type 0} (course : Course W) where
  -- where the input has ended, no line is replied to
  pub no_replies : (w : W) (n : ℕ) → (ended_at course w n).replies ≡ []
  no_replies w n = go (course.is_begun w)
    where
      go : (b : Bool) → (cond b (record { replies = []; last = course.last w (n - 1); status = Done; passed = true })
          (record (refused_at course n cause.Header) { passed = true })).replies ≡ []
      go true = refl
      go false = refl

  -- one line, before the same lines and more
  step_begins : (w : W) (n : ℕ) (said : Result Command Cause) (few all : W → Played) → ((v : W) → IsPrefix (few v).replies (whole (all v)))
      → IsPrefix (step course w n said few).replies (whole (step course w n said all))
  step_begins w n (Err c) few all h = (course.last_refused n c, refl)
  step_begins w n (Ok said) few all h =
      let next = course.after w said in
      let text = course.text w said in
      let later = h next in (
        later.0,
        append_assoc text (all next).replies (all next).last ∙ ap (λ t. text ++ t) later.1 ∙ sym (append_assoc text (few next).replies later.0),
      )

  -- the replies to the first lines begin the text of all of them
  pub replies_begin : (limit : ℕ) (xs ys : List (List ℕ)) (w : W) (n : ℕ)
      → IsPrefix (run_from course limit w n xs).replies (whole (run_from course limit w n (xs ++ ys)))
  replies_begin limit [] ys w n =
      let all = whole (run_from course limit w n ys) in
      subst (λ t. IsPrefix t all) (sym (no_replies w n)) (all, refl)
  replies_begin limit (x ∷ xs) ys w n =
      step_begins w n (within_limits limit n x (course.asks w x)) (λ v. run_from course limit v (n + 1) xs)
      (λ v. run_from course limit v (n + 1) (xs ++ ys)) (λ v. replies_begin limit xs ys v (n + 1))
