-- A printed scene whose commands are allowed is played to its end.
use Rattle.std.proofs.Common.{◌≡◌, ℕ, ◌+◌, ◌≤◌, Bool, true, List, [], ◌∷◌, ◌++◌, length, map, is_some, Ok, refl, ap, ◌∙◌}
use Rattle.std.proofs.Common.{arith}
use Rattle.std.specs.List.{All}
use Rattle.std.proofs.lemmas.List.Elements.{All-head, All-tail}
use Rattle.scene_lines.specs.SceneLines.{lines}
use Rattle.scene_words.specs.declared.version.Version.{Version}
use Rattle.scene_words.specs.declared.version.Version.TheVariants.{One}
use Rattle.scene_words.specs.declared.command.Command.{Command}
use Rattle.scene_words.specs.Printed.{printed, scene_text}
use Rattle.play_rules.specs.declared.status.Status.TheVariants.{Done}
use Rattle.play_rules.specs.AllowedScene.{AreAllowed, after_all}
use Rattle.play_rules.specs.Course.{Course, within_limits, ended_at, reply_first, step, run_from}
use Rattle.play_rules.specs.CourseLaws.{asked_within, both_first}
use Rattle.play_rules.specs.Play.{playing, played}
use Rattle.play_rules.specs.Readable.{reads_under}
use Rattle.play_rules.specs.World.{World, opening, after, reply, allowed}
use Rattle.play_rules.proofs.PrintedLines.{IsLegible, first_read}

-- a command that both versions have
abbrev pub IsOfBoth : Command → Type 0
IsOfBoth c = (version : Version) → IsLegible version c

lines_read : (cs : List Command) → All IsOfBoth cs → lines (scene_text cs) true ≡ map printed cs
lines_read [] h = refl
lines_read (c ∷ cs) h =
    first_read c (scene_text cs) (All-head IsOfBoth c cs h One).visible ∙ ap (λ ls. printed c ∷ ls) (lines_read cs (All-tail IsOfBoth c cs h))

module _ (shows : Bool) (limit : ℕ) where
  abbrev play : Course World
  play = playing true shows

  asked_of : (n : ℕ) (w : World) (c : Command) → n ≤ limit → IsOfBoth c → allowed w (Ok c) ≡ Ok c
      → within_limits limit n (printed c) (play.asks w (printed c)) ≡ Ok c
  asked_of n w c few h ok =
      let known = h (reads_under w.version) in
      asked_within limit n (printed c) (play.asks w (printed c)) few known.short ∙ ap (allowed w) known.back ∙ ok

  -- the replies to commands
  abbrev replies_to : World → List Command → List ℕ
  replies_to w [] = []
  replies_to w (c ∷ cs) = reply shows w c ++ replies_to (after true w c) cs

  plays : (n : ℕ) (w : World) (cs : List Command) → n + length cs ≤ limit + 1 → All IsOfBoth cs → AreAllowed w cs
      → run_from play limit w n (map printed cs) ≡ reply_first (replies_to w cs) (ended_at play (after_all w cs) (n + length cs))
  plays n w [] few h a = ap (ended_at play w) (omega arith)
  plays n w (c ∷ cs) few h a =
      ap (λ r. step play w n r (λ next. run_from play limit next (n + 1) (map printed cs)))
      (asked_of n w c (omega (arith, few)) (All-head IsOfBoth c cs h) a.0)
      ∙ ap (reply_first (reply shows w c)) (plays (n + 1) (after true w c) cs (omega (arith, few)) (All-tail IsOfBoth c cs h) a.1)
      ∙ both_first (reply shows w c) (replies_to (after true w c) cs) (ended_at play (after_all (after true w c) cs) (n + 1 + length cs))
      ∙ ap (λ k. reply_first (replies_to w (c ∷ cs)) (ended_at play (after_all w (c ∷ cs)) k)) (omega arith)

  done : (w : World) (n : ℕ) → is_some w.version ≡ true → (ended_at play w n).status ≡ Done
  done w n h = rw h refl

  pub ends_done : (cs : List Command) → length cs ≤ limit → All IsOfBoth cs → AreAllowed opening cs
      → is_some (after_all opening cs).version ≡ true → (played shows limit (lines (scene_text cs) true)).status ≡ Done
  ends_done cs few h a headed =
      ap (λ ls. (run_from play limit opening 1 ls).status) (lines_read cs h) ∙ ap (λ p. p.status) (plays 1 opening cs (omega (arith, few)) h a)
      ∙ done (after_all opening cs) (1 + length cs) headed
