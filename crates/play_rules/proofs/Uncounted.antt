-- A play that counts no exchanges is the play that counts them with all of them hidden.
use Rattle.std.proofs.Common.{◌≡◌, ℕ, ◌+◌, Bool, true, false, cond, nat_lt, List, [], ◌∷◌, length, map, Ok, Err, refl, ap, ◌∙◌}
use Rattle.std.proofs.lemmas.List.{length-map}
use Rattle.pair_report.specs.PairReport.{back_line}
use Rattle.world_marks.specs.declared.TheConstants.{MOST_MARKS}
use Rattle.box_world.specs.World.{World as Boxes, Timeline, marked, back_to}
use Rattle.scene_words.specs.declared.command.Command.{Command}
use Rattle.scene_words.specs.declared.command.Command.TheVariants.{Blank, Header, Add, Move, Mask, Remove, Frame, BoxQ, PointQ, RayQ, SegQ, Cast, Near, Mark}
use Rattle.scene_words.specs.declared.command.Command.TheVariants.{Back}
use Rattle.play_rules.specs.Course.{Course, within_limits, reply_first, step, run_from}
use Rattle.play_rules.specs.Play.{playing, played}
use Rattle.play_rules.specs.World.{World, opening, after, reply, mark_reply, back_reply}

-- without exchanges, here and at the marks
abbrev hidden : Boxes → Boxes
hidden w = record w { exchanges = 0 }

abbrev hidden_time : Timeline → Timeline
hidden_time t = record { now = hidden t.now; marks = map hidden t.marks }

abbrev hide : World → World
hide w = record w { time = hidden_time w.time }

as_many : (ws : List Boxes) → length (map hidden ws) ≡ length ws
as_many ws = length-map ws hidden

hidden_marked : (t : Timeline) → marked (hidden_time t) ≡ hidden_time (marked t)
hidden_marked t =
    ap (λ n. cond (nat_lt n MOST_MARKS) (record (hidden_time t) { marks = hidden t.now ∷ map hidden t.marks }) (hidden_time t)) (as_many t.marks)
    ∙ go (nat_lt (length t.marks) MOST_MARKS)
  where
    go : (b : Bool) → cond b (record (hidden_time t) { marks = hidden t.now ∷ map hidden t.marks }) (hidden_time t)
        ≡ hidden_time (cond b (record t { marks = t.now ∷ t.marks }) t)
    go true = refl
    go false = refl

hidden_back : (t : Timeline) (ws : List Boxes) → back_to (hidden_time t) (map hidden ws) ≡ hidden_time (back_to t ws)
hidden_back t [] = refl
hidden_back t (w ∷ older) = refl

hidden_after : (w : World) (c : Command) → after false (hide w) c ≡ hide (after true w c)
hidden_after w Blank = refl
hidden_after w (Header version) = refl
hidden_after w (Add body masks group) = refl
hidden_after w (Move handle body) = refl
hidden_after w (Mask handle masks) = refl
hidden_after w (Remove handle) = refl
hidden_after w Frame = refl
hidden_after w (BoxQ body mask) = refl
hidden_after w (PointQ at mask) = refl
hidden_after w (RayQ ray mask entry) = refl
hidden_after w (SegQ seg mask) = refl
hidden_after w (Cast cast mask) = refl
hidden_after w (Near at want mask) = refl
hidden_after w Mark = ap (λ t. record w { time = t }) (hidden_marked w.time)
hidden_after w Back = ap (λ t. record w { time = t }) (hidden_back w.time w.time.marks)

back_said : (ws : List Boxes) → back_reply (map hidden ws) ≡ back_reply ws
back_said [] = refl
back_said (w ∷ older) = ap back_line (as_many older)

hidden_reply : (w : World) (c : Command) → reply false (hide w) c ≡ reply false w c
hidden_reply w Blank = refl
hidden_reply w (Header version) = refl
hidden_reply w (Add body masks group) = refl
hidden_reply w (Move handle body) = refl
hidden_reply w (Mask handle masks) = refl
hidden_reply w (Remove handle) = refl
hidden_reply w Frame = refl
hidden_reply w (BoxQ body mask) = refl
hidden_reply w (PointQ at mask) = refl
hidden_reply w (RayQ ray mask entry) = refl
hidden_reply w (SegQ seg mask) = refl
hidden_reply w (Cast cast mask) = refl
hidden_reply w (Near at want mask) = refl
hidden_reply w Mark = ap mark_reply (as_many w.time.marks)
hidden_reply w Back = back_said w.time.marks

module _ (limit : ℕ) where
  abbrev plain : Course World
  plain = playing false false

  abbrev exact : Course World
  exact = playing true false

  hidden_run : (w : World) (n : ℕ) (lines : List (List ℕ)) → run_from plain limit (hide w) n lines ≡ run_from exact limit w n lines
  hidden_run w n [] = refl
  hidden_run w n (line ∷ more) =
      elim (within_limits limit n line (exact.asks w line)) as (λ said. step plain (hide w) n said (λ next. run_from plain limit next (n + 1) more)
      ≡ step exact w n said (λ next. run_from exact limit next (n + 1) more)) [
        | Err c ↦ refl
        | Ok c ↦
            ap (λ t. reply_first t (run_from plain limit (after false (hide w) c) (n + 1) more)) (hidden_reply w c)
            ∙ ap (λ v. reply_first (reply false w c) (run_from plain limit v (n + 1) more)) (hidden_after w c)
            ∙ ap (reply_first (reply false w c)) (hidden_run (after true w c) (n + 1) more)
      ]

  pub uncounted : (counts shows : Bool) (lines : List (List ℕ)) → (shows ≡ true → counts ≡ true)
      → run_from (playing counts shows) limit opening 1 lines ≡ played shows limit lines
  uncounted true shows lines known = refl
  uncounted false false lines known = hidden_run opening 1 lines
  uncounted false true lines known = let clash = known refl in absurd (cc)
