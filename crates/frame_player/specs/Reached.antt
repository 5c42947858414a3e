-- Serves proofs alone: how far a run over the lines of a scene has come, between two lines, and its text once the reading has ended.
use Rattle.std.specs.Prelude.{◌≡◌, ℕ, ◌<◌, Bool, true, false, List, [], ◌++◌, Option, Some}
use Rattle.std.specs.List.{count_by}
use Rattle.scene_lines.specs.Reading.{coming}
use Rattle.scene_lines.specs.SceneLines.{lines, is_feed}
use Rattle.play_rules.specs.declared.status.Status.{Status}
use Rattle.play_rules.specs.declared.status.Status.TheVariants.{Done, Refused, ReadFault}
use Rattle.play_rules.specs.Course.{Course, Played, reply_first, run_from, whole}
use Rattle.play_rules.specs.Outcome.{IsReplyTo, IsReadUpTo}

-- Where line number n comes next in a state: the replies so far before the run over what is left are what all that was given comes to.
-- While the input may go on, the same holds of whatever follows the bytes of the lines that were read. These hold fewer than n ends of lines.
pub record IsReached {W : Type 0} (course : Course W) (play : List (List ℕ) → Played) (limit : ℕ) (given : List ℕ) (left : Option (List ℕ))
    (held : List ℕ) (over : Bool) (w : W) (n : ℕ) (out : List ℕ) : Type 0 where
  pub bytes : List ℕ
  pub coming : coming held left ≡ Some bytes
  pub so_far : reply_first out (run_from course limit w n (lines bytes true)) ≡ play (lines given true)
  pub front : List ℕ
  pub split : given ≡ front ++ bytes
  pub ahead : over ≡ false → (more : List ℕ) → reply_first out (run_from course limit w n (lines more false)) ≡ play (lines (front ++ more) false)
  pub feeds : count_by is_feed front < n

-- the text of the bytes that were given, as the reading ends, where these are left
abbrev pub IsTextOf : (List (List ℕ) → Played) → List ℕ → Option (List ℕ) → List ℕ → Status → Type 0
IsTextOf play given left text Done = ((play (lines given true)).status ≡ Done) × (text ≡ whole (play (lines given true))) × (left ≡ Some [])
IsTextOf play given left text (Refused n c) =
    ((play (lines given true)).status ≡ Refused n c) × (text ≡ whole (play (lines given true))) × IsReadUpTo n given left
IsTextOf play given left text ReadFault = IsReplyTo play given left text
IsTextOf play given left text other = ⊥
