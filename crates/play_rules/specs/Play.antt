-- The play of a scene: what is replied to its lines, the last line, and how it ends.
use Rattle.std.specs.Prelude.{ℕ, Bool, true, List, length, is_some}
use Rattle.pair_report.specs.PairReport.{end_line, refused_line}
use Rattle.play_rules.specs.Course.{Course, Played, run_from, whole}
use Rattle.play_rules.specs.Readable.{readable, unless_full}
use Rattle.play_rules.specs.World.{World, opening, live_in, after, reply}

-- Each line is obeyed and replied to. Frames end with their exchanges where `shows` asks for it; `counts` says whether these are counted.
abbrev pub playing : Bool → Bool → Course World
playing counts shows = record {
  asks = λ w line. unless_full (length (live_in w)) (readable w.version line);
  text = reply shows;
  after = after counts;
  is_begun = λ w. is_some w.version;
  last = λ w n. end_line n w.time.now.frames (length (live_in w));
  last_refused = refused_line;
}

-- The play of a scene's lines, of which there may be `limit`.
abbrev pub played : Bool → ℕ → List (List ℕ) → Played
played shows limit lines = run_from (playing true shows) limit opening 1 lines

-- the whole report of a scene's lines
abbrev pub report : Bool → ℕ → List (List ℕ) → List ℕ
report shows limit lines = whole (played shows limit lines)
