-- Serves proofs alone: the numbers of a summary, as the code keeps them from line to line.
use Rattle.std.specs.Prelude.{ℕ, Bool, ◌+◌, ◌*◌, ◌^◌, ◌≤◌, List, [], ◌++◌, codes, if◌then◌else◌}
use Rattle.scene_drill.specs.declared.tally.Tally.{Tally}
use Rattle.scene_drill.specs.Summary.{count_of, pairs_of, hits_of, exchanges_of, row}

-- the tally of some lines
unfoldable pub tally_of : List (List ℕ) → Tally
tally_of ls = record {
  adds = count_of (codes "add") ls;
  pairs = pairs_of ls;
  begin = count_of (codes "begin") ls;
  stay = count_of (codes "stay") ls;
  over = count_of (codes "over") ls;
  hits = hits_of ls;
  exchanges = exchanges_of ls;
}

-- two tallies, number by number
unfoldable pub plus : Tally → Tally → Tally
plus s t = record {
  adds = s.adds + t.adds;
  pairs = s.pairs + t.pairs;
  begin = s.begin + t.begin;
  stay = s.stay + t.stay;
  over = s.over + t.over;
  hits = s.hits + t.hits;
  exchanges = s.exchanges + t.exchanges;
}

-- Each number is at most 2^64 for each of so many bytes: one of twenty digits takes twenty of them.
pub record IsWithin (n : ℕ) (t : Tally) : Type 0 where
  pub adds : t.adds ≤ n * 2 ^ 64
  pub pairs : t.pairs ≤ n * 2 ^ 64
  pub begin : t.begin ≤ n * 2 ^ 64
  pub stay : t.stay ≤ n * 2 ^ 64
  pub over : t.over ≤ n * 2 ^ 64
  pub hits : t.hits ≤ n * 2 ^ 64
  pub exchanges : t.exchanges ≤ n * 2 ^ 64

-- the rows that are always there
abbrev pub rows : ℕ → ℕ → Tally → List ℕ
rows boxes frames t =
    row (codes "boxes ") boxes
    ++ row (codes "frames ") frames
    ++ row (codes "adds ") t.adds
    ++ row (codes "pairs ") t.pairs
    ++ row (codes "begin ") t.begin
    ++ row (codes "stay ") t.stay
    ++ row (codes "over ") t.over
    ++ row (codes "hits ") t.hits

-- and with the row of the exchanges, where they are shown
abbrev pub tally_text : ℕ → ℕ → Bool → Tally → List ℕ
tally_text boxes frames shown t = rows boxes frames t ++ (if shown then row (codes "exchanges ") t.exchanges else [])
