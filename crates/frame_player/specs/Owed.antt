-- Serves proofs alone: the answers to queries that are gathered.
use Rattle.std.specs.Prelude.{◌≡◌, ℕ, ◌<◌, List, length, map, flat_map}
use Rattle.live_table.specs.declared.live.Live.{Live}
use Rattle.broad_index.specs.declared.query.Query.{Query}
use Rattle.broad_index.specs.declared.query.Query.TheVariants.{Region, Spot, Along, Between, Swept}
use Rattle.broad_index.specs.declared.query.QKind.TheVariants as kind
use Rattle.pair_report.specs.PairReport.{hits_line, cast_line}
use Rattle.live_queries.specs.declared.groups.Groups.TheVariants.{Of}
use Rattle.live_queries.specs.Pairs.{hits_of}
use Rattle.live_queries.specs.Queries.{entered_of, cast_of}
use Rattle.frame_player.specs.declared.asked.Asked.{Asked}
use Rattle.frame_player.specs.declared.asked.Asked.TheVariants as asked
use Rattle.frame_player.specs.declared.query_run.QueryRun.{QueryRun}
use Rattle.frame_player.specs.declared.query_run.TheConstants.{LONGEST_RUN}

-- what the index is asked for it
abbrev pub query_for : Asked → Query
query_for (asked.Hits query mask) = query
query_for (asked.Entered ray mask) = Along ray

-- the line of the boxes that meet a query
abbrev pub met_line : List Live → ℕ → Query → List ℕ
met_line entries mask (Region body) = hits_line kind.Region (hits_of entries (Region body) (Of mask))
met_line entries mask (Spot at) = hits_line kind.Spot (hits_of entries (Spot at) (Of mask))
met_line entries mask (Along ray) = hits_line kind.Along (hits_of entries (Along ray) (Of mask))
met_line entries mask (Between seg) = hits_line kind.Between (hits_of entries (Between seg) (Of mask))
met_line entries mask (Swept cast) = cast_line (cast_of entries cast (Of mask))

-- the line of an answer
abbrev pub answer_line : List Live → Asked → List ℕ
answer_line entries (asked.Hits query mask) = met_line entries mask query
answer_line entries (asked.Entered ray mask) = hits_line kind.Along (entered_of entries ray (Of mask))

-- a line for each, in their order
abbrev pub answers : List Live → List Asked → List ℕ
answers entries run = flat_map (answer_line entries) run

-- what is owed for a run
abbrev pub owed : List Live → QueryRun → List ℕ
owed entries run = answers entries run.asked.items

-- each has its query, and there is room for one more
pub record IsRun (run : QueryRun) : Type 0 where
  pub same : run.queries.items ≡ map query_for run.asked.items
  pub few : length run.asked.items < LONGEST_RUN
