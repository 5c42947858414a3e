-- Whatever hits stand beside the boxes of the slots that are left, those so far before them stand beside the boxes of all.
use Rattle.std.proofs.Common.{◌++◌, List, length}
use Rattle.std.specs.List.{filter_map}
use Rattle.live_queries.specs.Beside.{AreBeside, IsHit, met_at}
use Rattle.live_queries.specs.declared.hit.Hit.{Hit}
use Rattle.live_queries.proofs.met.find_hits.Given as goal

abbrev pub invariant-slots : goal.invariant-slots
invariant-slots g l =
    (more : List Hit)
    → AreBeside (IsHit (g.P.Probe.place l.probe) l.table.entries) more
    (filter_map (met_at (g.P.Probe.place l.probe) l.groups l.table.entries) l.rest)
    → AreBeside (IsHit (g.P.Probe.place l.probe) l.table.entries) (l.hits.items ++ more)
    (filter_map (met_at (g.P.Probe.place l.probe) l.groups l.table.entries) l.slots)

abbrev pub decreases-slots : goal.decreases-slots
decreases-slots g l = length l.rest
