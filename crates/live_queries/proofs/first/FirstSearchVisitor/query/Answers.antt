-- What the query misses isn't met.
use Rattle.broad_index.specs.Found.{query_meets}
use Rattle.live_queries.proofs.FirstBox.{missed}
use Rattle.live_queries.proofs.first.FirstSearchVisitor.query.Goals as goal

pub returns : goal.returns
returns g c =
    let s = c.args.self.now in
    record {
      missed = λ shown more has out. (
        has.0,
        missed (g.P.Probe.place s.probe.now) s.groups s.table.now.entries (query_meets c.query.result) c.query.ensures s.best
            shown more has.1 out,
      );
    }
