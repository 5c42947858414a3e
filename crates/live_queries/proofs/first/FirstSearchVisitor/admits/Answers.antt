-- A hull that isn't met, or is so behind the first so far, has no box that comes before it.
use Rattle.std.proofs.Common.{◌∙◌, sym}
use Rattle.live_queries.proofs.FirstBox.{passed_unmet, passed_behind}
use Rattle.live_queries.proofs.first.FirstSearchVisitor.admits.Goals as goal

pub returns-then-meets : goal.returns-then-meets
returns-then-meets g c =
    let s = c.args.self.now in
    record {
      passed = λ out shown more has inside. (
        has.0,
        passed_behind (g.P.Probe.place s.probe.now) s.groups s.table.now.entries c.place_law.ensures c.args.hull.now
            s.best (c.may_hold.ensures out) shown more has.1 inside,
      );
    }

pub returns-else-meets : goal.returns-else-meets
returns-else-meets g c =
    let s = c.args.self.now in
    record {
      passed = λ out shown more has inside. (
        has.0,
        passed_unmet (g.P.Probe.place s.probe.now) s.groups s.table.now.entries c.place_law.ensures c.args.hull.now
            (sym (has.0 c.args.hull.now) ∙ sym c.meets.ensures ∙ out) s.best shown more has.1 inside,
      );
    }
