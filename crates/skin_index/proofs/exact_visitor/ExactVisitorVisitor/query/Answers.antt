-- A box that doesn't meet the query lies in a skin that may.
use Rattle.std.proofs.Common.{◌≡◌, false}
use Rattle.broad_index.specs.Found.{query_meets}
use Rattle.skin_index.proofs.Exacts.{passed_by}
use Rattle.skin_index.proofs.exact_visitor.ExactVisitorVisitor.query.Goals as goal

pub returns : goal.returns
returns g c =
    let s = c.args.self.now in
    record {
      missed = passed_by s.bodies.now c.box_laws.ensures.itself (λ b. query_meets c.query.result b ≡ false) (c.enclosing_law.ensures.missed c.query.result)
          (g.V.Visitor.saw s.visitor.now) c.query.ensures.missed;
    }
