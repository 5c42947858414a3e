-- What a hull of skins encloses, it encloses of their boxes.
use Rattle.std.proofs.Common.{◌≡◌, true}
use Rattle.fixed_box.specs.Bounds.{encloses}
use Rattle.skin_index.proofs.Exacts.{passed_by}
use Rattle.skin_index.proofs.exact_visitor.ExactVisitorVisitor.admits.Goals as goal

pub returns : goal.returns
returns g c =
    let s = c.args.self.now in
    let hull = c.args.hull.now in
    let law = c.box_laws.ensures in
    record {
      passed = λ out. passed_by s.bodies.now law.itself (λ b. encloses hull b ≡ true) (λ outer inner within around. law.chain hull outer inner around within)
          (g.V.Visitor.saw s.visitor.now) (c.admits.ensures.passed out);
    }
