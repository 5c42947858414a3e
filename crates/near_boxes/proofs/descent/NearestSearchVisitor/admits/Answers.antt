-- Where there are enough, and the last is nearer than the hull, what lies in it comes after them.
use Rattle.std.proofs.Common.{◌≡◌, ◌∙◌, Bool, true, false, not, refl, sym, ap}
use Rattle.near_boxes.specs.Search.{is_passed}
use Rattle.near_boxes.proofs.Searched.{passed}
use Rattle.near_boxes.proofs.descent.NearestSearchVisitor.admits.Goals as goal

was : (b : Bool) → not b ≡ false → b ≡ true
was true e = refl
was false e = sym e

pub returns : goal.returns
returns g c =
    let s = c.args.self.now in
    record {
      passed = λ out. passed (g.T.Bodies.bodies s.bodies.now) s.to s.want s.nears.items c.args.hull.now c.square_apart.result c.square_apart.ensures.value
          (sym (ap (is_passed s.want c.square_apart.result) c.deref.ensures.value) ∙ sym c.is_passed.ensures ∙ was c.is_passed.result out);
    }
