-- Before there are enough what doesn't meet space isn't asked for, and after that what isn't reached is farther than the last.
use Rattle.std.proofs.Common.{◌≡◌, ◌<◌, ◌≤◌, ◌-◌, length, false, subst, arith, rules}
use Rattle.std.specs.List.{All}
use Rattle.broad_index.specs.Found.{query_meets}
use Rattle.broad_index.specs.declared.query.Query.TheVariants.{Region}
use Rattle.near_boxes.proofs.Searched.{missed, out_of_reach, last_nearer}
use Rattle.near_boxes.proofs.descent.NearestSearchVisitor.query.Goals as goal

pub returns-then-len-eq0 : goal.returns-then-len-eq0
returns-then-len-eq0 g c =
    let s = c.args.self.now in
    record {
      missed = λ seen more has out. missed (g.T.Bodies.bodies s.bodies.now) s.to s.want s.nears.items seen more has
          (subst (λ b. All (λ e. query_meets (Region b) e.1 ≡ false) more) c.all_of_space.ensures out);
    }

pub returns : goal.returns
returns g c =
    let s = c.args.self.now in
    let at : c.len-len.result - 1 ≡ length s.nears.items - 1 = first_of (search rules, omega arith, omega (arith, s.nears.ok.0)) in
    let within : c.len-len.result - 1 < length s.nears.items = first_of (search rules, omega arith, omega (arith, s.nears.ok.0)) in
    let last = last_nearer s.nears.items (c.len-len.result - 1) c.index.result.now at within c.index.ensures in
    let full : s.want ≤ length s.nears.items = first_of (search rules, omega arith, omega (arith, s.nears.ok.0)) in
    record {
      missed = λ seen more has out.
          out_of_reach (g.T.Bodies.bodies s.bodies.now) s.to s.want s.nears.items c.space_law.ensures c.reach_of-reach.result _ c.reach_of-reach.ensures.reaches full
          last seen more has
          (subst (λ b. All (λ e. query_meets (Region b) e.1 ≡ false) more) c.fatten.ensures.corners out);
    }
