-- A ring after another is seen, and then what none of them meets.
use Rattle.std.proofs.Common.{not, ◌&&◌, None, refl}
use Rattle.std.proofs.lemmas.Bool.{and_parts, false≢true}
use Rattle.fixed_box.specs.Bounds.{meets}
use Rattle.grid_boxes.specs.Grid.{meets_part}
use Rattle.hier_grid.proofs.VisitLemmas.{saw_all, saw_more, saw_none, inner_left}
use Rattle.hier_grid.proofs.visits.show_rings.Goals as goal

pub rings-init : goal.rings-init
rings-init g c = (saw_none c.args.grid.now (g.V.Visitor.saw c.args.visitor.now) (meets_part None) (λ k b e. refl), (g.met.V.Visitor.keeps_itself c.args.visitor.now, λ b h. absurd (false≢true h)))

pub show_area-requires : goal.show_area-requires
show_area-requires g c slot b e h = (and_parts (meets c.rings.ring b) (not (meets_part c.rings.inner b)) h).0

pub rings-preserved : goal.rings-preserved
rings-preserved g c = (
  saw_more c.args.grid.now (g.V.Visitor.saw c.args.visitor.now) (g.V.Visitor.saw c.rings.visitor) (g.V.Visitor.saw c.show_area.new.visitor)
      (meets_part c.rings.inner) (λ b. meets c.rings.ring b && not (meets_part c.rings.inner b)) (meets c.rings.ring)
      (g.met.V.Visitor.any_order c.show_area.new.visitor) (λ b. inner_left (meets c.rings.ring b) (meets_part c.rings.inner b) (c.rings.invariant.1.1 b)) (λ b. refl)
      c.rings.invariant.0 c.in_ok-show_area.ensures.seen,
  (
    g.met.V.Visitor.keeps_on c.args.visitor.now c.rings.visitor c.show_area.new.visitor c.rings.invariant.1.0 c.in_ok-show_area.ensures.kept,
    λ b m. c.box_laws.ensures.met c.fatten-ring.result c.rings.ring b c.fatten-ring.ensures.held m,
  ),
)

pub returns-clause-seen : goal.returns-clause-seen
returns-clause-seen g c =
    saw_all c.args.grid.now (g.V.Visitor.saw c.args.visitor.now) (g.V.Visitor.saw c.rings.visitor) (g.V.Visitor.saw c.show_rest.new.visitor)
    (meets_part c.rings.inner) (λ b. not (meets_part c.rings.inner b)) (g.met.V.Visitor.any_order c.show_rest.new.visitor)
    (λ b. refl) c.rings.invariant.0 c.in_ok-show_rest.ensures.seen

pub returns-clause-kept : goal.returns-clause-kept
returns-clause-kept g c =
    g.met.V.Visitor.keeps_on c.args.visitor.now c.rings.visitor c.show_rest.new.visitor c.rings.invariant.1.0 c.in_ok-show_rest.ensures.kept
