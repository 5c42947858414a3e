-- A part after another is seen, until nothing that is left is admitted.
use Rattle.std.proofs.Common.{true, not, ◌&&◌, ap, ◌∙◌}
use Rattle.std.proofs.lemmas.Bool.{and_parts}
use Rattle.fixed_box.specs.Bounds.{encloses}
use Rattle.std.specs.FinMap.{get}
use Rattle.hier_grid.specs.Visits.{entries_in}
use Rattle.hier_grid.proofs.VisitLemmas.{pass_all, saw_all, saw_more, saw_none, left_before, left_now, last_part, twice_not, held_meets, not_was}
use Rattle.hier_grid.proofs.visits.show_parts.Goals as goal

pub parts-init : goal.parts-init
parts-init g c = (
  saw_none c.args.grid.now (g.V.Visitor.saw c.args.visitor.now) (λ b. not (encloses c.args.hull.now b)) (λ k b e. ap not (c.requires k b e)),
  g.met.V.Visitor.keeps_itself c.args.visitor.now,
)

pub returns-then-not-admits-clause-seen : goal.returns-then-not-admits-clause-seen
returns-then-not-admits-clause-seen g c =
    let now = g.V.Visitor.saw c.parts.visitor in
    let area = encloses c.parts.body in
    saw_all c.args.grid.now (g.V.Visitor.saw c.args.visitor.now) now now (λ b. not (area b)) area (g.met.V.Visitor.any_order c.parts.visitor)
    (λ b. twice_not (area b)) c.parts.invariant.0
    (λ seen b. c.admits.ensures.passed c.if-not-admits.true seen (entries_in area c.args.grid.now) b (pass_all area c.args.grid.now))

pub show_area-requires : goal.show_area-requires
show_area-requires g c slot b e h =
    let parts = and_parts (encloses c.parts.body b) (not (encloses c.in-Some.cut.1 b)) h in
    c.in-Some.ensures.near b (c.sized_law.ensures slot b (ap (λ m. get m slot) c.kept.ensures ∙ e)).ordered parts.0 (not_was (encloses c.in-Some.cut.1 b) parts.1)

pub parts-preserved : goal.parts-preserved
parts-preserved g c = (
  saw_more c.args.grid.now (g.V.Visitor.saw c.args.visitor.now) (g.V.Visitor.saw c.parts.visitor) (g.V.Visitor.saw c.show_area.new.visitor)
      (λ b. not (encloses c.parts.body b)) (λ b. encloses c.parts.body b && not (encloses c.in-Some.cut.1 b)) (λ b. not (encloses c.in-Some.cut.1 b))
      (g.met.V.Visitor.any_order c.show_area.new.visitor)
      (λ b. left_before (encloses c.parts.body b) (encloses c.in-Some.cut.1 b) (c.box_laws.ensures.chain c.parts.body c.in-Some.cut.1 b c.in-Some.ensures.within))
      (λ b. left_now (encloses c.parts.body b) (encloses c.in-Some.cut.1 b)) c.parts.invariant.0 c.in_ok-show_area.ensures.seen,
  g.met.V.Visitor.keeps_on c.args.visitor.now c.parts.visitor c.show_area.new.visitor c.parts.invariant.1 c.in_ok-show_area.ensures.kept,
)

pub returns-then-not-admits-2-clause-seen : goal.returns-then-not-admits-2-clause-seen
returns-then-not-admits-2-clause-seen g c =
    let now = g.V.Visitor.saw c.parts.visitor in
    let area = encloses c.parts.body in
    saw_all c.args.grid.now (g.V.Visitor.saw c.args.visitor.now) now now (λ b. not (area b)) area (g.met.V.Visitor.any_order c.parts.visitor)
    (λ b. twice_not (area b)) c.parts.invariant.0
    (λ seen b. c.admits-2.ensures.passed c.if-not-admits-2.true seen (entries_in area c.args.grid.now) b (pass_all area c.args.grid.now))

pub show_area-requires-2 : goal.show_area-requires-2
show_area-requires-2 g c slot b e h =
    held_meets c.parts.body b (c.sized_law.ensures slot b (ap (λ m. get m slot) c.kept.ensures ∙ e)).ordered (and_parts (encloses c.parts.body b) true h).0

pub returns-clause-seen : goal.returns-clause-seen
returns-clause-seen g c =
    saw_all c.args.grid.now (g.V.Visitor.saw c.args.visitor.now) (g.V.Visitor.saw c.parts.visitor) (g.V.Visitor.saw c.show_area-2.new.visitor)
    (λ b. not (encloses c.parts.body b)) (λ b. encloses c.parts.body b && true) (g.met.V.Visitor.any_order c.show_area-2.new.visitor)
    (λ b. last_part (encloses c.parts.body b)) c.parts.invariant.0 c.in_ok-show_area-2.ensures.seen

pub returns-clause-kept : goal.returns-clause-kept
returns-clause-kept g c =
    g.met.V.Visitor.keeps_on c.args.visitor.now c.parts.visitor c.show_area-2.new.visitor c.parts.invariant.1 c.in_ok-show_area-2.ensures.kept
