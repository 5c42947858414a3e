-- A box is passed by outside the hull, and seen along each axis inside.
use Rattle.std.proofs.Common.{sym, ap, ◌∙◌}
use Rattle.box_cast.specs.Cast.{in_cast}
use Rattle.prepared_query.proofs.Casts.{passed, passed_by}
use Rattle.prepared_query.proofs.cast_test.CastTestBoxTest.meets.Goals as goal

pub returns-then-overlaps : goal.returns-then-overlaps
returns-then-overlaps c =
    c.pass_grown.ensures
    ∙ passed (record { segs = c.seg_law.ensures.pairs; slides = c.slide_law.ensures.seg; ordered = c.slide_law.ensures.ordered })
    c.args.body.now c.self.invariant
    (record {
      cast_ordered = c.corner_law-2.ensures.ordered;
      cast_in_space = c.corner_law-2.ensures.in_space;
      ordered = c.corner_law.ensures.ordered;
      in_space = c.corner_law.ensures.in_space;
    })
    (sym c.overlaps.ensures ∙ c.if-overlaps.true)
    ∙ ap (λ cast. in_cast cast.body cast.by c.args.body.now) c.self.view_is

pub returns-else-overlaps : goal.returns-else-overlaps
returns-else-overlaps c =
    c.if-overlaps.false
    ∙ passed_by (record { segs = c.seg_law.ensures.pairs; slides = c.slide_law.ensures.seg; ordered = c.slide_law.ensures.ordered })
    c.args.body.now c.self.invariant
    (record {
      cast_ordered = c.corner_law-2.ensures.ordered;
      cast_in_space = c.corner_law-2.ensures.in_space;
      ordered = c.corner_law.ensures.ordered;
      in_space = c.corner_law.ensures.in_space;
    })
    (sym c.overlaps.ensures ∙ c.if-overlaps.false)
    ∙ ap (λ cast. in_cast cast.body cast.by c.args.body.now) c.self.view_is
