-- A box is passed by outside the least one around the line, and seen along each axis inside.
use Rattle.std.proofs.Common.{sym, ap, ◌∙◌}
use Rattle.broad_index.specs.Found.{query_meets}
use Rattle.prepared_query.proofs.Lines.{passed, passed_by}
use Rattle.prepared_query.proofs.line_test.LineTestBoxTest.meets.Goals as goal

pub returns-then-overlaps : goal.returns-then-overlaps
returns-then-overlaps c =
    c.pass.ensures
    ∙ passed (record { rays = c.ray_law.ensures.pairs; segs = c.seg_law.ensures.pairs })
    c.args.body.now c.self.invariant c.corner_law.ensures.ordered c.corner_law.ensures.in_space
    (sym c.overlaps.ensures ∙ c.if-overlaps.true)
    ∙ ap (λ query. query_meets query c.args.body.now) c.self.view_is

pub returns-else-overlaps : goal.returns-else-overlaps
returns-else-overlaps c =
    c.if-overlaps.false
    ∙ passed_by (record { rays = c.ray_law.ensures.pairs; segs = c.seg_law.ensures.pairs })
    c.args.body.now c.self.invariant c.corner_law.ensures.ordered c.corner_law.ensures.in_space
    (sym c.overlaps.ensures ∙ c.if-overlaps.false)
    ∙ ap (λ query. query_meets query c.args.body.now) c.self.view_is
