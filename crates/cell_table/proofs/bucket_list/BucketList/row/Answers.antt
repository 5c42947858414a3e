-- The cells of a row have neighbouring buckets.
use Rattle.std.proofs.Common.{◌+◌, ◌-◌, arith, w32, FitsSigned}
use Rattle.std.specs.Prelude.{pos, ◌+ℤ◌, ◌≤ℤ◌}
use Rattle.std.proofs.lemmas.Int.{ints}
use Rattle.cell_table.specs.declared.TheConstants.{BUCKETS}
use Rattle.cell_table.proofs.RowLemmas.{in_all, in_one, in_two, seen}
use Rattle.cell_table.proofs.bucket_list.BucketList.row.Goals as goal

pub returns-then-len-clause-whole : goal.returns-then-len-clause-whole
returns-then-len-clause-whole c =
    let s = c.self.inside in
    seen _ _ c.args.key.now c.args.end _ c.self.view_is
    (in_all (record { starts = s.starts.items; slots = s.slots.items }) c.args.key.now c.args.end c.len-then-len.result
    (omega (arith, c.len-then-len.ensures, s.slots.ok.0)))

pub returns-then-after-le-BUCKETS-clause-whole : goal.returns-then-after-le-BUCKETS-clause-whole
returns-then-after-le-BUCKETS-clause-whole c =
    let s = c.self.inside in
    let n = c.cells_below-cells.result in
    let fits : FitsSigned w32 c.args.key.now.z = grind (arith, ints) in
    let below : c.args.end ≤ℤ (c.args.key.now.z +ℤ pos n) = grind (arith, ints, c.cells_below-cells.ensures.le) in
    seen _ _ c.args.key.now c.args.end _ c.self.view_is
    (in_one (record { starts = s.starts.items; slots = s.slots.items }) c.self.invariant (omega (arith, c.if-len.false, c.len.ensures, s.starts.ok.0))
    c.args.key.now c.args.end n fits c.ranges.end below (omega (arith, c.if-cells-ge-BUCKETS.false)) c.bucket_of-first.result _ _
    c.bucket_of-first.ensures.value c.index.ensures (omega (arith, c.if-after-le-BUCKETS.true)) c.index-then-after-le-BUCKETS.ensures)

pub returns-else-after-le-BUCKETS-clause-whole : goal.returns-else-after-le-BUCKETS-clause-whole
returns-else-after-le-BUCKETS-clause-whole c =
    let s = c.self.inside in
    let n = c.cells_below-cells.result in
    let fits : FitsSigned w32 c.args.key.now.z = grind (arith, ints) in
    let below : c.args.end ≤ℤ (c.args.key.now.z +ℤ pos n) = grind (arith, ints, c.cells_below-cells.ensures.le) in
    seen _ _ c.args.key.now c.args.end _ c.self.view_is
    (in_two (record { starts = s.starts.items; slots = s.slots.items }) c.self.invariant (omega (arith, c.if-len.false, c.len.ensures, s.starts.ok.0))
    c.args.key.now c.args.end n fits c.ranges.end below (omega (arith, c.if-cells-ge-BUCKETS.false)) c.bucket_of-first.result _
    c.len-else-after-le-BUCKETS.result c.bucket_of-first.ensures.value c.index.ensures _ (c.bucket_of-first.result + n - BUCKETS)
    (omega (arith, c.if-after-le-BUCKETS.false)) (omega (arith, c.len-else-after-le-BUCKETS.ensures, s.slots.ok.0)) c.index-else-after-le-BUCKETS.ensures)
