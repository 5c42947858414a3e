-- A point is at most itself.
use Rattle.std.proofs.Common.{IsTrue}
use Rattle.std.specs.Cmp.{first_so}
use Rattle.fixed_box.specs.Point.{is_at_most}
use Rattle.fixed_box.proofs.Corners.{made}
use Rattle.broad_index.proofs.regions.flat_box.Goals as goal

pub unwrap-requires : goal.unwrap-requires
unwrap-requires c =
    let at = c.args.at.now in
    made c.new.result (IsTrue (is_at_most at at)) (record { lo = at; hi = at }) c.new.ensures
    (first_so (is_at_most at at) (is_at_most at at) (c.box_laws.ensures.itself (record { lo = at; hi = at })))
