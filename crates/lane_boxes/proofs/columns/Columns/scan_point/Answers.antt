-- The flat box at a point is one, and it overlaps the boxes that hold the point.
use Rattle.std.proofs.Common.{◌≡◌, ◌++◌, IsTrue, Bool, OnOk, subst}
use Rattle.std.specs.Cmp.{first_so}
use Rattle.fixed_box.specs.declared.point.Point.{Point}
use Rattle.fixed_box.specs.Point.{is_at_most}
use Rattle.fixed_box.specs.Bounds.{Bounds, meets, holds}
use Rattle.lane_boxes.specs.Places.{places}
use Rattle.fixed_box.proofs.Corners.{made}
use Rattle.lane_boxes.proofs.columns.Columns.scan_point.Goals as goal

abbrev flat : Point → Bounds
flat at = record { lo = at; hi = at }

pub unwrap-spot-requires : goal.unwrap-spot-requires
unwrap-spot-requires c =
    let at = c.args.at.now in
    made c.new.result (IsTrue (is_at_most at at)) (flat at) c.new.ensures (first_so (is_at_most at at) (is_at_most at at) (c.box_laws.ensures.itself (flat at)))

pub returns-clause-ok : goal.returns-clause-ok
returns-clause-ok c =
    let at = c.args.at.now in
    let spot = rw c.unwrap-spot.ensures at c.new.ensures in
    let same : meets (flat at) ≡ (λ (b : Bounds). holds b at) = λ i b. c.box_laws.ensures.either_way (flat at) b i in
    let scanned = rw spot.1 at c.scan.ensures.ok in
    subst (λ (test : Bounds → Bool). OnOk c.scan.result (c.scan.new.out.items ≡ c.args.out.now.items ++ places test 0 c.args.self.now.boxes)) same scanned
