-- A place that is read stands as it was, and is written no later than where it stood.
use Rattle.std.proofs.Common.{◌<◌, length, get_or, sym, ◌∙◌, arith}
use Rattle.std.proofs.lemmas.List.{get_or_default}
use Rattle.std.proofs.lemmas.List.Filters.{FiltersInPlace-more_set, FiltersInPlace-more_no}
use Rattle.broad_index.specs.Entries.{is_met_at}
use Rattle.broad_index.proofs.MetPlaces.{met_at, read_within}
use Rattle.broad_index.proofs.met_places.move_met.Goals.{then-meets, else-meets}
use Rattle.broad_index.proofs.met_places.move_met.Goals as goal

pub box_at-requires : goal.box_at-requires
box_at-requires c =
    let boxes = c.args.boxes.now.boxes in
    let within : c.loop-at.at < length c.args.places.now = omega (arith, c.loop-at.auto.places) in
    read_within (length boxes) (is_met_at boxes c.args.query.now) c.args.places.now c.loop-at.places c.loop-at.kept c.loop-at.at c.loop-at.invariant within
    c.requires

pub loop-at-preserved : goal.loop-at-preserved
loop-at-preserved c =
    let boxes = c.args.boxes.now.boxes in
    let query = c.args.query.now in
    let place = get_or c.loop-at.places c.loop-at.at 0 in
    let i = c.loop-at.invariant in
    let within : c.loop-at.at < length c.loop-at.places = omega (arith, i.long) in
    let there =
    read_within (length boxes) (is_met_at boxes query) c.args.places.now c.loop-at.places c.loop-at.kept c.loop-at.at i (omega (arith, i.long)) c.requires in
    let is = get_or_default c.loop-at.places c.loop-at.at 0 place within in
    let tested = met_at boxes query place c.box_at.result there c.box_at.ensures ∙ sym c.meets.ensures in
    elim c.if-meets.branch [
      | then-meets w ↦ rw (w.places-is, w.kept-is) (FiltersInPlace-more_set i within (tested ∙ w.if-meets.true) is)
      | else-meets w ↦ rw (w.places-is, w.kept-is) (FiltersInPlace-more_no i within (tested ∙ w.if-meets.false) is)
    ]
