-- Each box that meets the query is among those that meet its region.
use Rattle.std.proofs.Common.{◌≡◌, ◌++◌, length, filter, ap, ap₂, ◌∙◌, arith}
use Rattle.std.proofs.lemmas.List.{drop_at, take_at}
use Rattle.fixed_box.specs.Bounds.{meets}
use Rattle.lane_boxes.specs.Places.{places}
use Rattle.broad_index.specs.Entries.{is_met_at}
use Rattle.broad_index.proofs.MetPlaces.{kept_places}
use Rattle.broad_index.proofs.met_places.push_tested.Goals as goal

pub returns-clause-ok : goal.returns-clause-ok
returns-clause-ok c =
    let boxes = c.args.boxes.now.boxes in
    let query = c.args.query.now in
    let old = c.args.out.now.items in
    let near = places (meets c.region.result) 0 boxes in
    let long : length old ≡ c.len-before.result = omega (arith, c.len-before.ensures) in
    rw (c.keep_met.ensures, c.in_ok-scan.ensures.ok)
    (ap₂ (λ xs ys. xs ++ filter (is_met_at boxes query) ys) (take_at old near c.len-before.result long) (drop_at old near c.len-before.result long)
    ∙ ap (λ xs. old ++ xs) (kept_places c.region.result query boxes c.requires.in_space c.region.ensures))
