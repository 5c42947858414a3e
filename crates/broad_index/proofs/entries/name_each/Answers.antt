-- The place that is read has not been named yet.
use Rattle.std.proofs.Common.{◌<◌, length, get_or, arith}
use Rattle.std.proofs.lemmas.List.{get_or_default}
use Rattle.std.proofs.lemmas.List.Edits.{map_over_more}
use Rattle.broad_index.proofs.entries.name_each.Goals as goal

pub loop-at-preserved : goal.loop-at-preserved
loop-at-preserved c =
    let places = c.loop-at.places in
    let at = c.loop-at.at in
    let within : at < length places = omega (arith, c.loop-at.auto.places) in
    let before : at < length c.args.places.now = omega arith in
    map_over_more (λ k. get_or c.args.slots.now k 0) c.args.places.now places at (get_or places at 0) before c.loop-at.invariant
    (get_or_default places at 0 (get_or places at 0) within)
