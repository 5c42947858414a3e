-- All boxes that meet the slot's are among the slots.
use Rattle.std.proofs.Common.{◌≡◌, true, ap, ◌∙◌, ◌++◌, ◌≤◌, arith, drop, length, take, filter, rules}
use Rattle.broad_index.specs.Members.{has_slot}
use Rattle.broad_index.specs.Reach.{reach}
use Rattle.hier_grid.specs.Search.{is_partner}
use Rattle.grid_cells.specs.AppendLaws.{drop_kept, still_within, take_kept}
use Rattle.hier_grid.proofs.HitLemmas.{reach_among}
use Rattle.hier_grid.proofs.hits.keep_reached.Goals as goal

pub settle_slots_from-requires : goal.settle_slots_from-requires
settle_slots_from-requires c =
    let old = c.args.slots.now.items in
    let own = c.args.own.now in
    let p = is_partner c.boxes-boxes.result.now own.slot own.body true in
    let is : c.keep_passing.new.items.items ≡ take c.args.from old ++ filter p (drop c.args.from old) = search rules in
    let within : c.args.from ≤ length old = omega (arith, c.args.slots.now.ok.0, c.requires.within) in
    let still = still_within c.args.from old c.keep_passing.new.items.items (filter p (drop c.args.from old)) within is in
    record { within = omega (arith, c.keep_passing.new.items.ok.0, still) }

pub returns : goal.returns
returns c =
    let from = c.args.from in
    let within : from ≤ length c.args.slots.now.items = omega (arith, c.args.slots.now.ok.0, c.requires.within) in
    let kept = c.args.kept.now in
    let own = c.args.own.now in
    let old = c.args.slots.now.items in
    let left = c.keep_passing.new.items.items in
    let p = is_partner c.boxes-boxes.result.now own.slot own.body true in
    let is : left ≡ take from old ++ filter p (drop from old) = search rules in
    let same : filter p (drop from old) ≡ filter (is_partner kept own.slot own.body true) (drop from old) =
    ap (λ bodies. filter (is_partner bodies own.slot own.body true) (drop from old)) c.boxes-boxes.ensures in
    c.settle_slots_from.ensures.reach kept own.slot (λ k.
    ap (λ l. has_slot l k) (drop_kept from old left (filter p (drop from old)) within is ∙ same)
    ∙ reach_among kept own.slot own.body (drop from old) c.requires.own c.requires.among k)
    ∙ ap (λ l. l ++ reach kept own.slot) (take_kept from old left (filter p (drop from old)) within is)
