-- All boxes that meet the query are among the slots.
use Rattle.std.proofs.Common.{◌≡◌, ap, ◌∙◌, ◌++◌, ◌≤◌, arith, drop, length, take, filter, rules}
use Rattle.broad_index.specs.Found.{found}
use Rattle.broad_index.specs.Members.{has_slot, is_found}
use Rattle.grid_cells.specs.AppendLaws.{drop_kept, still_within, take_kept}
use Rattle.hier_grid.proofs.HitLemmas.{hits_among}
use Rattle.hier_grid.proofs.hits.keep_found.Goals as goal

pub settle_slots_from-requires : goal.settle_slots_from-requires
settle_slots_from-requires g c =
    let old = c.args.slots.now.items in
    let p = is_found c.boxes-boxes.result.now (g.T.BoxTest.asks c.args.test.now) in
    let is : c.keep_passing.new.items.items ≡ take c.args.from old ++ filter p (drop c.args.from old) = search rules in
    let within : c.args.from ≤ length old = omega (arith, c.args.slots.now.ok.0, c.requires.within) in
    let still = still_within c.args.from old c.keep_passing.new.items.items (filter p (drop c.args.from old)) within is in
    record { within = omega (arith, c.keep_passing.new.items.ok.0, still) }

pub returns : goal.returns
returns g c =
    let from = c.args.from in
    let within : from ≤ length c.args.slots.now.items = omega (arith, c.args.slots.now.ok.0, c.requires.within) in
    let kept = c.args.kept.now in
    let query = g.T.BoxTest.asks c.args.test.now in
    let old = c.args.slots.now.items in
    let left = c.keep_passing.new.items.items in
    let p = is_found c.boxes-boxes.result.now query in
    let is : left ≡ take from old ++ filter p (drop from old) = search rules in
    let same : filter p (drop from old) ≡ filter (is_found kept query) (drop from old) =
    ap (λ bodies. filter (is_found bodies query) (drop from old)) c.boxes-boxes.ensures in
    c.settle_slots_from.ensures.found kept query (λ k.
    ap (λ l. has_slot l k) (drop_kept from old left (filter p (drop from old)) within is ∙ same)
    ∙ hits_among kept query (drop from old) c.requires.among k)
    ∙ ap (λ l. l ++ found kept query) (take_kept from old left (filter p (drop from old)) within is)
