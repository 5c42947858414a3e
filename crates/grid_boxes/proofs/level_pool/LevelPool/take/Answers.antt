-- The place of the box is free, and then the last one, which goes.
use Rattle.std.proofs.Common.{◌≡◌, ◌+◌, ◌-◌, Some, ap, sym, ◌∙◌, subst, arith, get_or, length}
use Rattle.std.specs.FinMap.{get}
use Rattle.std.proofs.lemmas.List.{get_or_read}
use Rattle.grid_boxes.specs.Leveled.{HasHole, Pool}
use Rattle.grid_boxes.proofs.PoolLemmas.{closed, opened}
use Rattle.grid_boxes.proofs.level_pool.LevelPool.take.Goals as goal

pub carry-place-requires-clause-free : goal.carry-place-requires-clause-free
carry-place-requires-clause-free c =
    let pool = c.args.self.now in
    let has : get c.args.boxes.now c.args.slot ≡ Some c.in-Some.own = sym c.box_of.ensures ∙ c.in-Some.is in
    let low = c.requires.leveled.low c.args.slot c.in-Some.own has in
    let many = ap (λ p. length p.places) c.self.view_is ∙ c.requires.leveled.shape.places_len in
    let place = get_or_read c.self.inside.places.items c.args.slot c.index.result.now (omega arith) c.index.ensures 0
    ∙ ap (λ p. get_or p.places c.args.slot 0) c.self.view_is in
    rw (place, c.level.ensures.value) (opened c.args.boxes.now pool c.args.slot c.in-Some.own c.requires.leveled has)

pub returns : goal.returns
returns c =
    let s = c.self-3.inside in
    let pool : Pool = record { listed = s.columns; places = s.places.items; starts = s.starts.items } in
    let last = c.len-last.result - 1 in
    let free : HasHole c.args.boxes.now c.args.slot 0 last pool =
    subst (HasHole c.args.boxes.now c.args.slot 0 last) (sym c.self-3.view_is) c.hand_on.ensures.free in
    let below = free.in_level.below in
    let was = ap (λ p. length p.listed.slots) c.self-2.view_is in
    let now = ap (λ p. length p.listed.slots) c.self-3.view_is in
    let len : last + 1 ≡ length s.columns.slots = omega (arith, c.hand_on.ensures.len) in
    closed c.args.boxes.now pool c.args.slot last c.swap_out.new.self free len c.swap_out.ensures.slots c.swap_out.ensures.boxes c.swap_out.ensures.spare
