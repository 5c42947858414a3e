-- The place of the old box is free for the new one.
use Rattle.std.proofs.Common.{◌≡◌, Some, ap, sym, ◌∙◌, subst, arith, get_or, length, set}
use Rattle.std.specs.FinMap.{get}
use Rattle.std.proofs.lemmas.List.{get_or_read}
use Rattle.grid_boxes.specs.Leveled.{HasHole, IsLeveled, Pool}
use Rattle.fixed_box.specs.Bounds.{level_of}
use Rattle.grid_boxes.specs.LevelLaws.{low_level}
use Rattle.grid_boxes.proofs.PoolLemmas.{opened, place_low, renewed}
use Rattle.grid_boxes.proofs.level_pool.LevelPool.set.Goals as goal

pub carry-place-requires-clause-free : goal.carry-place-requires-clause-free
carry-place-requires-clause-free c =
    let pool = c.args.self.now in
    let has : get c.args.boxes.now c.args.slot ≡ Some c.in-Some.own = sym c.box_of.ensures ∙ c.in-Some.is in
    let low = c.requires.leveled.low c.args.slot c.in-Some.own has in
    let many = ap (λ p. length p.places) c.self.view_is ∙ c.requires.leveled.shape.places_len in
    let place = get_or_read c.self.inside.places.items c.args.slot c.index.result.now (omega arith) c.index.ensures 0
    ∙ ap (λ p. get_or p.places c.args.slot 0) c.self.view_is in
    rw (place, c.level-was.ensures.value) (opened c.args.boxes.now pool c.args.slot c.in-Some.own c.requires.leveled has)

pub fill-requires-clause-small : goal.fill-requires-clause-small
fill-requires-clause-small c =
    c.requires.leveled.low c.args.slot c.in-Some.own (sym c.box_of.ensures ∙ c.in-Some.is)

pub fill-requires-clause-within : goal.fill-requires-clause-within
fill-requires-clause-within c =
    let h = c.carry-place.ensures in
    place_low c.carry-place.new.self h.shape c.level-is.result c.carry-place.result (let b = c.level-is.ensures.bound in omega arith) h.in_level

pub returns : goal.returns
returns c =
    c.fill.ensures c.args.boxes.now
    (subst (λ l. HasHole c.args.boxes.now c.args.slot l c.carry-place.result c.carry-place.new.self) c.level-is.ensures.value c.carry-place.ensures)

pub set_body-requires : goal.set_body-requires
set_body-requires c =
    let has : get c.args.boxes.now c.args.slot ≡ Some c.in-Some.own = sym c.box_of.ensures ∙ c.in-Some.is in
    let g = c.requires.leveled in
    let low = g.low c.args.slot c.in-Some.own has in
    let many = ap (λ p. length p.places) c.self.view_is ∙ g.shape.places_len in
    let place = get_or_read c.self.inside.places.items c.args.slot c.index.result.now (omega arith) c.index.ensures 0
    ∙ ap (λ p. get_or p.places c.args.slot 0) c.self.view_is in
    let boxes = ap (λ p. length p.listed.boxes) c.self.view_is in
    let within = place_low c.args.self.now g.shape (level_of c.in-Some.own) (get_or c.args.self.now.places c.args.slot 0) (low_level c.in-Some.own)
    (g.held c.args.slot c.in-Some.own has).in_level in
    omega (arith, place, boxes, within, g.shape.even)

pub returns-then-was-is : goal.returns-then-was-is
returns-then-was-is c =
    let s = c.self.inside in
    let pool : Pool = record { listed = s.columns; places = s.places.items; starts = s.starts.items } in
    let has : get c.args.boxes.now c.args.slot ≡ Some c.in-Some.own = sym c.box_of.ensures ∙ c.in-Some.is in
    let g : IsLeveled c.args.boxes.now pool = subst (IsLeveled c.args.boxes.now) (sym c.self.view_is) c.requires.leveled in
    let low = g.low c.args.slot c.in-Some.own has in
    let place = get_or_read s.places.items c.args.slot c.index.result.now (omega (arith, g.shape.places_len)) c.index.ensures 0 in
    let same : level_of c.in-Some.own ≡ level_of c.args.body = sym c.level-was.ensures.value ∙ c.if-was-is.true ∙ c.level-is.ensures.value in
    renewed c.args.boxes.now pool c.args.slot c.in-Some.own c.args.body c.set_body.new.self g has same c.set_body.ensures.slots
    (c.set_body.ensures.boxes ∙ ap (λ k. set s.columns.boxes k c.args.body) place) c.set_body.ensures.spare
