-- The end is free for the box, and then a place of its level.
use Rattle.std.proofs.Common.{sym, subst, arith}
use Rattle.std.specs.FinMap.{get}
use Rattle.grid_boxes.specs.Leveled.{HasHole, IsLeveled, Pool}
use Rattle.grid_boxes.proofs.PoolLemmas.{absent_none, appended, place_low, room, room_spare}
use Rattle.grid_boxes.proofs.level_pool.LevelPool.put.Goals as goal

pub push-requires-clause-few : goal.push-requires-clause-few
push-requires-clause-few c =
    let s = c.self.inside in
    let pool : Pool = record { listed = s.columns; places = s.places.items; starts = s.starts.items } in
    room c.args.boxes.now pool c.args.slot (subst (IsLeveled c.args.boxes.now) (sym c.self.view_is) c.requires.leveled) c.requires.small
    (absent_none (get c.args.boxes.now c.args.slot) c.requires.absent)

pub push-requires-clause-room : goal.push-requires-clause-room
push-requires-clause-room c =
    let s = c.self.inside in
    let pool : Pool = record { listed = s.columns; places = s.places.items; starts = s.starts.items } in
    room_spare c.args.boxes.now pool c.args.slot (subst (IsLeveled c.args.boxes.now) (sym c.self.view_is) c.requires.leveled) c.requires.small
    (absent_none (get c.args.boxes.now c.args.slot) c.requires.absent)

pub carry-place-requires-clause-free : goal.carry-place-requires-clause-free
carry-place-requires-clause-free c =
    let s = c.self.inside in
    let pool : Pool = record { listed = s.columns; places = s.places.items; starts = s.starts.items } in
    let none = absent_none (get c.args.boxes.now c.args.slot) c.requires.absent in
    rw c.len-end.ensures
    (appended c.args.boxes.now pool c.args.slot c.args.body c.push.new.self
    (subst (IsLeveled c.args.boxes.now) (sym c.self.view_is) c.requires.leveled) c.requires.small none c.push.ensures.slots c.push.ensures.boxes
    c.push.ensures.spare)

pub fill-requires-clause-within : goal.fill-requires-clause-within
fill-requires-clause-within c =
    let h = c.carry-place.ensures in
    place_low c.carry-place.new.self h.shape c.level.result c.carry-place.result (let b = c.level.ensures.bound in omega arith) h.in_level

pub returns : goal.returns
returns c =
    c.fill.ensures c.args.boxes.now
    (subst (λ l. HasHole c.args.boxes.now c.args.slot l c.carry-place.result c.carry-place.new.self) c.level.ensures.value c.carry-place.ensures)
