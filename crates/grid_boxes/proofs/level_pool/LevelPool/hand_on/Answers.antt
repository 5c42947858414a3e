-- The box stands at the place that was free.
use Rattle.std.proofs.Common.{◌≡◌, ◌≢◌, Some, sym, ◌∙◌, subst, arith}
use Rattle.std.specs.FinMap.{get}
use Rattle.grid_boxes.specs.Leveled.{HasHole, IsIn, Pool}
use Rattle.grid_boxes.proofs.PoolLemmas.{handed}
use Rattle.grid_boxes.proofs.level_pool.LevelPool.hand_on.Goals as goal

pub returns-clause-free : goal.returns-clause-free
returns-clause-free c =
    let s = c.self.inside in
    let pool : Pool = record { listed = s.columns; places = s.places.items; starts = s.starts.items } in
    let ne : c.args.from ≢ c.args.free = λ e. absurd (omega arith) in
    let has : get c.args.boxes.now c.slot_at-moved.result ≡ Some c.in-Some.body = sym c.box_of.ensures ∙ c.in-Some.is in
    handed c.args.boxes.now pool c.args.slot c.args.level c.args.free c.args.from c.slot_at-moved.result c.in-Some.body c.set.new.self
    (subst (HasHole c.args.boxes.now c.args.slot c.args.level c.args.free) (sym c.self.view_is) c.requires.free) (omega (arith, c.requires.low))
    (subst (λ p. IsIn p c.args.level c.args.from) (sym c.self.view_is) c.requires.from) ne c.slot_at-moved.ensures has c.set.ensures.slots c.set.ensures.boxes
    c.set.ensures.spare
