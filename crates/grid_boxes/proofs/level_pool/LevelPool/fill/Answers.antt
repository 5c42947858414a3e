-- The box stands at the place that was free.
use Rattle.std.proofs.Common.{sym, subst}
use Rattle.fixed_box.specs.Bounds.{level_of}
use Rattle.grid_boxes.specs.Leveled.{HasHole, Pool}
use Rattle.grid_boxes.proofs.PoolLemmas.{filled}
use Rattle.grid_boxes.proofs.level_pool.LevelPool.fill.Goals as goal

pub returns : goal.returns
returns c bodies h =
    let s = c.self.inside in
    let pool : Pool = record { listed = s.columns; places = s.places.items; starts = s.starts.items } in
    filled bodies pool c.args.slot c.args.free c.args.body c.set.new.self
    (subst (HasHole bodies c.args.slot (level_of c.args.body) c.args.free) (sym c.self.view_is) h) c.requires.small c.set.ensures.slots c.set.ensures.boxes
    c.set.ensures.spare
