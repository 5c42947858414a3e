-- where the moves that are left lead is where all of them lead
use Rattle.std.proofs.Common.{◌≡◌, true, false, drop}
use Rattle.std.specs.List.{All}
use Rattle.std.specs.FinMap.{contains_key}
use Rattle.engine_tick.specs.Moves.{moved_all}
use Rattle.engine_tick.proofs.world.World.move_all.Given as goal

abbrev pub invariant-loop-one : goal.invariant-loop-one
invariant-loop-one g l = record {
  ahead : moved_all (g.B.BroadPhase.bodies l.self.index) (drop l.one-index l.moved) ≡ moved_all (g.B.BroadPhase.bodies l.fn.self.index) l.moved;
  sound : g.B.BroadPhase.spent l.self.index ≡ false;
  present : All (λ m. contains_key (g.B.BroadPhase.bodies l.self.index) m.0 ≡ true) l.moved;
}
