use Rattle.std.proofs.Common.{◌≡◌, ◌+◌, ◌-◌, ◌≤◌, ◌++◌, true, false, [], IfSome}
use Rattle.play_rules.specs.Counted.{IsCounted}
use Rattle.play_rules.specs.Play.{playing, played}
use Rattle.frame_player.specs.Outlet.{IsSaidBy}
use Rattle.frame_player.specs.Owed.{owed, IsRun}
use Rattle.frame_player.specs.Player.{world_of, live_in}
use Rattle.frame_player.proofs.LoopSteps.{IsAt}
use Rattle.frame_player.proofs.scene_play.play_lines.Given as goal

-- the play so far, whose text is written, held or owed, and how little its numbers are
abbrev pub invariant-lines : goal.invariant-lines
invariant-lines g l = record {
  same_sink : l.out.sink.ghost_name ≡ l.fn.out.sink.ghost_name;
  said : IsSaidBy g.K.Sink.written g.K.Sink.faults g.K.Sink.since l.fn.out l.out
      (l.out.text.now.items ++ owed (live_in l.player.world) l.run)
      (IsAt (playing g.B.BroadPhase.COUNTS l.setup.options.exchanges) (played l.setup.options.exchanges l.setup.limits.lines) l.setup.limits.lines
      (g.S.Source.left l.fn.source) (g.S.Source.left l.source) l.reader (world_of l.player.version l.player.world));
  sound : l.player.world.spent ≡ false;
  counted : IsCounted l.reader.number l.player.world.time;
  run : IsRun l.run;
  going_on : l.reader.ended ≡ false;
  at_end : l.reader.over ≡ true → IfSome (g.S.Source.left l.source) (λ left. left ≡ []);
  limit : l.reader.limit ≡ l.setup.limits.lines;
  number : l.reader.number ≤ l.setup.limits.lines;
  count : g.S.Source.faults l.source ≡ g.S.Source.faults l.fn.source;
}

abbrev pub decreases-lines : goal.decreases-lines
decreases-lines g l = l.setup.limits.lines + 1 - l.reader.number
