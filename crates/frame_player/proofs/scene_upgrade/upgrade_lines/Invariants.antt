use Rattle.std.proofs.Common.{◌≡◌, ◌+◌, ◌-◌, ◌≤◌, true, false, [], IfSome}
use Rattle.play_rules.specs.Upgrade.{upgrading, upgraded}
use Rattle.frame_player.specs.Outlet.{IsSaidBy}
use Rattle.frame_player.proofs.LoopSteps.{IsAt}
use Rattle.frame_player.proofs.scene_upgrade.upgrade_lines.Given as goal

-- the lines so far, which are written or held
abbrev pub invariant-lines : goal.invariant-lines
invariant-lines g l = record {
  same_sink : l.out.sink.ghost_name ≡ l.fn.out.sink.ghost_name;
  said : IsSaidBy g.K.Sink.written g.K.Sink.faults g.K.Sink.since l.fn.out l.out l.out.text.now.items
      (IsAt upgrading (upgraded l.limit) l.limit (g.S.Source.left l.fn.source) (g.S.Source.left l.source) l.reader l.version);
  going_on : l.reader.ended ≡ false;
  at_end : l.reader.over ≡ true → IfSome (g.S.Source.left l.source) (λ left. left ≡ []);
  limit : l.reader.limit ≡ l.limit;
  number : l.reader.number ≤ l.limit;
  count : g.S.Source.faults l.source ≡ g.S.Source.faults l.fn.source;
}

abbrev pub decreases-lines : goal.decreases-lines
decreases-lines g l = l.limit + 1 - l.reader.number
