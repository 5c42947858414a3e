use Rattle.std.proofs.Common.{◌≡◌, ◌-◌, ◌^◌, ◌<◌, true, false, [], IfSome}
use Rattle.scene_tests.proofs.lines.follow.Given as goal

-- what the next call asks for
abbrev pub invariant-steps : goal.invariant-steps
invariant-steps g l = record {
  at_end : l.reader.over ≡ true → IfSome (g.S.Source.left l.source) (λ left. left ≡ []);
  countable : l.reader.ended ≡ false → g.S.Source.faults l.source < 2 ^ 64 - 1;
}
