use Rattle.structure_tests.specs.Filled.{IsFilled}
use Rattle.structure_tests.proofs.nodes.fill.Given as goal

-- the slots so far
abbrev pub invariant-fill : goal.invariant-fill
invariant-fill l = IsFilled l.nodes l.slot
