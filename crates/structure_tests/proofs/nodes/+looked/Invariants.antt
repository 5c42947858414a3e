use Rattle.structure_tests.proofs.nodes.+looked.Given as goal

-- the levels that are left
abbrev pub decreases-looked : goal.decreases-looked
decreases-looked l = l.levels
