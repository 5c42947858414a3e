-- What is asked of each axis.
use Rattle.sweep_prune.specs.declared.axis.Axis.TheVariants.{X, Y, Z}
use Rattle.sweep_prune.proofs.lists.Lists.enter.Goals as goal

pub append-requires-clause-no_min : goal.append-requires-clause-no_min
append-requires-clause-no_min c = c.requires.no_min X

pub append-requires-clause-no_max : goal.append-requires-clause-no_max
append-requires-clause-no_max c = c.requires.no_max X

pub append-requires-2-clause-no_min : goal.append-requires-2-clause-no_min
append-requires-2-clause-no_min c = c.requires.no_min Y

pub append-requires-2-clause-no_max : goal.append-requires-2-clause-no_max
append-requires-2-clause-no_max c = c.requires.no_max Y

pub append-requires-3-clause-no_min : goal.append-requires-3-clause-no_min
append-requires-3-clause-no_min c = c.requires.no_min Z

pub append-requires-3-clause-no_max : goal.append-requires-3-clause-no_max
append-requires-3-clause-no_max c = c.requires.no_max Z
