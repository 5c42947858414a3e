-- What is asked of each axis.
use Rattle.sweep_prune.specs.declared.axis.Axis.TheVariants.{X, Y, Z}
use Rattle.sweep_prune.proofs.lists.Lists.quit.Goals as goal

pub withdraw-requires-clause-distinct : goal.withdraw-requires-clause-distinct
withdraw-requires-clause-distinct c = c.requires.distinct X

pub withdraw-requires-clause-min : goal.withdraw-requires-clause-min
withdraw-requires-clause-min c = c.requires.min X

pub withdraw-requires-clause-max : goal.withdraw-requires-clause-max
withdraw-requires-clause-max c = c.requires.max X

pub withdraw-requires-2-clause-distinct : goal.withdraw-requires-2-clause-distinct
withdraw-requires-2-clause-distinct c = c.requires.distinct Y

pub withdraw-requires-2-clause-min : goal.withdraw-requires-2-clause-min
withdraw-requires-2-clause-min c = c.requires.min Y

pub withdraw-requires-2-clause-max : goal.withdraw-requires-2-clause-max
withdraw-requires-2-clause-max c = c.requires.max Y

pub withdraw-requires-3-clause-distinct : goal.withdraw-requires-3-clause-distinct
withdraw-requires-3-clause-distinct c = c.requires.distinct Z

pub withdraw-requires-3-clause-min : goal.withdraw-requires-3-clause-min
withdraw-requires-3-clause-min c = c.requires.min Z

pub withdraw-requires-3-clause-max : goal.withdraw-requires-3-clause-max
withdraw-requires-3-clause-max c = c.requires.max Z
