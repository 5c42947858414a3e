-- The lower node is refitted, and then the upper one over it.
use Rattle.std.proofs.Common.{◌+◌, arith}
use Rattle.tree_nodes.specs.Moved.{refitted}
use Rattle.tree_nodes.specs.Tree.{one}
use Rattle.tree_nodes.proofs.Frames.{writes_both}
use Rattle.tree_nodes.proofs.Rotations.{second}
use Rattle.tree_nodes.proofs.linked_nodes.LinkedNodes.rotate.Goals as goal

pub refit-requires-2 : goal.refit-requires-2
refit-requires-2 c =
    let p = c.requires in (
      refitted c.args.at p.0 p.1,
      p.2,
      second c.args.self.now c.refit.new.self c.args.high c.args.at c.args.low c.args.halves.0 c.args.halves.1 p.0 p.1 p.2
          c.refit.ensures.writes (c.refit.ensures.there p.0 p.1 p.3.below) p.3,
    )

pub returns-clause-there : goal.returns-clause-there
returns-clause-there c l f g p =
    c.refit-2.ensures.there (refitted c.args.at l f) g (second c.args.self.now c.refit.new.self c.args.high c.args.at c.args.low c.args.halves.0
    c.args.halves.1 l f g c.refit.ensures.writes (c.refit.ensures.there l f p.below) p)

pub returns-clause-writes : goal.returns-clause-writes
returns-clause-writes c =
    writes_both c.args.self.now c.refit.new.self c.refit-2.new.self (λ k. one c.args.at k) (λ k. one c.args.high k)
    (λ k. one c.args.at k + one c.args.high k) c.refit.ensures.writes c.refit-2.ensures.writes (λ k none. (omega arith, omega arith))
