-- An exchange leaves the same leaves.
use Rattle.std.proofs.Common.{sym, subst, arith, IsPermutation}
use Rattle.std.proofs.lemmas.List.Sorted.{IsPermutation-trans}
use Rattle.tree_nodes.proofs.median.partition.Goals.{then-coordinate-pivot, else-coordinate-pivot}
use Rattle.tree_nodes.proofs.median.partition.Goals as goal

pub partition-preserved : goal.partition-preserved
partition-preserved g c =
    let i = c.partition.invariant in
    elim c.if-coordinate-pivot.branch [
      | then-coordinate-pivot w ↦ (
        subst (IsPermutation c.args.keys.now) (sym w.keys-is)
            (IsPermutation-trans c.args.keys.now c.partition.keys w.swap.new.self i.0 w.swap.ensures.permutation),
        (let a = i.1 in let e = w.place-is in omega (arith, a, e)),
        (let a = i.2 in let e = w.place-is in omega (arith, a, e)),
      )
      | else-coordinate-pivot w ↦ (
        subst (IsPermutation c.args.keys.now) (sym w.keys-is) i.0,
        (let a = i.1 in let e = w.place-is in omega (arith, a, e)),
        (let a = i.2 in let e = w.place-is in omega (arith, a, e)),
      )
    ]
