-- A partition leaves the same leaves, and finds a place between the two that it had.
use Rattle.std.proofs.Common.{◌≤◌, length, arith}
use Rattle.std.proofs.lemmas.List.Sorted.{IsPermutation-trans, length_permutation}
use Rattle.tree_nodes.proofs.median.divide_along.Goals.{then-place-found, else-place-found}
use Rattle.tree_nodes.proofs.median.divide_along.Goals as goal

pub divide-preserved : goal.divide-preserved
divide-preserved g c =
    let i = c.divide.invariant in
    let p = c.partition-found.ensures in
    let least = p.least in
    let most = p.most in
    let within = i.2 in
    let len = length_permutation c.divide.keys c.partition-found.new.keys p.order in
    let places : (c.if-place-found.from ≤ c.if-place-found.to) × (c.if-place-found.to ≤ length c.partition-found.new.keys) =
    elim c.if-place-found.branch [
      | then-place-found w ↦ let f = w.from-is in let t = w.to-is in (omega (arith, f, t, least), omega (arith, t, most, within, len))
      | else-place-found w ↦ let f = w.from-is in let t = w.to-is in (omega (arith, f, t, most), omega (arith, t, within, len))
    ] in
    (IsPermutation-trans c.args.keys.now c.divide.keys c.partition-found.new.keys i.0 p.order, places.0, places.1)
