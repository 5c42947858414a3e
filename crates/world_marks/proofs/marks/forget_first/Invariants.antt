-- the marks that are left, behind those that went
use Rattle.std.proofs.Common.{◌≡◌, ◌≤◌, ◌-◌, [], drop, vec_capacity}
use Rattle.world_marks.proofs.marks.forget_first.Given as goal

abbrev pub invariant-forgotten : goal.invariant-forgotten
invariant-forgotten l = record {
  few : l.left ≤ l.count;
  rest : l.older.items ≡ drop (l.count - l.left) l.fn.older.items;
  room : vec_capacity l.older ≡ vec_capacity l.fn.older;
  empty : l.fn.idle.items ≡ [] → l.idle.items ≡ [];
}

abbrev pub decreases-forgotten : goal.decreases-forgotten
decreases-forgotten l = l.left
