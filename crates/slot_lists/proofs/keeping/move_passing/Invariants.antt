-- What stood before `at` and passes stands before `kept`.
use Rattle.std.proofs.Common.{◌≡◌, ◌≤◌, Bool, length}
use Rattle.std.proofs.lemmas.List.Filters.{FiltersInPlace}
use Rattle.slot_lists.proofs.keeping.move_passing.Given as goal

abbrev pub invariant-loop-at : goal.invariant-loop-at
invariant-loop-at g l = record {
  passed :
      (test : g.row.T.Denot → Bool) → ((item : _) (r : Bool) → goal.F-post g l.passes item r → r ≡ test item.now)
      → FiltersInPlace test l.initial.items l.items l.kept l.at;
  behind : l.kept ≤ l.at;
  long : length l.items ≡ length l.initial.items;
}
