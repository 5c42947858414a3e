-- What meets the line passes the test, so that no slot which is sought goes.
use Rattle.std.proofs.Common.{◌≡◌, ℕ, Bool, true, List, ◌++◌, Some, length, take, drop, filter, ap, ◌∙◌, rules}
use Rattle.std.specs.Ordering.{nat_cmp}
use Rattle.std.specs.FinMap.{FinMap, get}
use Rattle.std.proofs.lemmas.Bool.{and_from}
use Rattle.fixed_box.specs.Bounds.{Bounds}
use Rattle.broad_index.specs.Members.{has_slot, is_found, meets_query}
use Rattle.grid_cells.specs.Appended.{Appends, HasWhere}
use Rattle.grid_cells.specs.AppendLaws.{begins, behind}
use Rattle.grid_cells.specs.SlotLaws.{has_filtered}
use Rattle.hier_grid.proofs.hits.push_met_along.Goals as goal

filtered_where : (bodies : FinMap nat_cmp Bounds) (p : ℕ → Bool) (Meets : Bounds → Type 0) (old now new : List ℕ)
    → ((q : ℕ) (b : Bounds) → get bodies q ≡ Some b → Meets b → p q ≡ true) → new ≡ take (length old) now ++ filter p (drop (length old) now)
    → Appends (HasWhere bodies Meets) old now → Appends (HasWhere bodies Meets) old new
filtered_where bodies p Meets old now new passes is a = record {
  slots = filter p (drop (length old) now);
  appended = is ∙ ap (λ l. l ++ filter p (drop (length old) now)) (begins (HasWhere bodies Meets) old now a);
  has = λ q b e m. has_filtered p (drop (length old) now) q
      ∙ and_from (has_slot (drop (length old) now) q) (p q) (behind (HasWhere bodies Meets) old now a q b e m) (passes q b e m);
}

pub returns : goal.returns
returns g c =
    let query = g.T.BoxTest.asks c.args.test.now in
    let old = c.args.out.now.items in
    let now = c.push_along.new.slots.items in
    let p = is_found c.boxes-boxes.result.now query in
    let is : c.keep_passing.new.items.items ≡ take (length old) now ++ filter p (drop (length old) now) = search rules in
    filtered_where c.args.kept.now p _ old now _ (λ q b e m. ap (meets_query query) (ap (λ k. get k q) c.boxes-boxes.ensures ∙ e) ∙ m.1.1) is
    c.in_ok-push_along.ensures.ok
