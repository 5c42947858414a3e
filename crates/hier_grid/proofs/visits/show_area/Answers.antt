-- What wasn't found doesn't meet the query, and counts as seen; what was found is shown.
use Rattle.std.proofs.Common.{◌≡◌, ℕ, ◌++◌, Bool, true, false, not, ◌&&◌, Some, sym, subst, ap, ◌∙◌}
use Rattle.std.specs.List.{filter}
use Rattle.std.specs.FinMap.{entries, get}
use Rattle.std.proofs.lemmas.Bool.{and_from}
use Rattle.fixed_box.specs.Bounds.{Bounds, meets}
use Rattle.fixed_box.proofs.Bools.{and_true, and_false}
use Rattle.broad_index.specs.Found.{query_meets, listed}
use Rattle.broad_index.specs.Members.{has_slot}
use Rattle.broad_index.specs.Showing.{entries_at}
use Rattle.grid_boxes.specs.LevelLaws.{low_level}
use Rattle.grid_cells.specs.AppendLaws.{from_none}
use Rattle.hier_grid.specs.Visits.{in_area, entries_in}
use Rattle.hier_grid.proofs.VisitLemmas.{filter_and, filter_same, parted, left_in, missed_by}
use Rattle.hier_grid.proofs.visits.show_area.Goals as goal

pub returns-clause-seen : goal.returns-clause-seen
returns-clause-seen g c seen before =
    let bodies = c.args.grid.now in
    let es = entries bodies in
    let area = in_area c.args.area.now in
    let region = c.common_part-region.result in
    let found = c.push_hits_in.new.out.items in
    let has : ℕ × Bounds → Bool = λ e. has_slot found e.0 && meets region e.1 in
    let all = entries_in area bodies in
    let now = g.V.Visitor.saw c.show_slots.new.visitor in
    let whole = from_none _ _ _ c.clear.ensures.items c.in_ok-push_hits_in.ensures in
    let kept : (e : ℕ × Bounds) → get bodies e.0 ≡ Some e.1 → get c.kept-kept.result.now e.0 ≡ Some e.1 = λ e is. ap (λ m. get m e.0) c.kept-kept.ensures ∙ is in
    let met : (e : ℕ × Bounds) → get bodies e.0 ≡ Some e.1 → area e.1 ≡ true → query_meets c.query-query.result e.1 ≡ true → meets region e.1 ≡ true =
    λ e is in_it t. c.common_part-region.ensures e.1 (c.requires e.0 e.1 is in_it)
    (c.region.ensures e.1 (c.space_law.ensures e.0 e.1 (kept e is)) t) in
    let missed = c.query-query.ensures.missed seen (filter (λ e. not (has e)) all) before
    (left_in bodies area has (λ e. query_meets c.query-query.result e.1 ≡ false) (λ e is in_it gone.
    missed_by (query_meets c.query-query.result e.1) (has e) gone
    (λ t. and_from (has_slot found e.0) (meets region e.1) (whole e.0 e.1 (kept e is) (low_level e.1, (met e is in_it t, t))) (met e is in_it t)))) in
    let shown = c.in_ok-show_slots.ensures.seen (seen ++ filter (λ e. not (has e)) all) missed in
    let p : ℕ × Bounds → Bool = λ e. has_slot found e.0 && (meets region e.1 && area e.1) in
    let same : entries_at bodies (listed p bodies) ≡ filter has all =
    c.listed_law.ensures bodies p
    ∙ sym (filter_and (λ e. area e.1) has es ∙ filter_same (λ e. area e.1 && has e) p (λ e. turned (area e.1) (has_slot found e.0) (meets region e.1)) es) in
    g.met.V.Visitor.any_order c.show_slots.new.visitor ((seen ++ filter (λ e. not (has e)) all) ++ filter has all) (seen ++ all) (parted has seen all)
    (subst (λ l. now ((seen ++ filter (λ e. not (has e)) all) ++ l))
    (ap (λ m. entries_at m c.deref.result.now) (c.boxes-2.ensures ∙ c.kept-kept.ensures)
    ∙ ap (entries_at bodies) (c.deref.ensures.value ∙ c.keep_area.ensures ∙ ap (listed p) (c.boxes.ensures ∙ c.kept-kept.ensures)) ∙ same)
    shown)
  where
    turned : (a h m : Bool) → (a && (h && m)) ≡ (h && (m && a))
    turned true h m = ap (λ b. h && b) (sym (and_true m))
    turned false h m = sym (ap (λ b. h && b) (and_false m) ∙ and_false h)
