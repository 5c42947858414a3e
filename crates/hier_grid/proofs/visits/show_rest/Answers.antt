-- What doesn't meet a ring in which all lies that is looked for counts as seen.
use Rattle.std.proofs.Common.{◌≡◌, ℕ, Bool, true, false, not, Option, None, Some, refl, sym, subst, ap, ◌∙◌}
use Rattle.std.specs.List.{All}
use Rattle.std.specs.FinMap.{get}
use Rattle.std.proofs.lemmas.Bool.{false≢true}
use Rattle.fixed_box.specs.Bounds.{Bounds, encloses, meets}
use Rattle.broad_index.specs.Found.{query_meets}
use Rattle.grid_boxes.specs.Grid.{meets_part}
use Rattle.grid_cells.specs.Sized.{is_held}
use Rattle.hier_grid.specs.Visits.{entries_in}
use Rattle.hier_grid.proofs.VisitLemmas.{filter_all, held_meets, left_in, missed_by, not_was}
use Rattle.hier_grid.proofs.visits.show_rest.Goals as goal

part_met : ((outer inner b : Bounds) → encloses outer inner ≡ true → meets inner b ≡ true → meets outer b ≡ true)
    → (ring : Option Bounds) (region b : Bounds) → is_held ring region ≡ true → meets region b ≡ true → meets_part ring b ≡ true
part_met law None region b h m = absurd (false≢true h)
part_met law (Some ring) region b h m = law ring region b h m

pub returns-then-is_held-clause-seen : goal.returns-then-is_held-clause-seen
returns-then-is_held-clause-seen g c seen before =
    let bodies = c.args.grid.now in
    let p : Bounds → Bool = λ b. not (meets_part c.args.inner b) in
    let Missed : ℕ × Bounds → Type 0 = λ e. query_meets c.query.result e.1 ≡ false in
    c.query.ensures.missed seen (entries_in p bodies) before
    (subst (All Missed) (filter_all (λ _. not false) (λ _. refl) (entries_in p bodies))
    (left_in bodies p (λ _. false) Missed (λ e is left _.
    missed_by (query_meets c.query.result e.1) (meets_part c.args.inner e.1) (not_was (meets_part c.args.inner e.1) left)
    (λ t. part_met c.box_laws.ensures.met c.args.inner c.region.result e.1 (sym c.if-is_held.ensures)
    (c.region.ensures e.1 (c.space_law.ensures e.0 e.1 (ap (λ m. get m e.0) c.kept-kept.ensures ∙ is)) t)))))

pub show_area-requires : goal.show_area-requires
show_area-requires g c slot b e h = held_meets c.args.hull.now b (c.sized_law.ensures slot b (ap (λ m. get m slot) c.kept-kept.ensures ∙ e)).ordered (c.requires slot b e)
