-- Where a level is scanned, only its own boxes stand there; else a partner stands in a later cell.
use Rattle.std.proofs.Common.{◌≡◌, true, sym, ◌∙◌, subst}
use Rattle.std.specs.Prelude.{OnOk}
use Rattle.std.proofs.lemmas.Result.{on_ok_weaker}
use Rattle.fixed_box.specs.Bounds.{level_of}
use Rattle.hier_grid.specs.Listing.{FindsIn}
use Rattle.hier_grid.specs.Search.{Finds}
use Rattle.grid_cells.specs.Cells.{IsAmong}
use Rattle.hier_grid.proofs.pair_search.pairs_after_cell.Goals as goal

pub returns-then-is_own_scanned : goal.returns-then-is_own_scanned
returns-then-is_own_scanned c =
    let bodies = c.args.boxes.now.bodies in
    let level = c.args.level in
    let old = c.args.found.now.pairs.items in
    let new = c.pairs_by_scan.new.found.pairs.items in
    on_ok_weaker c.pairs_by_scan.result (λ (f : Finds bodies c.args.own.now true (λ _ b. level_of b ≡ level) old new). record {
      sound = f.sound;
      more = f.more;
      found = λ q b e due m other any. f.found q b e (c.is_own_scanned.ensures c.if-is_own_scanned.true b (due.0 ∙ sym c.requires.level)) m other any;
    }) (subst (λ kept. OnOk c.pairs_by_scan.result (Finds kept c.args.own.now true (λ _ b. level_of b ≡ level) old new)) c.kept.ensures
    c.pairs_by_scan.ensures)

pub returns-else-is_own_scanned : goal.returns-else-is_own_scanned
returns-else-is_own_scanned c =
    let old = c.args.found.now.pairs.items in
    let new = c.later_pairs.new.found.pairs.items in
    on_ok_weaker c.later_pairs.result (λ (f : FindsIn c.args.boxes.now c.args.own.now true (IsAmong c.cells_after.result) old new). record {
      sound = f.sound;
      more = f.more;
      found = λ q b e due m other any. f.found q b e (c.cells_after.ensures q b e due m) m other any;
    }) c.later_pairs.ensures
