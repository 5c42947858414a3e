-- The boxes of the level that meet the own one are among the slots.
use Rattle.std.proofs.Common.{◌≡◌, true, subst}
use Rattle.broad_index.specs.Members.{has_slot}
use Rattle.hier_grid.specs.Search.{Finds}
use Rattle.grid_boxes.specs.Candidates.{HasMet}
use Rattle.grid_cells.specs.AppendLaws.{from_none}
use Rattle.hier_grid.proofs.level_scan.pairs_by_scan.Goals as goal

pub returns : goal.returns
returns c =
    let kept = c.args.kept.now in
    let own = c.args.own.now in
    let slots = c.scan.new.slots.items in
    let old = c.args.found.now.pairs.items in
    let new = c.pairs_among.new.self.pairs.items in
    let among : Finds kept own true (λ q _. has_slot slots q ≡ true) old new =
    subst (λ m. Finds m own true (λ q _. has_slot slots q ≡ true) old new) c.boxes.ensures c.in_ok-pairs_among.ensures in
    let has : HasMet kept c.args.level own.body slots = from_none _ _ slots c.clear.ensures.items c.in_ok-scan.ensures.ok in
    record {
      sound = among.sound;
      more = among.more;
      found = λ q b e at m other any. among.found q b e (has q b e (at, m)) m other any;
    }
