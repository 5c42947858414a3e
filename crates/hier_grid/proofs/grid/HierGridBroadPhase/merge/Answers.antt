-- The pieces are searches of all present slots.
use Rattle.std.proofs.Common.{subst, map, ◌∙◌, ap}
use Rattle.work_pieces.specs.Runs.{put_together}
use Rattle.broad_index.specs.Members.{has_pair}
use Rattle.hier_grid.specs.Search.{FindsRun}
use Rattle.slot_lists.specs.Present.{present}
use Rattle.hier_grid.proofs.RunLemmas.{present_found, runs_found, settled_finds}
use Rattle.hier_grid.proofs.grid.HierGridBroadPhase.merge.Goals as goal

pub returns-clause-ok : goal.returns-clause-ok
returns-clause-ok c =
    let bodies = c.args.self.now in
    let pieces = c.requires.pieces in
    let all = put_together (map (λ f. f.0.items) c.args.found.items) in
    let whole : FindsRun bodies (present bodies) all =
    subst (λ slots. FindsRun bodies slots all) pieces.whole (runs_found (λ f. f.0.items) bodies pieces.runs c.args.found.items pieces.each) in
    c.in_ok-push_rising_pairs.ensures.near bodies (
    present_found bodies c.join_pieces.new.out.items (
    settled_finds bodies (present bodies) all c.join_pieces.new.out.items
    (λ p. c.in_ok-looked.ensures.members p ∙ ap (λ l. has_pair (put_together (map (λ f. f.0.items) l)) p) c.deref.ensures.value) whole
    )
    )
