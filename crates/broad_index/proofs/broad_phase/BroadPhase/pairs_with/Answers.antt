-- what the shared part may find is what the structure's own search may find
use Rattle.std.proofs.Common.{◌≡◌, ℕ, List, subst, rules}
use Rattle.broad_index.specs.declared.pair.Pair.{Pair}
use Rattle.work_pieces.specs.Runs.{InRuns}
use Rattle.work_pieces.specs.RunLaws.{InRuns-weaker}
use Rattle.broad_index.proofs.broad_phase.BroadPhase.pairs_with.Goals as goal

pub merge-requires-clause-pieces : goal.merge-requires-clause-pieces
merge-requires-clause-pieces g c =
    let slots : c.deref.result.now ≡ g.Self.BroadPhase.sought c.prepare.new.self = search rules in
    let seeks : (run : List ℕ) (pairs : List Pair) (cost : ℕ) → g.Self.Shared.PairSeeker.seeks c.in-Some.index.now run pairs cost
    → g.Self.BroadPhase.seeks c.prepare.new.self run pairs cost = search rules in
    subst (λ l. InRuns (λ run piece. g.Self.BroadPhase.seeks c.prepare.new.self run piece.0.items piece.1) l c.in_ok-found.found.items) slots (
    InRuns-weaker _ (λ run piece. g.Self.BroadPhase.seeks c.prepare.new.self run piece.0.items piece.1) c.deref.result.now c.in_ok-found.found.items
    (λ run piece e. seeks run piece.0.items piece.1 e) c.in_ok-found.ensures
    )
