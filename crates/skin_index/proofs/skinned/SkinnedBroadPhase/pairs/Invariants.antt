-- What is found, and what the rest of the marked skins meet, is what all of them meet.
use Rattle.std.proofs.Common.{◌≡◌, ◌++◌, length}
use Rattle.skin_index.specs.Skins.{pairs_met}
use Rattle.skin_index.proofs.skinned.SkinnedBroadPhase.pairs.Given as goal

abbrev pub invariant-slots : goal.invariant-slots
invariant-slots g l =
    l.room.found.items ++ pairs_met (g.B.BroadPhase.bodies l.index) l.rest ≡ pairs_met (g.B.BroadPhase.bodies l.index) l.initial.rest

abbrev pub decreases-slots : goal.decreases-slots
decreases-slots g l = length l.rest
