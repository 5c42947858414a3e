use Rattle.std.proofs.Common.{◌≡◌, ◌<◌, ◌+◌, ◌-◌, ◌^◌, ◌++◌, min, map, length}
use Rattle.std.specs.List.{sum}
use Rattle.work_pieces.specs.Runs.{put_together}
use Rattle.broad_index.proofs.gather.push_pieces.Given as goal

-- what is there with what is left of the pieces is all
abbrev pub invariant-pieces : goal.invariant-pieces
invariant-pieces l = record {
  found : l.out.items ++ put_together (map (λ piece. piece.0.items) l.rest) ≡ l.fn.out.items ++ put_together (map (λ piece. piece.0.items) l.fn.pieces);
  count : min (l.number + sum (map (λ piece. piece.1) l.rest)) (2 ^ 64 - 1) ≡ min (l.fn.looked + sum (map (λ piece. piece.1) l.fn.pieces)) (2 ^ 64 - 1);
  fits : l.number < 2 ^ 64;
}

abbrev pub decreases-pieces : goal.decreases-pieces
decreases-pieces l = length l.rest
