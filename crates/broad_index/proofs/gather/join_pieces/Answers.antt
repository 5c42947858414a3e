-- a sort keeps the members
use Rattle.std.proofs.Common.{◌++◌, map, ap, sym, ◌∙◌}
use Rattle.std.proofs.lemmas.List.Sorted.{list_any-IsPermutation}
use Rattle.work_pieces.specs.Runs.{put_together}
use Rattle.broad_index.specs.Members.{same_pair, has_pair}
use Rattle.broad_index.proofs.gather.join_pieces.Goals as goal

pub returns-clause-members : goal.returns-clause-members
returns-clause-members c p =
    sym (list_any-IsPermutation (same_pair p) c.push_pieces.new.out.items c.sort.new.self.items c.in_ok-sort.ensures.permutation)
    ∙ ap (λ ps. has_pair ps p)
    (c.in_ok-number.ensures.ok ∙ ap (λ ps. ps ++ put_together (map (λ piece. piece.0.items) c.args.pieces.now)) c.clear.ensures.items)
