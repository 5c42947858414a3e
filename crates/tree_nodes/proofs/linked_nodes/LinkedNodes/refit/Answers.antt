-- The write leaves what stands elsewhere.
use Rattle.std.proofs.Common.{sym, subst}
use Rattle.tree_nodes.specs.Moved.{refitted}
use Rattle.tree_nodes.specs.Stored.{Holds, Writes}
use Rattle.tree_nodes.specs.Tree.{one}
use Rattle.tree_nodes.proofs.Frames.{frame, one_apart, refitted_free}
use Rattle.tree_nodes.proofs.linked_nodes.LinkedNodes.refit.Goals as goal

pub returns-clause-there : goal.returns-clause-there
returns-clause-there c l r p =
    let free = refitted_free c.args.at l r p.apart in
    let bl = c.bounds_at.ensures l p.left_kept.holds p.left_kept.is_at in
    let br = c.bounds_at-2.ensures r p.right_kept.holds p.right_kept.is_at in
    let hl = c.height_at.ensures l p.left_kept.holds p.left_kept.is_at in
    let hr = c.height_at-2.ensures r p.right_kept.holds p.right_kept.is_at in
    subst (λ s. Holds s (refitted c.args.at l r)) (sym c.note_kin.ensures) (
      (cc),
      frame c.args.self.now c.write_inner.new.self c.args.at c.write_inner.ensures.kept l free.0 p.left_kept.holds,
      frame c.args.self.now c.write_inner.new.self
          c.args.at c.write_inner.ensures.kept r free.1 p.right_kept.holds,
    )

pub returns-clause-writes : goal.returns-clause-writes
returns-clause-writes c = subst (λ s. Writes c.args.self.now s (λ k. one c.args.at k)) (sym c.note_kin.ensures) (record {
  others = λ k none. c.write_inner.ensures.kept k (λ same. one_apart c.args.at k none (sym same));
  kept = c.write_inner.ensures.keys;
})
