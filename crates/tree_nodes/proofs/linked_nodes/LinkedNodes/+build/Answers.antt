-- Each half is built, and both trees come below the node.
use Rattle.std.proofs.Common.{◌<◌, ◌-◌, take, drop, get_or, length, subst}
use Rattle.tree_nodes.specs.Moved.{refitted}
use Rattle.tree_nodes.specs.Rebuilt.{uses}
use Rattle.tree_nodes.proofs.BuiltTrees.{halves, front_ready, back_ready, front_fewer, back_fewer, children_built, whole_built, leaf_alone, others_built}
use Rattle.tree_nodes.proofs.Frames.{keys_kept, writes_none}
use Rattle.tree_nodes.proofs.Removing.{parted}
use Rattle.tree_nodes.proofs.linked_nodes.LinkedNodes.+build.Goals as goal

pub returns-in_default-clause-there : goal.returns-in_default-clause-there
returns-in_default-clause-there t c = leaf_alone c.args.self.now c.args.keys.now c.args.inner.now _ c.requires c.in_default.len_below

pub build-left-requires : goal.build-left-requires
build-left-requires t c =
    let h = halves c.args.self.now c.args.keys.now c.divide.new.keys c.split_at_mut-front.result.0.now c.split_at_mut-front.result.1.now c.args.inner.now
    (get_or c.args.inner.now 0 0) (take (length c.args.inner.now - 1) (drop 1 c.args.inner.now)) c.split_at.result.0.now c.split_at.result.1.now
    c.requires c.divide.ensures c.split_at_mut-front.ensures.value c.split_at_mut-front.ensures.front_len
    (parted c.args.inner.now c.in-len1-up.len_at_least) c.split_at.ensures.by_index.0 c.split_at.ensures.front_len in
    (subst (λ m. length c.split_at.result.0.now < m) c.decreases (front_fewer h), front_ready h)

pub build-right-requires : goal.build-right-requires
build-right-requires t c =
    let h = halves c.args.self.now c.args.keys.now c.divide.new.keys c.split_at_mut-front.result.0.now c.split_at_mut-front.result.1.now c.args.inner.now
    (get_or c.args.inner.now 0 0) (take (length c.args.inner.now - 1) (drop 1 c.args.inner.now)) c.split_at.result.0.now c.split_at.result.1.now
    c.requires c.divide.ensures c.split_at_mut-front.ensures.value c.split_at_mut-front.ensures.front_len
    (parted c.args.inner.now c.in-len1-up.len_at_least) c.split_at.ensures.by_index.0 c.split_at.ensures.front_len in (
      subst (λ m. length c.split_at.result.1.now < m) c.decreases (back_fewer h),
      back_ready h c.build-left.new.self c.build-left.ensures.writes.others c.build-left.ensures.writes.kept.here,
    )

pub refit-requires : goal.refit-requires
refit-requires t c =
    let h = halves c.args.self.now c.args.keys.now c.divide.new.keys c.split_at_mut-front.result.0.now c.split_at_mut-front.result.1.now c.args.inner.now
    (get_or c.args.inner.now 0 0) (take (length c.args.inner.now - 1) (drop 1 c.args.inner.now)) c.split_at.result.0.now c.split_at.result.1.now
    c.requires c.divide.ensures c.split_at_mut-front.ensures.value c.split_at_mut-front.ensures.front_len
    (parted c.args.inner.now c.in-len1-up.len_at_least) c.split_at.ensures.by_index.0 c.split_at.ensures.front_len in
    let p = c.build-left.ensures.there in
    let q = c.build-right.ensures.there in (
      p.0,
      q.0,
      children_built h p.1 q.1 c.build-right.ensures.writes.others c.build-left.ensures.writes.kept.here c.build-right.ensures.writes.kept.here,
    )

pub returns-clause-there : goal.returns-clause-there
returns-clause-there t c =
    let h = halves c.args.self.now c.args.keys.now c.divide.new.keys c.split_at_mut-front.result.0.now c.split_at_mut-front.result.1.now c.args.inner.now
    (get_or c.args.inner.now 0 0) (take (length c.args.inner.now - 1) (drop 1 c.args.inner.now)) c.split_at.result.0.now c.split_at.result.1.now
    c.requires c.divide.ensures c.split_at_mut-front.ensures.value c.split_at_mut-front.ensures.front_len
    (parted c.args.inner.now c.in-len1-up.len_at_least) c.split_at.ensures.by_index.0 c.split_at.ensures.front_len in
    let p = c.build-left.ensures.there in
    let q = c.build-right.ensures.there in
    let r = children_built h p.1 q.1 c.build-right.ensures.writes.others c.build-left.ensures.writes.kept.here c.build-right.ensures.writes.kept.here in (
      refitted (get_or c.args.inner.now 0 0) p.0 q.0,
      whole_built c.refit.new.self h p.1 q.1 c.build-left.ensures.writes.others (c.refit.ensures.there p.0 q.0 r),
    )

pub returns-in_default-clause-writes : goal.returns-in_default-clause-writes
returns-in_default-clause-writes t c = writes_none c.args.self.now (λ k. uses c.args.inner.now k)

pub returns-clause-writes : goal.returns-clause-writes
returns-clause-writes t c =
    let h = halves c.args.self.now c.args.keys.now c.divide.new.keys c.split_at_mut-front.result.0.now c.split_at_mut-front.result.1.now c.args.inner.now
    (get_or c.args.inner.now 0 0) (take (length c.args.inner.now - 1) (drop 1 c.args.inner.now)) c.split_at.result.0.now c.split_at.result.1.now
    c.requires c.divide.ensures c.split_at_mut-front.ensures.value c.split_at_mut-front.ensures.front_len
    (parted c.args.inner.now c.in-len1-up.len_at_least) c.split_at.ensures.by_index.0 c.split_at.ensures.front_len in
    record {
      others = others_built c.build-left.new.self c.build-right.new.self c.refit.new.self h
          c.build-left.ensures.writes.others c.build-right.ensures.writes.others c.refit.ensures.writes.others;
      kept = keys_kept c.args.self.now c.build-left.new.self c.refit.new.self c.build-left.ensures.writes.kept
          (keys_kept c.build-left.new.self c.build-right.new.self c.refit.new.self c.build-right.ensures.writes.kept c.refit.ensures.writes.kept);
    }
