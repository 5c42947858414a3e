-- A node is written once the nodes above it are.
use Rattle.std.proofs.Common.{◌<◌, ◌-◌, ◌∙◌, sym, subst, arith}
use Rattle.tree_nodes.proofs.Detaching.{held}
use Rattle.tree_nodes.proofs.ResizedTrees.{written_top, written_inside, written_below, parent_counted}
use Rattle.tree_nodes.proofs.linked_nodes.LinkedNodes.+resize.Goals as goal

pub returns-then-at-root-clause-resized : goal.returns-then-at-root-clause-resized
returns-then-at-root-clause-resized t c u s e used _ =
    written_top c.args.self.now c.write_bounds.new.self c.args.at c.args.bounds.now u (e ∙ sym c.if-at-root.true) s.is_tree.apart c.write_bounds.ensures.written s.holds

pub write_bounds-requires-in-Stays : goal.write_bounds-requires-in-Stays
write_bounds-requires-in-Stays t c = let q = c.requires in held c.args.self.now q.0 c.args.at q.1.holds q.3

pub resize-requires : goal.resize-requires
resize-requires t c =
    let q = c.requires in
    let r = c.change_above.ensures.changes q.0 c.in-Changes.parent c.in-Changes.hull q.1 c.in-Changes.is in (
      subst (λ m. c.args.levels - 1 < m) c.decreases (let z = c.if-levels-eq0.false in omega arith),
      (q.0, q.1, q.2, parent_counted q.0 c.args.at c.in-Changes.parent c.args.bounds.now r.0 c.in-Changes.hull r.1),
    )

pub write_bounds-requires-in-Changes : goal.write_bounds-requires-in-Changes
write_bounds-requires-in-Changes t c =
    let q = c.requires in c.resize.ensures.keys.here c.args.at (held c.args.self.now q.0 c.args.at q.1.holds q.3)

pub returns-in-Stays-clause-resized : goal.returns-in-Stays-clause-resized
returns-in-Stays-clause-resized t c u s e used _ =
    let r = c.change_above.ensures.stays u s c.in-Stays.is in
    written_inside c.args.self.now c.write_bounds-in-Stays.new.self c.args.at r.0 c.args.bounds.now r.1 u s c.write_bounds-in-Stays.ensures.written r.2

pub returns-else-not-resize-clause-resized : goal.returns-else-not-resize-clause-resized
returns-else-not-resize-clause-resized t c u s e used _ =
    let r = c.change_above.ensures.changes u c.in-Changes.parent c.in-Changes.hull s c.in-Changes.is in
    let up = parent_counted u c.args.at c.in-Changes.parent c.args.bounds.now r.0 c.in-Changes.hull r.1 in
    written_below c.resize.new.self c.write_bounds-in-Changes.new.self c.args.at c.in-Changes.parent c.args.bounds.now r.0 c.in-Changes.hull u
    s.is_tree.balanced s.is_tree.apart c.write_bounds-in-Changes.ensures.written r.1 (c.resize.ensures.resized u s e up c.if-not-resize.false)
