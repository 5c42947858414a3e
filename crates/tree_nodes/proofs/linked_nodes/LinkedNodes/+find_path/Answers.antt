-- No leaf with this box stands below a hull that does not hold it.
use Rattle.std.proofs.Common.{◌<◌, ap, ◌∙◌, sym, subst, Some, false}
use Rattle.slab.specs.Slab.{get}
use Rattle.tree_nodes.specs.Parts.{height_shown}
use Rattle.tree_nodes.specs.Path.{PathFound}
use Rattle.tree_nodes.specs.Tree.{height}
use Rattle.tree_nodes.proofs.Paths.{outside, both_below, falls}
use Rattle.tree_nodes.proofs.linked_nodes.LinkedNodes.+find_path.Goals as goal

pub returns-then-not-holds_box-clause-sought : goal.returns-then-not-holds_box-clause-sought
returns-then-not-holds_box-clause-sought t c u w =
    subst (λ p. PathFound c.args.node c.args.fat.now u false p) (sym c.requires.empty)
    (outside c.args.self.now c.args.at c.in-Inner.left c.in-Inner.right c.in-Inner.height c.args.node c.in-Inner.hull c.args.fat.now u
    c.tree_laws.ensures.viewed w (c.view.ensures ∙ ap Some c.in-Inner.is) (sym c.holds_box.ensures ∙ c.if-not-holds_box.true))

pub find_path-requires : goal.find_path-requires
find_path-requires t c =
    let q = c.requires.tree in
    let o = both_below c.args.self.now c.args.at c.in-Inner.left c.in-Inner.right c.in-Inner.height c.in-Inner.hull q.0 q.1
    (c.view.ensures ∙ ap Some c.in-Inner.is) in (
      subst (λ m. height_shown (get c.args.self.now c.in-Inner.left) < m) c.decreases
          (falls c.args.self.now c.args.at c.in-Inner.left c.in-Inner.height q.0 o.0 q.1 o.3 (ap height o.2) o.5),
      ((o.0, o.3), (c.requires.empty, c.requires.room)),
    )

pub find_path-requires-in-Inner : goal.find_path-requires-in-Inner
find_path-requires-in-Inner t c =
    let q = c.requires.tree in
    let o = both_below c.args.self.now c.args.at c.in-Inner.left c.in-Inner.right c.in-Inner.height c.in-Inner.hull q.0 q.1
    (c.view.ensures ∙ ap Some c.in-Inner.is) in (
      subst (λ m. height_shown (get c.args.self.now c.in-Inner.right) < m) c.decreases
          (falls c.args.self.now c.args.at c.in-Inner.right c.in-Inner.height q.0 o.1 q.1 o.4 (ap height o.2) o.6),
      ((o.1, o.4), ((c.find_path.ensures.sought o.0 o.3).missed c.if-find_path.false, c.find_path.ensures.capacity ∙ c.requires.room)),
    )
