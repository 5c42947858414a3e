-- The root is the top of the tree.
use Rattle.std.proofs.Common.{◌∙◌, sym, subst}
use Rattle.tree_search.specs.Exact.{IsInside}
use Rattle.tree_search.proofs.Showing.{tree_there}
use Rattle.tree_search.proofs.visiting.show_boxes.Goals as goal

pub show_below-requires : goal.show_below-requires
show_below-requires g c =
    let k = c.args.boxes.now in
    let r = tree_there k.bodies k.tree c.in-Some.root (sym c.root.ensures ∙ c.in-Some.is) c.boxed_law.ensures.tree c.boxed_law.ensures.inside in
    (r.0, c.nodes.ensures ∙ r.1, r.2, r.3, subst (λ bs. IsInside bs r.0) (sym c.bodies.ensures) r.4)
