-- The slots of the marked leaves are those of the touched entries.
use Rattle.std.proofs.Common.{ℕ, ◌++◌, ◌∙◌, ap, rules}
use Rattle.std.specs.Option.{option_map}
use Rattle.fixed_box.specs.Bounds.{Bounds}
use Rattle.box_tree.specs.Searches.{marked_leaf}
use Rattle.box_tree.proofs.MarkedLeaves.{slots_listed}
use Rattle.box_tree.proofs.marked.push_marked_slots.Goals as goal

pub returns-clause-ok : goal.returns-clause-ok
returns-clause-ok c =
    c.in_ok-push_filter_mapped.ensures.ok (λ x. option_map (λ (e : ℕ × Bounds). e.0) (marked_leaf c.args.marks.now x)) (λ item r post. search rules)
    ∙ ap (λ es. c.args.out.now.items ++ es) (slots_listed c.args.marks.now c.args.preorder.now)
