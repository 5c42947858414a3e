-- There is no leaf.
use Rattle.std.proofs.Common.{ℕ, ◌∙◌, ap, length, get_or, None}
use Rattle.std.proofs.lemmas.List.{length-replicate}
use Rattle.tree_nodes.specs.Tree.{leaves_in}
use Rattle.box_tree.specs.Ties.{fats_by}
use Rattle.box_tree.proofs.FatLists.{none_by}
use Rattle.box_tree.proofs.LeafTies.{tied_none}
use Rattle.box_tree.proofs.leaves.Leaves.new.Goals as goal

pub invariant_of-result : goal.invariant_of-result
invariant_of-result c =
    tied_none c.in_ok-new.field-0 c.in_ok-vec.field-0.items c.in_ok-new.ensures
    (ap length (c.in_ok-vec.ensures.items_if_clones_equal (λ _ e. e)) ∙ length-replicate {A = ℕ} 8192 0)

pub returns-clause-fats : goal.returns-clause-fats
returns-clause-fats c k = ap (λ t. get_or (fats_by (leaves_in t)) k None) c.in_ok-new.ensures ∙ none_by k
