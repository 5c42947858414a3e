-- The marked leaves of a preorder list are the touched ones of its entries.
use Rattle.std.proofs.Common.{◌≡◌, ℕ, Bool, true, false, cond, Option, None, Some, List, [], ◌∷◌, ◌++◌, map, get_or, refl, ap, ◌∙◌}
use Rattle.std.specs.Option.{option_map}
use Rattle.std.specs.List.{filter_map, cons_option}
use Rattle.fixed_box.specs.Bounds.{Bounds}
use Rattle.tree_search.specs.declared.preorder.ListedNode.{ListedNode}
use Rattle.tree_search.specs.declared.preorder.NodeKind.{NodeKind}
use Rattle.tree_search.specs.declared.preorder.NodeKind.TheVariants.{Leaf as LeafKind, Inner as InnerKind}
use Rattle.tree_search.specs.Crossed.{touched_of}
use Rattle.tree_search.specs.Preorder.{entry_at, listed}
use Rattle.box_tree.specs.Searches.{marked_at, marked_leaf}

abbrev slot_in : ℕ × Bounds → ℕ
slot_in e = e.0

module _ (marks : List Bool) where
  marked_before : (b : Bounds) (k : NodeKind) (es : List (ℕ × Bounds))
      → cons_option (marked_at marks b k) (touched_of marks es) ≡ touched_of marks (entry_at b k ++ es)
  marked_before b (LeafKind slot) es =
      elim (get_or marks slot false) as
      (λ m. cons_option (cond m (Some (slot, b)) None) (touched_of marks es) ≡ cond m ((slot, b) ∷ touched_of marks es) (touched_of marks es)) [
        | true ↦ refl
        | false ↦ refl
      ]
  marked_before b (InnerKind below) es = refl

  pub marked_listed : (xs : List ListedNode) → filter_map (marked_leaf marks) xs ≡ touched_of marks (listed xs)
  marked_listed [] = refl
  marked_listed (x ∷ xs) = ap (cons_option (marked_leaf marks x)) (marked_listed xs) ∙ marked_before x.bounds x.kind (listed xs)

  slot_before : (p : Option (ℕ × Bounds)) (es : List (ℕ × Bounds)) → cons_option (option_map slot_in p) (map slot_in es) ≡ map slot_in (cons_option p es)
  slot_before None es = refl
  slot_before (Some e) es = refl

  pub slots_listed : (xs : List ListedNode)
      → filter_map (λ x. option_map slot_in (marked_leaf marks x)) xs ≡ map slot_in (touched_of marks (listed xs))
  slots_listed [] = refl
  slots_listed (x ∷ xs) =
      ap (cons_option (option_map slot_in (marked_leaf marks x))) (slots_listed xs)
      ∙ slot_before (marked_leaf marks x) (touched_of marks (listed xs))
      ∙ ap (map slot_in) (marked_before x.bounds x.kind (listed xs))
