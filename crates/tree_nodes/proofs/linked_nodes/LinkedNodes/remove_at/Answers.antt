-- The leaf and its parent go from the slab, and the tree without them is kept.
use Rattle.std.proofs.Common.{◌≡◌, ◌<◌, ◌-◌, ℕ, List, [], ◌∷◌, take, drop, get_or, length, sym, subst, refl, arith}
use Rattle.std.specs.List.Sorted.{IsPermutation}
use Rattle.tree_nodes.specs.Path.{Leads}
use Rattle.tree_nodes.specs.Stored.{Sound}
use Rattle.tree_nodes.specs.Tree.{Tree, top, leaves, leaves_in, Leaf as LeafOf}
use Rattle.tree_nodes.proofs.Detaching.{only, ready_to_remove, rest_sound, both_held, still}
use Rattle.tree_nodes.proofs.Inserting.{kept_sound, kept_tree}
use Rattle.tree_nodes.proofs.Removing.{parted}
use Rattle.tree_nodes.proofs.linked_nodes.LinkedNodes.remove_at.Goals.{After-remove-3}
use Rattle.tree_nodes.proofs.linked_nodes.LinkedNodes.remove_at.Goals as goal

no_items : (xs : List ℕ) → length xs < 1 → xs ≡ []
no_items [] h = refl
no_items (x ∷ xs) h = absurd (omega arith)

pub returns-in_default-clause-leaves : goal.returns-in_default-clause-leaves
returns-in_default-clause-leaves c t is s leads =
    let o = only c.args.self.now t c.args.node c.args.path.now (no_items c.args.path.now c.in_default.len_below) leads s in (o.0, o.1, o.2)

pub remove_below-above-requires : goal.remove_below-above-requires
remove_below-above-requires c =
    let q = c.requires in (
      c.args.node,
      q.0,
      ready_to_remove c.args.self.now c.args.root c.args.node (get_or c.args.path.now 0 0)
          (take (length c.args.path.now - 1) (drop 1 c.args.path.now)) c.args.path.now q.0 q.1 q.2 q.3 (parted c.args.path.now c.in-len1-up.len_at_least),
    )

pub remove-requires-2 : goal.remove-requires-2
remove-requires-2 c =
    let q = c.requires in
    let k = ready_to_remove c.args.self.now c.args.root c.args.node (get_or c.args.path.now 0 0)
    (take (length c.args.path.now - 1) (drop 1 c.args.path.now)) c.args.path.now q.0 q.1 q.2 q.3 (parted c.args.path.now c.in-len1-up.len_at_least) in
    let g = c.remove_below-above.ensures.there c.args.node q.0 k in
    (c.remove_below-above.ensures.writes c.args.node q.0 k).kept.here c.args.node (both_held c.args.self.now c.remove_below-above.new.self c.remove_below-above.result.0 c.args.node
    c.remove_below-above.result.1 q.0 g.0 q.2 g.1).0

pub remove-requires-3 : goal.remove-requires-3
remove-requires-3 c =
    let q = c.requires in
    let k = ready_to_remove c.args.self.now c.args.root c.args.node (get_or c.args.path.now 0 0)
    (take (length c.args.path.now - 1) (drop 1 c.args.path.now)) c.args.path.now q.0 q.1 q.2 q.3 (parted c.args.path.now c.in-len1-up.len_at_least) in
    let g = c.remove_below-above.ensures.there c.args.node q.0 k in
    let b = both_held c.args.self.now c.remove_below-above.new.self c.remove_below-above.result.0 c.args.node c.remove_below-above.result.1 q.0 g.0 q.2 g.1 in
    still c.remove_below-above.new.self c.remove-2.new.self c.args.node c.remove_below-above.result.1
    ((c.remove_below-above.ensures.writes c.args.node q.0 k).kept.here c.remove_below-above.result.1 b.1) c.remove-2.ensures.updates b.2

left : (c : After-remove-3) (t : Tree) → c.args.root ≡ top t → Sound c.args.self.now t → Leads t c.args.path.now c.args.node
    → (u : Tree) × (x : LeafOf) × Sound c.remove-3.new.self u × (c.remove_below-above.result.0 ≡ top u) × (x.node ≡ c.args.node) × IsPermutation
    (x ∷ leaves u) (leaves t)
left c t is s leads =
    let k = ready_to_remove c.args.self.now c.args.root c.args.node (get_or c.args.path.now 0 0)
    (take (length c.args.path.now - 1) (drop 1 c.args.path.now)) c.args.path.now t is s leads (parted c.args.path.now c.in-len1-up.len_at_least) in
    let g = c.remove_below-above.ensures.there c.args.node t k in (
      g.0,
      g.1.leaf,
      rest_sound c.args.self.now c.remove_below-above.new.self c.remove-2.new.self c.remove-3.new.self c.remove_below-above.result.0 c.args.node
          c.remove_below-above.result.1 t g.0 s g.1 (c.remove_below-above.ensures.writes c.args.node t k).kept.len c.remove-2.ensures.updates c.remove-2.ensures.len
          c.remove-3.ensures.updates c.remove-3.ensures.len,
      sym g.1.kept.is_at,
      g.1.is,
      g.1.leaves_are,
    )

pub returns-clause-sound : goal.returns-clause-sound
returns-clause-sound c = let q = c.requires in let l = left c q.0 q.1 q.2 q.3 in kept_sound c.remove-3.new.self c.remove_below-above.result.0 l.0 l.3 l.2

pub returns-clause-leaves : goal.returns-clause-leaves
returns-clause-leaves c t is s leads =
    let l = left c t is s leads in
    (l.1, l.4, subst (λ u. IsPermutation (l.1 ∷ leaves_in u) (leaves t)) (sym (kept_tree c.remove-3.new.self c.remove_below-above.result.0 l.0 l.3 l.2)) l.5)
