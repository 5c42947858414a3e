-- What is found at each node, with what the nodes behind it give, is what all give.
use Rattle.std.proofs.Common.{◌≡◌, ℕ, ◌*◌, ◌-◌, ◌^◌, ◌<◌, ◌∙◌, [], ◌∷◌, List, length, take, ap, sym, subst, arith, refl}
use Rattle.std.specs.Prelude.{count_ones, drop}
use Rattle.tree_search.specs.declared.preorder.ListedNode.{ListedNode}
use Rattle.tree_search.specs.declared.preorder.NodeKind.TheVariants.{Leaf as LeafKind, Inner as InnerKind}
use Rattle.tree_search.specs.Looked.{raised}
use Rattle.tree_search.specs.Reading.{Reads}
use Rattle.tree_search.proofs.Groups.{group_bits}
use Rattle.tree_search.proofs.Counts.{raised_none, raised_fits}
use Rattle.tree_search.proofs.Preorders.{first_node, reads_first, reads_last, reads_leaf, reads_over, reads_in}
use Rattle.tree_search.proofs.group.read_onwards.Goals as goal

none_added : (a new ones mask : ℕ) → mask ≡ 0 → ones ≡ count_ones mask → new ≡ raised a (2 * ones) → a < 2 ^ 64 → new ≡ a
unfolding lib.Count.ones
none_added a new ones mask z eo en fits =
    en ∙ ap (λ n. raised a (2 * n)) (eo ∙ ap count_ones z) ∙ raised_none a fits

pub nodes-init : goal.nodes-init
nodes-init c = record {
  reads = λ bodies t i. reads_first bodies t c.args.done.now c.args.group.now c.args.preorder.now c.args.found.now.items c.args.looked i;
  fits = c.ranges.looked.fits;
}

pub nodes-preserved-in-Leaf : goal.nodes-preserved-in-Leaf
nodes-preserved-in-Leaf c =
    let node = c.node-item.result in
    let rest = c.nodes.rest.now in
    record {
      reads = λ bodies t i. reads_leaf bodies t c.args.done.now c.args.group.now (take (length rest - 1) (drop 1 rest)) c.in-Leaf.slot
          c.overlap_mask-mask.result node.bounds c.args.found.now.items c.nodes.found.items c.push_met.new.found.items c.args.looked c.nodes.number
          (group_bits node.bounds c.args.boxes.now c.args.group.now c.overlap_mask-mask.result c.requires.boxes c.requires.few c.overlap_mask-mask.ensures.mask)
          c.in_ok-push_met-in-Leaf.ensures
          (subst (λ l. Reads bodies t c.args.done.now c.args.group.now l c.args.found.now.items c.nodes.found.items c.args.looked c.nodes.number)
          (first_node rest node (LeafKind c.in-Leaf.slot) c.in-len1-up.len_at_least c.node-item.is c.in-Leaf.is) (c.nodes.invariant.reads bodies t i));
      fits = c.nodes.invariant.fits;
    }

pub nodes-preserved-then-mask-eq0 : goal.nodes-preserved-then-mask-eq0
nodes-preserved-then-mask-eq0 c =
    let node = c.node-item.result in
    let rest = c.nodes.rest.now in
    let more = take (length rest - 1) (drop 1 rest) in
    let same : c.saturating_add-number.result ≡ c.nodes.number = none_added c.nodes.number c.saturating_add-number.result c.from.result
    c.overlap_mask-mask.result c.if-mask-eq0.true c.from.ensures c.saturating_add-number.ensures c.nodes.invariant.fits in
    record {
      reads = λ bodies t i.
          let over = reads_over bodies t c.args.done.now c.args.group.now c.requires.laws more c.in-Inner.below c.overlap_mask-mask.result
          node.bounds c.args.found.now.items c.nodes.found.items c.args.looked c.nodes.number
          (group_bits node.bounds c.args.boxes.now c.args.group.now c.overlap_mask-mask.result c.requires.boxes c.requires.few c.overlap_mask-mask.ensures.mask)
          c.if-mask-eq0.true
          (subst (λ l. Reads bodies t c.args.done.now c.args.group.now l c.args.found.now.items c.nodes.found.items c.args.looked c.nodes.number)
          (first_node rest node (InnerKind c.in-Inner.below) c.in-len1-up.len_at_least c.node-item.is c.in-Inner.is) (c.nodes.invariant.reads bodies t i)) in
          subst (λ l. Reads bodies t c.args.done.now c.args.group.now l c.args.found.now.items c.nodes.found.items c.args.looked c.saturating_add-number.result)
          (sym c.nodes_behind-rest.ensures)
          (subst (λ n. Reads bodies t c.args.done.now c.args.group.now (drop c.in-Inner.below more) c.args.found.now.items c.nodes.found.items c.args.looked n)
          (sym same) over);
      fits = subst (λ n. n < 2 ^ 64) (sym same) c.nodes.invariant.fits;
    }

pub nodes-preserved : goal.nodes-preserved
nodes-preserved c =
    let node = c.node-item.result in
    let rest = c.nodes.rest.now in
    record {
      reads = λ bodies t i. reads_in bodies t c.args.done.now c.args.group.now c.requires.laws (take (length rest - 1) (drop 1 rest)) c.in-Inner.below
          c.overlap_mask-mask.result c.from.result node.bounds c.args.found.now.items c.nodes.found.items c.args.looked c.nodes.number
          c.saturating_add-number.result
          (group_bits node.bounds c.args.boxes.now c.args.group.now c.overlap_mask-mask.result c.requires.boxes c.requires.few c.overlap_mask-mask.ensures.mask)
          c.from.ensures c.saturating_add-number.ensures
          (subst (λ l. Reads bodies t c.args.done.now c.args.group.now l c.args.found.now.items c.nodes.found.items c.args.looked c.nodes.number)
          (first_node rest node (InnerKind c.in-Inner.below) c.in-len1-up.len_at_least c.node-item.is c.in-Inner.is) (c.nodes.invariant.reads bodies t i));
      fits = raised_fits c.nodes.number c.saturating_add-number.result (2 * c.from.result) c.saturating_add-number.ensures;
    }

no_nodes : (xs : List ListedNode) → length xs < 1 → xs ≡ []
no_nodes [] l = refl
no_nodes (x ∷ xs) l = absurd (omega arith)

pub returns-clause-ok : goal.returns-clause-ok
returns-clause-ok c bodies t i =
    (reads_last bodies t c.args.done.now c.args.group.now c.nodes.rest.now c.args.found.now.items c.nodes.found.items c.args.looked c.nodes.number
    (no_nodes c.nodes.rest.now c.in_default.len_below) c.nodes.invariant.fits (c.nodes.invariant.reads bodies t i)).0

pub returns-clause-count : goal.returns-clause-count
returns-clause-count c bodies t i =
    (reads_last bodies t c.args.done.now c.args.group.now c.nodes.rest.now c.args.found.now.items c.nodes.found.items c.args.looked c.nodes.number
    (no_nodes c.nodes.rest.now c.in_default.len_below) c.nodes.invariant.fits (c.nodes.invariant.reads bodies t i)).1
