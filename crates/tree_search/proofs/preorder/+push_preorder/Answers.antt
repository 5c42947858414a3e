-- A node's list is its own entry, and the lists of its children behind it.
use Rattle.std.proofs.Common.{◌≡◌, ℕ, ◌+◌, ◌*◌, ◌<◌, ◌≤◌, ◌^◌, ◌++◌, ◌∷◌, [], ◌∙◌, List, Option, length, ap, subst, Some, arith, rules}
use Rattle.std.proofs.lemmas.List.{length-append}
use Rattle.fixed_box.specs.Bounds.{Bounds}
use Rattle.tree_nodes.specs.Parts.{height_shown}
use Rattle.tree_nodes.specs.Shown.{shown_as}
use Rattle.tree_nodes.specs.Tree.{Tree, fork, view_in, leaves}
use Rattle.tree_search.specs.declared.preorder.ListedNode.{ListedNode}
use Rattle.tree_search.specs.Preorder.{preorder}
use Rattle.tree_search.proofs.Groups.{opened_inner, lower, left_lower, right_lower}
use Rattle.tree_search.proofs.Preorders.{preorder_few, inner_listed}
use Rattle.tree_search.proofs.preorder.+push_preorder.Goals as goal

module _ (bodies : List (Option Bounds)) (n k : ℕ) (h : Bounds) (l r t : Tree) (is : t ≡ fork n h k l r) (out pushed one two : List ListedNode)
    (node : ListedNode) (few : length out + 2 * length (leaves t) < 2 ^ 32) (ep : pushed ≡ out ++ node ∷ []) where
  both : length (leaves t) ≡ length (leaves l) + length (leaves r)
  both = ap (λ u. length (leaves u)) is ∙ length-append (leaves l) (leaves r)

  left_fits : ((u : Tree) → 1 ≤ length (leaves u)) → length pushed + 2 * length (leaves l) < 2 ^ 32
  left_fits some =
      let a = both in
      let b = some r in
      let c = ap length ep ∙ length-append out (node ∷ []) in
      omega arith

  module _ (e1 : one ≡ pushed ++ preorder bodies l) where
    right_fits : length one + 2 * length (leaves r) < 2 ^ 32
    right_fits =
        let a = both in
        let b = preorder_few bodies l in
        let c = ap length ep ∙ length-append out (node ∷ []) in
        let d = ap length e1 ∙ length-append pushed (preorder bodies l) in
        omega arith

    below_fits : (place len : ℕ) → place ≡ length out → len ≡ length two → two ≡ one ++ preorder bodies r → len < 2 ^ 32
    below_fits place len epl el e2 =
        let a = right_fits in
        let b = preorder_few bodies r in
        let c = ap length e2 ∙ length-append one (preorder bodies r) in
        omega arith

pub push_preorder-requires : goal.push_preorder-requires
push_preorder-requires t c =
    let h = c.requires in
    let hull = c.node-node.result.now.bounds in
    let e = c.node-node.ensures.value ∙ ap (λ r. Some (shown_as hull r)) c.in-Inner.is in
    let o = opened_inner c.args.nodes.now c.args.bodies.now c.args.at c.in-Inner.left c.in-Inner.right c.in-Inner.height hull h.0 h.1 e in (
      subst (λ m. height_shown (view_in c.args.nodes.now c.in-Inner.left) < m) c.decreases
          (lower c.args.nodes.now c.args.bodies.now c.args.at c.in-Inner.left c.in-Inner.left c.in-Inner.right c.in-Inner.height hull o.1 o.4 e
          (left_lower hull c.in-Inner.height o.1 o.2 o.6)),
      (
        o.1,
        o.4,
        left_fits c.args.bodies.now o.0 c.in-Inner.height hull o.1 o.2 h.0 o.3 c.args.out.now.items c.push.new.self.items
            c.push.new.self.items c.push.new.self.items c.inner_node.result h.2 c.in_ok-push-in-Inner.ensures.items c.tree_laws.ensures.some,
      ),
    )

pub push_preorder-requires-in-Inner : goal.push_preorder-requires-in-Inner
push_preorder-requires-in-Inner t c =
    let h = c.requires in
    let hull = c.node-node.result.now.bounds in
    let e = c.node-node.ensures.value ∙ ap (λ r. Some (shown_as hull r)) c.in-Inner.is in
    let o = opened_inner c.args.nodes.now c.args.bodies.now c.args.at c.in-Inner.left c.in-Inner.right c.in-Inner.height hull h.0 h.1 e in (
      subst (λ m. height_shown (view_in c.args.nodes.now c.in-Inner.right) < m) c.decreases
          (lower c.args.nodes.now c.args.bodies.now c.args.at c.in-Inner.right c.in-Inner.left c.in-Inner.right c.in-Inner.height hull o.2 o.5 e
          (right_lower hull c.in-Inner.height o.1 o.2 o.6)),
      (
        o.2,
        o.5,
        right_fits c.args.bodies.now o.0 c.in-Inner.height hull o.1 o.2 h.0 o.3 c.args.out.now.items c.push.new.self.items
            c.push_preorder.new.out.items c.push_preorder.new.out.items c.inner_node.result h.2 c.in_ok-push-in-Inner.ensures.items
            (c.in_ok-push_preorder-in-Inner.ensures o.1 o.4),
      ),
    )

pub overflow_cast-below : goal.overflow_cast-below
overflow_cast-below t c =
    let h = c.requires in
    let hull = c.node-node.result.now.bounds in
    let e = c.node-node.ensures.value ∙ ap (λ r. Some (shown_as hull r)) c.in-Inner.is in
    let o = opened_inner c.args.nodes.now c.args.bodies.now c.args.at c.in-Inner.left c.in-Inner.right c.in-Inner.height hull h.0 h.1 e in
    let place : c.len-place.result ≡ length c.args.out.now.items = search rules in
    let len : c.len.result ≡ length c.push_preorder-in-Inner.new.out.items = search rules in
    let fits = below_fits c.args.bodies.now o.0 c.in-Inner.height hull o.1 o.2 h.0 o.3 c.args.out.now.items c.push.new.self.items
    c.push_preorder.new.out.items c.push_preorder-in-Inner.new.out.items c.inner_node.result h.2 c.in_ok-push-in-Inner.ensures.items
    (c.in_ok-push_preorder-in-Inner.ensures o.1 o.4) c.len-place.result c.len.result place len
    (c.in_ok-push_preorder-in-Inner-2.ensures o.2 o.5) in
    omega arith

pub returns-in_ok-push_preorder-in-Inner-2 : goal.returns-in_ok-push_preorder-in-Inner-2
returns-in_ok-push_preorder-in-Inner-2 t c u b =
    let hull = c.node-node.result.now.bounds in
    let e = c.node-node.ensures.value ∙ ap (λ r. Some (shown_as hull r)) c.in-Inner.is in
    let o = opened_inner c.args.nodes.now c.args.bodies.now c.args.at c.in-Inner.left c.in-Inner.right c.in-Inner.height hull u b e in
    let place : c.len-place.result ≡ length c.args.out.now.items = search rules in
    let len : c.len.result ≡ length c.push_preorder-in-Inner.new.out.items = search rules in
    inner_listed c.args.bodies.now o.0 c.in-Inner.height c.len-place.result c.len.result hull o.1 o.2 u c.args.out.now.items
    c.push.new.self.items c.push_preorder.new.out.items c.push_preorder-in-Inner.new.out.items c.inner_node.result c.inner_node-in-Inner.result o.3
    c.in_ok-push-in-Inner.ensures.items (c.in_ok-push_preorder-in-Inner.ensures o.1 o.4) (c.in_ok-push_preorder-in-Inner-2.ensures o.2 o.5)
    place len c.inner_node-in-Inner.ensures
