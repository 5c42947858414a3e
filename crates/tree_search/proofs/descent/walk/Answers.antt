-- Each leaf adds what is found there, and each inner node the children that are met.
use Rattle.std.proofs.Common.{◌+◌, ◌++◌, arith, sym, ap, ◌∙◌, subst, length, take}
use Rattle.std.proofs.Math.Seq.{take-length}
use Rattle.std.proofs.lemmas.List.{length_push}
use Rattle.tree_nodes.specs.Shown.{shown, shown_as}
use Rattle.tree_nodes.specs.Tree.{view_in}
use Rattle.tree_search.specs.Descent.{Stands, found_at, met_in}
use Rattle.tree_search.proofs.Showing.{none_left}
use Rattle.tree_search.proofs.Descents.{anyway, at_leaf, at_inner, begun, done_ok, one_more, still, two_more}
use Rattle.tree_search.proofs.descent.walk.Goals as goal

pub walk-init : goal.walk-init
walk-init g c =
    let p = c.requires in
    let q = g.T.BoxTest.asks c.args.test.now in (
      subst (λ xs. Stands c.args.nodes.now c.args.bodies.now q xs c.args.out.now.items c.args.out.now.items 1)
          (sym (c.ask.ensures ∙ ap (λ xs. xs ++ met_in q (view_in c.args.nodes.now c.args.root)) c.none-waiting.ensures))
          (begun c.args.bodies.now q (c.descent_law.ensures q) c.args.nodes.now c.args.out.now.items c.args.root p.0 p.1 p.2 p.3 p.4),
      take-length c.args.out.now.items,
    )

pub push_found-requires : goal.push_found-requires
push_found-requires g c =
    let q = g.T.BoxTest.asks c.args.test.now in
    let l = at_leaf c.args.bodies.now q (c.descent_law.ensures q) c.pop.new.self (shown c.in-Some.node.now) c.walk.invariant.0
    c.in-Some.ensures.rest (ap (shown_as c.in-Some.node.now.bounds) c.in-Leaf.is) in
    l.0.small

pub walk-preserved-in-Continue-1 : goal.walk-preserved-in-Continue-1
walk-preserved-in-Continue-1 g c =
    let q = g.T.BoxTest.asks c.args.test.now in
    let l = at_leaf c.args.bodies.now q (c.descent_law.ensures q) c.pop.new.self (shown c.in-Some.node.now) c.walk.invariant.0
    c.in-Some.ensures.rest (ap (shown_as c.in-Some.node.now.bounds) c.in-Leaf.is) in (
      subst (λ ys. Stands c.args.nodes.now c.args.bodies.now q c.pop.new.self c.args.out.now.items ys c.walk.count)
          (sym c.in_ok-push_found-in-Leaf.ensures.ok) l.1,
      ap (take (length c.args.out.now.items)) c.in_ok-push_found-in-Leaf.ensures.ok
          ∙ still c.args.out.now.items c.walk.out.items (found_at c.args.bodies.now q c.in-Leaf.slot) c.walk.invariant.1,
    )

pub overflow_add-count : goal.overflow_add-count
overflow_add-count g c =
    let q = g.T.BoxTest.asks c.args.test.now in
    let l = at_inner c.args.bodies.now q (c.descent_law.ensures q) c.pop.new.self (shown c.in-Some.node.now) c.walk.invariant.0
    c.in-Some.ensures.rest (ap (shown_as c.in-Some.node.now.bounds) c.in-Inner.is) in
    omega arith

pub ask-requires-in-Inner-clause-room : goal.ask-requires-in-Inner-clause-room
ask-requires-in-Inner-clause-room g c =
    let q = g.T.BoxTest.asks c.args.test.now in
    let l = at_inner c.args.bodies.now q (c.descent_law.ensures q) c.pop.new.self (shown c.in-Some.node.now) c.walk.invariant.0
    c.in-Some.ensures.rest (ap (shown_as c.in-Some.node.now.bounds) c.in-Inner.is) in
    omega arith

pub ask-requires-in-Inner-clause-shown : goal.ask-requires-in-Inner-clause-shown
ask-requires-in-Inner-clause-shown g c =
    let q = g.T.BoxTest.asks c.args.test.now in
    let l = at_inner c.args.bodies.now q (c.descent_law.ensures q) c.pop.new.self (shown c.in-Some.node.now) c.walk.invariant.0
    c.in-Some.ensures.rest (ap (shown_as c.in-Some.node.now.bounds) c.in-Inner.is) in
    l.4

pub ask-requires-in-Inner-2-clause-room : goal.ask-requires-in-Inner-2-clause-room
ask-requires-in-Inner-2-clause-room g c =
    let q = g.T.BoxTest.asks c.args.test.now in
    let l = at_inner c.args.bodies.now q (c.descent_law.ensures q) c.pop.new.self (shown c.in-Some.node.now) c.walk.invariant.0
    c.in-Some.ensures.rest (ap (shown_as c.in-Some.node.now.bounds) c.in-Inner.is) in
    let more = ap length c.ask-in-Inner.ensures in
    let one = one_more c.args.bodies.now q (c.descent_law.ensures q) c.pop.new.self (view_in c.args.nodes.now c.in-Inner.right) in
    omega arith

pub ask-requires-in-Inner-2-clause-shown : goal.ask-requires-in-Inner-2-clause-shown
ask-requires-in-Inner-2-clause-shown g c =
    let q = g.T.BoxTest.asks c.args.test.now in
    let l = at_inner c.args.bodies.now q (c.descent_law.ensures q) c.pop.new.self (shown c.in-Some.node.now) c.walk.invariant.0
    c.in-Some.ensures.rest (ap (shown_as c.in-Some.node.now.bounds) c.in-Inner.is) in
    l.3

pub walk-smaller : goal.walk-smaller
walk-smaller g c =
    let q = g.T.BoxTest.asks c.args.test.now in
    let l = at_inner c.args.bodies.now q (c.descent_law.ensures q) c.pop.new.self (shown c.in-Some.node.now) c.walk.invariant.0
    c.in-Some.ensures.rest (ap (shown_as c.in-Some.node.now.bounds) c.in-Inner.is) in
    let before = ap length c.in-Some.ensures.rest ∙ length_push c.pop.new.self (shown c.in-Some.node.now) in
    let both = c.ask-in-Inner-2.ensures ∙ ap (λ xs. xs ++ met_in q (view_in c.args.nodes.now c.in-Inner.left)) c.ask-in-Inner.ensures in
    let after = ap length both in
    let few = two_more c.args.bodies.now q (c.descent_law.ensures q) c.pop.new.self (view_in c.args.nodes.now c.in-Inner.right)
    (view_in c.args.nodes.now c.in-Inner.left) in
    omega arith

pub walk-preserved : goal.walk-preserved
walk-preserved g c =
    let q = g.T.BoxTest.asks c.args.test.now in
    let l = at_inner c.args.bodies.now q (c.descent_law.ensures q) c.pop.new.self (shown c.in-Some.node.now) c.walk.invariant.0
    c.in-Some.ensures.rest (ap (shown_as c.in-Some.node.now.bounds) c.in-Inner.is) in (
      subst (λ xs. Stands c.args.nodes.now c.args.bodies.now q xs c.args.out.now.items c.walk.out.items (c.walk.count + 2))
          (sym (c.ask-in-Inner-2.ensures ∙ ap (λ xs. xs ++ met_in q (view_in c.args.nodes.now c.in-Inner.left)) c.ask-in-Inner.ensures)) l.5,
      c.walk.invariant.1,
    )

pub returns-in_err-push_found-in-Leaf-clause-err : goal.returns-in_err-push_found-in-Leaf-clause-err
returns-in_err-push_found-in-Leaf-clause-err g c =
    anyway _ (ap (take (length c.args.out.now.items)) c.in_err-push_found-in-Leaf.ensures.err ∙ c.walk.invariant.1)

pub returns-clause-ok : goal.returns-clause-ok
returns-clause-ok g c =
    let q = g.T.BoxTest.asks c.args.test.now in
    (done_ok c.args.bodies.now q (c.descent_law.ensures q) c.args.nodes.now c.args.out.now.items c.walk.out.items c.walk.count
    (subst (λ xs. Stands c.args.nodes.now c.args.bodies.now q xs c.args.out.now.items c.walk.out.items c.walk.count)
    (c.pop.ensures.rest ∙ none_left (λ n. shown n.now) c.pop.new.self c.pop.result c.in_default.is (c.pop.ensures.ended c.in_default.is))
    c.walk.invariant.0)).0

pub returns-clause-count : goal.returns-clause-count
returns-clause-count g c =
    let q = g.T.BoxTest.asks c.args.test.now in
    (done_ok c.args.bodies.now q (c.descent_law.ensures q) c.args.nodes.now c.args.out.now.items c.walk.out.items c.walk.count
    (subst (λ xs. Stands c.args.nodes.now c.args.bodies.now q xs c.args.out.now.items c.walk.out.items c.walk.count)
    (c.pop.ensures.rest ∙ none_left (λ n. shown n.now) c.pop.new.self c.pop.result c.in_default.is (c.pop.ensures.ended c.in_default.is))
    c.walk.invariant.0)).1
