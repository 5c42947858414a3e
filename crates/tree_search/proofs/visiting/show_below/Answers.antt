-- Each step shows a leaf, opens an inner node, or passes by what isn't admitted.
use Rattle.std.proofs.Common.{◌+◌, ◌++◌, ap, sym, subst, ◌∙◌, arith, ⊎_elim, option_to_list}
use Rattle.broad_index.specs.declared.query.Query.TheVariants.{Region}
use Rattle.tree_nodes.specs.Shown.{shown, shown_as}
use Rattle.tree_nodes.specs.Tree.{view_in}
use Rattle.tree_search.specs.Visiting.{Shows, NextShown, weight, weights}
use Rattle.tree_search.proofs.Showing.{begun, popped, kept_out, small_slot, leaf_shown, opened, ended, weights_push, some_node, none_left}
use Rattle.tree_search.proofs.visiting.show_below.Goals as goal

pub show-init : goal.show-init
show-init g c =
    let p = c.requires in
    let saw = g.V.Visitor.saw c.args.visitor.now in
    let start = subst (Shows c.args.nodes.now c.args.bodies.now saw saw)
    (sym (c.wait.ensures ∙ ap (λ xs. xs ++ option_to_list (view_in c.args.nodes.now c.args.root)) c.none-waiting.ensures))
    (begun (Region c.node.result.now.bounds) (c.descent_law.ensures (Region c.node.result.now.bounds)) c.args.bodies.now c.args.nodes.now c.args.root p.0 p.1 p.2 p.3 p.4) in
    (start, g.met.V.Visitor.keeps_itself c.args.visitor.now)

pub show_leaf-requires : goal.show_leaf-requires
show_leaf-requires g c =
    let q = Region c.node.result.now.bounds in
    let o = c.args.nodes.now in
    let before = g.V.Visitor.saw c.args.visitor.now in
    let now = g.V.Visitor.saw c.show.visitor in
    let p = popped o c.args.bodies.now c.pop.new.self (shown c.in-Some.node.now) (subst (Shows o c.args.bodies.now before now) c.in-Some.ensures.rest c.show.invariant.0) in
    small_slot c.box_laws.ensures.chain q (c.descent_law.ensures q)
    (subst (NextShown o c.args.bodies.now before now c.pop.new.self) (ap (shown_as c.in-Some.node.now.bounds) c.in-Leaf.is) p)

pub show-smaller-in-Continue-1 : goal.show-smaller-in-Continue-1
show-smaller-in-Continue-1 g c =
    let all = ap weights c.in-Some.ensures.rest ∙ weights_push c.pop.new.self (shown c.in-Some.node.now) in
    let some = some_node (shown c.in-Some.node.now) in
    omega arith

pub show-preserved-in-Continue-1 : goal.show-preserved-in-Continue-1
show-preserved-in-Continue-1 g c =
    let q = Region c.node.result.now.bounds in
    let o = c.args.nodes.now in
    let before = g.V.Visitor.saw c.args.visitor.now in
    let now = g.V.Visitor.saw c.show.visitor in
    let p = popped o c.args.bodies.now c.pop.new.self (shown c.in-Some.node.now) (subst (Shows o c.args.bodies.now before now) c.in-Some.ensures.rest c.show.invariant.0) in
    let next = leaf_shown c.box_laws.ensures.chain q (c.descent_law.ensures q)
    (subst (NextShown o c.args.bodies.now before now c.pop.new.self) (ap (shown_as c.in-Some.node.now.bounds) c.in-Leaf.is) p)
    c.in_ok-show_leaf-in-Leaf.ensures.seen in
    (next, g.met.V.Visitor.keeps_on c.args.visitor.now c.show.visitor c.show_leaf.new.visitor c.show.invariant.1 c.in_ok-show_leaf-in-Leaf.ensures.kept)

pub wait_both-requires-clause-room : goal.wait_both-requires-clause-room
wait_both-requires-clause-room g c =
    let q = Region c.node.result.now.bounds in
    let o = c.args.nodes.now in
    let before = g.V.Visitor.saw c.args.visitor.now in
    let now = g.V.Visitor.saw c.show.visitor in
    let p = popped o c.args.bodies.now c.pop.new.self (shown c.in-Some.node.now) (subst (Shows o c.args.bodies.now before now) c.in-Some.ensures.rest c.show.invariant.0) in
    (opened q (c.descent_law.ensures q)
    (subst (NextShown o c.args.bodies.now before now c.pop.new.self) (ap (shown_as c.in-Some.node.now.bounds) c.in-Inner.is) p)).room

pub wait_both-requires-clause-left : goal.wait_both-requires-clause-left
wait_both-requires-clause-left g c =
    let q = Region c.node.result.now.bounds in
    let o = c.args.nodes.now in
    let before = g.V.Visitor.saw c.args.visitor.now in
    let now = g.V.Visitor.saw c.show.visitor in
    let p = popped o c.args.bodies.now c.pop.new.self (shown c.in-Some.node.now) (subst (Shows o c.args.bodies.now before now) c.in-Some.ensures.rest c.show.invariant.0) in
    (opened q (c.descent_law.ensures q)
    (subst (NextShown o c.args.bodies.now before now c.pop.new.self) (ap (shown_as c.in-Some.node.now.bounds) c.in-Inner.is) p)).left_is

pub wait_both-requires-clause-right : goal.wait_both-requires-clause-right
wait_both-requires-clause-right g c =
    let q = Region c.node.result.now.bounds in
    let o = c.args.nodes.now in
    let before = g.V.Visitor.saw c.args.visitor.now in
    let now = g.V.Visitor.saw c.show.visitor in
    let p = popped o c.args.bodies.now c.pop.new.self (shown c.in-Some.node.now) (subst (Shows o c.args.bodies.now before now) c.in-Some.ensures.rest c.show.invariant.0) in
    (opened q (c.descent_law.ensures q)
    (subst (NextShown o c.args.bodies.now before now c.pop.new.self) (ap (shown_as c.in-Some.node.now.bounds) c.in-Inner.is) p)).right_is

pub show-smaller-in-Inner : goal.show-smaller-in-Inner
show-smaller-in-Inner g c =
    let q = Region c.node.result.now.bounds in
    let o = c.args.nodes.now in
    let before = g.V.Visitor.saw c.args.visitor.now in
    let now = g.V.Visitor.saw c.show.visitor in
    let p = popped o c.args.bodies.now c.pop.new.self (shown c.in-Some.node.now) (subst (Shows o c.args.bodies.now before now) c.in-Some.ensures.rest c.show.invariant.0) in
    let node = ap (shown_as c.in-Some.node.now.bounds) c.in-Inner.is in
    let opens = opened q (c.descent_law.ensures q) (subst (NextShown o c.args.bodies.now before now c.pop.new.self) node p) in
    let all = ap weights c.in-Some.ensures.rest ∙ weights_push c.pop.new.self (shown c.in-Some.node.now) ∙ ap (λ v. weights c.pop.new.self + weight v) node in
    let left = opens.left_lighter in
    let right = opens.right_lighter in
    ⊎_elim (λ e. let l = ap weights e in omega arith) (λ e. let l = ap weights e in omega arith) c.wait_both.ensures

pub show-preserved-in-Inner : goal.show-preserved-in-Inner
show-preserved-in-Inner g c =
    let q = Region c.node.result.now.bounds in
    let o = c.args.nodes.now in
    let before = g.V.Visitor.saw c.args.visitor.now in
    let now = g.V.Visitor.saw c.show.visitor in
    let p = popped o c.args.bodies.now c.pop.new.self (shown c.in-Some.node.now) (subst (Shows o c.args.bodies.now before now) c.in-Some.ensures.rest c.show.invariant.0) in
    let opens = opened q (c.descent_law.ensures q)
    (subst (NextShown o c.args.bodies.now before now c.pop.new.self) (ap (shown_as c.in-Some.node.now.bounds) c.in-Inner.is) p) in
    let next = ⊎_elim (λ e. subst (Shows o c.args.bodies.now before now) (sym e) opens.left_first)
    (λ e. subst (Shows o c.args.bodies.now before now) (sym e) opens.right_first) c.wait_both.ensures in
    (next, c.show.invariant.1)

pub show-smaller : goal.show-smaller
show-smaller g c =
    let all = ap weights c.in-Some.ensures.rest ∙ weights_push c.pop.new.self (shown c.in-Some.node.now) in
    let some = some_node (shown c.in-Some.node.now) in
    omega arith

pub show-preserved : goal.show-preserved
show-preserved g c =
    let q = Region c.node.result.now.bounds in
    let o = c.args.nodes.now in
    let before = g.V.Visitor.saw c.args.visitor.now in
    let now = g.V.Visitor.saw c.show.visitor in
    let p = popped o c.args.bodies.now c.pop.new.self (shown c.in-Some.node.now) (subst (Shows o c.args.bodies.now before now) c.in-Some.ensures.rest c.show.invariant.0) in
    let next = kept_out c.box_laws.ensures.chain q (c.descent_law.ensures q) c.in-Some.node.now.bounds c.in-Some.node.now.role p
    (c.admits.ensures.passed c.if-admits.false) in
    (next, c.show.invariant.1)

pub returns-clause-seen : goal.returns-clause-seen
returns-clause-seen g c =
    let o = c.args.nodes.now in
    let before = g.V.Visitor.saw c.args.visitor.now in
    let now = g.V.Visitor.saw c.show.visitor in
    ended (subst (Shows o c.args.bodies.now before now)
    (c.pop.ensures.rest ∙ none_left (λ n. shown n.now) c.pop.new.self c.pop.result c.in_default.is (c.pop.ensures.ended c.in_default.is)) c.show.invariant.0)
    (g.met.V.Visitor.any_order c.show.visitor)
