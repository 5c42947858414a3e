-- What a group finds beside slots that are done was found before, so each group adds its pairs.
use Rattle.std.proofs.Common.{◌+◌, ◌∙◌, ◌++◌, length, ap, sym, refl}
use Rattle.tree_search.specs.Looked.{raised}
use Rattle.tree_search.specs.Exact.{exact_in}
use Rattle.tree_search.specs.Crossed.{crossed}
use Rattle.tree_search.specs.Group.{undone, all_below}
use Rattle.tree_search.specs.Reading.{IsListed}
use Rattle.tree_search.specs.Preorder.{preorder_in}
use Rattle.tree_search.proofs.Counts.{raised_none, raised_fits}
use Rattle.tree_search.proofs.Groups.{root_below, adds_none, visits_none, group_on, visits_on, group_visits}
use Rattle.tree_search.proofs.GroupsDone.{group_adds, group_done, none_marked, nothing_owed, own_front, own_back}
use Rattle.tree_search.proofs.Own.{exact_in_own}
use Rattle.tree_search.proofs.box_search.search_by_groups.Goals as goal

pub returns-in_default-clause-ok : goal.returns-in_default-clause-ok
returns-in_default-clause-ok c =
    adds_none c.args.boxes.now.tree c.args.boxes.now.bodies c.args.touched.now c.args.found.now.pairs.items (sym c.root.ensures ∙ c.in_default.is)

pub returns-in_default-clause-count : goal.returns-in_default-clause-count
returns-in_default-clause-count c =
    sym (ap (raised c.args.looked) (visits_none c.args.boxes.now.tree c.args.touched.now (sym c.root.ensures ∙ c.in_default.is))
    ∙ raised_none c.args.looked c.ranges.looked.fits)

pub groups-init : goal.groups-init
groups-init c =
    let all = exact_in c.args.boxes.now.bodies c.args.boxes.now.tree in
    record {
      found = λ p. refl;
      older = nothing_owed all c.args.done.now (none_marked c.args.done.now c.requires.none) c.args.found.now.pairs.items;
      own = c.requires.touched;
      count = refl;
      fits = c.ranges.looked.fits;
    }

pub search_group-requires-clause-list : goal.search_group-requires-clause-list
search_group-requires-clause-list c =
    let b = root_below c.box_law.ensures c.args.boxes.now.tree c.args.boxes.now.bodies c.in-Some._top (sym c.root.ensures ∙ c.in-Some.is)
    c.boxed_law.ensures.tree c.boxed_law.ensures.inside in (
      c.args.boxes.now.bodies,
      b.0,
      record { list_is = c.requires.list ∙ ap (preorder_in c.args.boxes.now.bodies) b.1; balanced = b.2.balanced; inside = b.2.inside },
    )

pub groups-preserved : goal.groups-preserved
groups-preserved c =
    let o = c.args.boxes.now.tree in
    let bs = c.args.boxes.now.bodies in
    let all = exact_in bs o in
    let group = c.split_at.result.0.now in
    let more = c.split_at.result.1.now in
    let rest = c.groups.rest.now in
    let found = c.groups.found.pairs.items in
    let now = c.search_group.new.found.items in
    let b = root_below c.box_law.ensures o bs c.in-Some._top (sym c.root.ensures ∙ c.in-Some.is) c.boxed_law.ensures.tree
    c.boxed_law.ensures.inside in
    let listed : IsListed bs b.0 c.args.preorder.now =
    record { list_is = c.requires.list ∙ ap (preorder_in bs) b.1; balanced = b.2.balanced; inside = b.2.inside } in
    let own = exact_in_own bs o in
    let parts = sym c.split_at.ensures.by_index.0 in
    let are = own_front bs group more rest parts c.groups.invariant.own in
    let e = c.in_ok-number.ensures.ok bs b.0 listed ∙ ap (λ u. found ++ crossed group (undone c.groups.done (exact_in bs u))) (sym b.1) in
    let adds = group_adds bs all c.boxed_law.ensures.held own c.box_law.ensures.either_way c.groups.done group are found now c.groups.invariant.older e in
    record {
      found = λ p. group_on all group more rest found now parts adds p ∙ c.groups.invariant.found p;
      older = group_done bs all c.boxed_law.ensures.held own c.box_law.ensures.either_way c.groups.done group are found now c.groups.invariant.older e
          c.set_done.new.done c.set_done.ensures;
      own = own_back bs group more rest parts c.groups.invariant.own;
      count = visits_on o group more rest c.groups.number c.in_ok-number.number parts
          (c.in_ok-number.ensures.count bs b.0 listed ∙ ap (raised c.groups.number) (sym (group_visits c.box_law.ensures o b.0 group b.1)))
          ∙ c.groups.invariant.count;
      fits = raised_fits c.groups.number c.in_ok-number.number (length group + all_below b.0 group) (c.in_ok-number.ensures.count bs b.0 listed);
    }
