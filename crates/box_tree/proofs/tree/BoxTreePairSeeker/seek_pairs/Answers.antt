-- A search of some slots finds their pairs.
use Rattle.box_tree.proofs.SharedSlots.{finds_viewed, finds_settled}
use Rattle.box_tree.proofs.tree.BoxTreePairSeeker.seek_pairs.Goals as goal

pub returns : goal.returns
returns c =
    let s = c.self.inside in
    finds_settled c.args.self.now c.args.slots.now c.search_run.new.found.pairs.items c.settle_pairs.new.pairs.items c.in_ok-cost.cost
    c.settle_pairs.ensures.members
    (finds_viewed s.boxes.tree s.boxes.bodies s.boxes.fats c.kept_law.ensures.kept s.marks c.args.self.now s.looked c.self.view_is
    c.holding_laws.ensures.reach c.keeping_laws.ensures.touched c.args.slots.now c.new-found.result.pairs.items
    c.search_run.new.found.pairs.items c.in_ok-cost.cost c.new-found.ensures c.in_ok-cost.ensures.ok c.in_ok-cost.ensures.count)
