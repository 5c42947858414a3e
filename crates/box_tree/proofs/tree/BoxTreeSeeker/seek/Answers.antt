-- What the descent reaches is what the map has.
use Rattle.box_tree.proofs.Searching.{reached_viewed, cost_viewed}
use Rattle.box_tree.proofs.tree.BoxTreeSeeker.seek.Goals as goal

pub returns-clause-ok : goal.returns-clause-ok
returns-clause-ok c =
    let s = c.self.inside in
    c.in_ok-push_rising_slots.ensures.reach c.args.self.now.bodies c.args.slot
    (reached_viewed s.boxes.tree s.boxes.bodies s.boxes.fats c.kept_law.ensures.kept s.marks c.args.self.now s.looked
    c.self.view_is c.holding_laws.ensures.reach c.args.slot c.reach.new.out.items c.in_ok-count.ensures.ok)

pub returns-clause-cost : goal.returns-clause-cost
returns-clause-cost c =
    let s = c.self.inside in
    cost_viewed s.boxes.tree s.boxes.bodies s.boxes.fats c.kept_law.ensures.kept s.marks c.args.self.now s.looked
    c.self.view_is c.args.slot c.in_ok-count.count c.in_ok-count.ensures.count
