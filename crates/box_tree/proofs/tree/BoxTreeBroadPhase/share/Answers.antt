-- The shared slots of the lists are those of the map.
use Rattle.std.proofs.Common.{◌≡◌, ◌∙◌, sym, subst, true}
use Rattle.std.specs.List.{All}
use Rattle.std.specs.FinMap.{contains_key}
use Rattle.box_tree.proofs.SharedSlots.{shared_viewed, present_viewed}
use Rattle.box_tree.proofs.tree.BoxTreeBroadPhase.share.Goals as goal

pub returns-clause-slots : goal.returns-clause-slots
returns-clause-slots c =
    let s = c.self.inside in
    c.in_ok-push_shared.ensures.ok ∙ shared_viewed s.boxes.tree s.boxes.bodies s.boxes.fats c.kept_law.ensures.kept s.marks c.args.self.now s.looked
    c.self.view_is

pub returns-clause-present : goal.returns-clause-present
returns-clause-present c =
    let s = c.self.inside in
    subst (λ l. All (λ slot. contains_key c.args.self.now.bodies slot ≡ true) l) (sym (returns-clause-slots c))
    (present_viewed s.boxes.tree s.boxes.bodies s.boxes.fats c.kept_law.ensures.kept s.marks c.args.self.now s.looked c.self.view_is)
