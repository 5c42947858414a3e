-- All were shown, and what is asked for stayed.
use Rattle.std.proofs.Common.{◌∙◌, [], sym, subst}
use Rattle.std.specs.FinMap.{entries}
use Rattle.near_boxes.specs.Search.{HasNearest}
use Rattle.near_boxes.proofs.Searched.{all_seen, none_seen}
use Rattle.near_boxes.proofs.descent.descend.Goals as goal

pub returns : goal.returns
returns g c =
    let bodies = g.T.Bodies.bodies c.args.bodies.now in
    let index = g.B.BroadPhase.bodies c.args.index.now in
    let to = c.args.to.now in
    let want = c.args.want in
    let v = c.visit.new.visitor in
    let es = entries index in
    let kept = c.in_ok-visit.ensures.kept in
    let start : HasNearest bodies to want c.args.nears.items [] = λ _. c.requires.empty ∙ sym (none_seen want) in
    let shown = c.in_ok-visit.ensures.seen [] start in
    all_seen to bodies index c.space_law.ensures c.requires.in_space c.requires.among want v.nears.items
    (subst (λ w. HasNearest bodies to w v.nears.items es) kept.2 (subst (λ a. HasNearest bodies a v.want v.nears.items es) kept.1
    (subst (λ b. HasNearest b v.to v.want v.nears.items es) kept.0 shown)))
