-- one more item is answered
use Rattle.std.proofs.Common.{◌≡◌, ◌∷◌, subst, refl, rules}
use Rattle.work_pieces.specs.Each.{Accepts, Gives}
use Rattle.work_pieces.proofs.PutTogether.{next_item, all_rest, all_done}
use Rattle.work_pieces.proofs.pieces.answers_of.Goals as goal

pub items-preserved : goal.items-preserved
items-preserved g c =
    let next : c.items.rest.now ≡ c.in-Some.item.now ∷ c.in-Some.more.now = search rules in
    let met = subst (λ r. g.F.Fn.post c.args.answer.now (c.in-Some.item, tt) r) c.in_ok-answer.was c.answer.ensures in (
      all_rest (Accepts g.F.Fn c.args.answer.now) c.items.rest.now c.in-Some.more.now c.in-Some.item.now next c.items.invariant.0,
      next_item (Gives g.F.Fn c.args.answer.now) c.args.items.now c.items.rest.now c.in-Some.more.now c.in-Some.item.now
          c.items.answers.items c.push.new.self.items c.in_ok-answer.field-0 next
          (record { shown = c.in-Some.item; shows = refl; says = record { met = met } })
          c.in_ok-push.ensures.items c.items.invariant.1,
    )

pub returns : goal.returns
returns g c =
    all_done (Gives g.F.Fn c.args.answer.now) c.args.items.now c.items.rest.now c.items.answers.items c.in_default.ensures.cases c.items.invariant.1
