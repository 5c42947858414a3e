-- A box that is farther than enough others, or isn't asked for, changes nothing, and another takes its place.
use Rattle.std.proofs.Common.{◌∙◌, is_some, not, take, refl, sym, ap}
use Rattle.std.proofs.lemmas.Result.{on_ok_weaker}
use Rattle.ordered_lists.specs.Ordered.{placed}
use Rattle.near_boxes.specs.Nearest.{near_cmp}
use Rattle.near_boxes.specs.Search.{is_passed}
use Rattle.near_boxes.proofs.Searched.{not_asked, passed_itself, took_place}
use Rattle.near_boxes.proofs.descent.NearestSearchVisitor.meet.Goals as goal

pub returns-then-is_passed : goal.returns-then-is_passed
returns-then-is_passed g c =
    let s = c.args.self.now in
    record {
      seen = passed_itself (g.T.Bodies.bodies s.bodies.now) s.to s.want s.nears.items (c.args.slot, c.args.body.now) c.square_apart-square.result
          c.square_apart-square.ensures.value
          (sym (ap (is_passed s.want c.square_apart-square.result) c.deref.ensures.value) ∙ sym c.is_passed.ensures ∙ c.if-is_passed.true)
          (c.box_laws.ensures.itself c.args.body.now);
      kept = (refl, refl, refl);
    }

pub returns-then-is_none : goal.returns-then-is_none
returns-then-is_none g c =
    let s = c.args.self.now in
    record {
      seen = not_asked (g.T.Bodies.bodies s.bodies.now) s.to s.want s.nears.items (c.args.slot, c.args.body.now)
          (sym (ap is_some c.body.ensures.body) ∙ c.is_none.ensures ∙ ap not c.if-is_none.true);
      kept = (refl, refl, refl);
    }

pub returns : goal.returns
returns g c =
    let s = c.args.self.now in
    record {
      seen = on_ok_weaker c.place.result
          (λ is. took_place (g.T.Bodies.bodies s.bodies.now) s.to s.want s.nears.items c.place.new.nears.items (c.args.slot, c.args.body.now)
          (sym (ap is_some c.body.ensures.body) ∙ c.is_none.ensures ∙ ap not c.if-is_none.false)
          (λ up. is up ∙ ap (λ q. take s.want (placed near_cmp (record { slot = c.args.slot; square = q }) s.nears.items)) c.square_apart-square.ensures.value)) c.place.ensures;
      kept = on_ok_weaker c.place.result (λ _. (refl, refl, refl)) c.place.ensures;
    }
