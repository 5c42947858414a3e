-- The box is shown that lies in the skin. A skin with no box is none.
use Rattle.std.proofs.Common.{◌∙◌, sym, arith}
use Rattle.std.proofs.lemmas.Result.{on_ok_weaker}
use Rattle.skin_index.proofs.Exacts.{one_shown, none_shown}
use Rattle.skin_index.proofs.exact_visitor.ExactVisitorVisitor.meet.Goals as goal

pub returns-in-Some-clause-seen : goal.returns-in-Some-clause-seen
returns-in-Some-clause-seen g c =
    let s = c.args.self.now in
    on_ok_weaker c.meet.result
    (one_shown s.bodies.now (g.V.Visitor.saw s.visitor.now) (g.V.Visitor.saw c.meet.new.self) c.args.slot c.args._skin.now (omega arith) c.in-Some.body
    (sym c.box_of.ensures ∙ c.in-Some.is)) c.meet.ensures.seen

pub returns-in-None-clause-seen : goal.returns-in-None-clause-seen
returns-in-None-clause-seen g c =
    let s = c.args.self.now in
    none_shown s.bodies.now (g.V.Visitor.saw s.visitor.now) (g.V.Visitor.saw s.visitor.now) c.args.slot c.args._skin.now (omega arith)
    (sym c.box_of.ensures ∙ c.in-None.is)
