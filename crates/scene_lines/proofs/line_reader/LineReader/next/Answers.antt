-- The bytes held settle the answer whatever follows them, so what is said of their first line holds of all that come.
use Rattle.std.proofs.Common.{◌≡◌, ℕ, ◌<◌, ◌∙◌, ap, subst, length}
use Rattle.scene_lines.specs.Next.{answer_at, OnLine}
use Rattle.scene_lines.specs.Reading.{Reading, coming}
use Rattle.scene_lines.proofs.Settling.{Settles, Hands, OnLine-weaker, exact_answer, line_answer, rest_answer, first_answer, over_answer}
use Rattle.scene_lines.proofs.line_reader.LineReader.next.Given as given
use Rattle.scene_lines.proofs.line_reader.LineReader.next.Goals as goal

-- the bytes held settle the answer
settled : (g : given.Over) (c : goal.After-settle g) → Settles c.args.self.now.limit c.args.self.now.number c.seek.new.self.held c.seek.new.self.over
    (g.S.Source.left c.seek.new.source)
settled g c = record {
  enough = λ none going_on. subst (λ (most : ℕ). most < length c.seek.new.self.held) c.most_unsettled-most.ensures (c.in-Ok.ensures.settled none going_on);
  at_end = c.seek.ensures.at_end;
}

-- no byte that comes was lost
same : (g : given.Over) (c : goal.After-settle g) → coming c.seek.new.self.held (g.S.Source.left c.seek.new.source) ≡ coming c.args.self.now.held
    (g.S.Source.left c.args.source.now)
same g c = c.seek.ensures.coming ∙ ap (λ (r : Reading). coming r.held (g.S.Source.left c.args.source.now)) c.self.view_is

-- the answer is that at the bytes held
answer : (g : given.Over) (c : goal.After-settle g) → c.settle.result ≡ answer_at c.args.self.now.limit c.args.self.now.number c.seek.new.self.held
answer g c = c.settle.ensures.answer ∙ ap (λ (r : Reading). answer_at r.limit r.number c.seek.new.self.held) c.self.view_is

-- and a line is handed out of them
handed : (g : given.Over) (c : goal.After-settle g)
    → OnLine c.settle.result (Hands c.seek.new.self.held c.seek.new.self.over c.settle.new.self.line c.settle.new.self.held c.settle.new.self.over)
handed g c = OnLine-weaker c.settle.result _ _
    (λ is. record { line_is = ap (λ (r : Reading). r.line) is; rest_is = ap (λ (r : Reading). r.held) is; over_is = ap (λ (r : Reading). r.over) is })
    c.settle.ensures.line

pub returns-in-Ok-clause-exact : goal.returns-in-Ok-clause-exact
returns-in-Ok-clause-exact g c = exact_answer _ _ _ _ _ _ _ (settled g c) (same g c) (answer g c)

pub returns-in-Ok-clause-line : goal.returns-in-Ok-clause-line
returns-in-Ok-clause-line g c = line_answer _ _ _ _ _ _ _ _ _ _ (settled g c) (same g c) (answer g c) (handed g c)

pub returns-in-Ok-clause-rest : goal.returns-in-Ok-clause-rest
returns-in-Ok-clause-rest g c = rest_answer _ _ _ _ _ _ _ _ _ _ (settled g c) (same g c) (answer g c) (handed g c)

pub returns-in-Ok-clause-first : goal.returns-in-Ok-clause-first
returns-in-Ok-clause-first g c = first_answer _ _ _ _ _ _ _ _ _ _ (settled g c) (same g c) (answer g c) (handed g c)

pub returns-in-Ok-clause-last_at_end : goal.returns-in-Ok-clause-last_at_end
returns-in-Ok-clause-last_at_end g c = over_answer _ _ _ _ _ _ _ _ _ _ (settled g c) (same g c) (answer g c) (handed g c)
