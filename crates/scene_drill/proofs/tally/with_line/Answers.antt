-- Each branch knows the first word of the line.
use Rattle.std.proofs.Common.{rules, ap, ◌∙◌}
use Rattle.scene_drill.specs.Summary.{first_word, later_words, number}
use Rattle.scene_drill.proofs.Tallies.{stay_line, begin_line, over_line, add_line, frame_line, exchanges_line, answer_line, other_line}
use Rattle.scene_drill.proofs.tally.with_line.Goals as goal

pub returns-then-eq : goal.returns-then-eq
returns-then-eq c = stay_line c.args.tally c.args.line.now (search rules)

pub returns-then-eq-2 : goal.returns-then-eq-2
returns-then-eq-2 c = begin_line c.args.tally c.args.line.now (search rules)

pub returns-then-eq-3 : goal.returns-then-eq-3
returns-then-eq-3 c = over_line c.args.tally c.args.line.now (search rules)

pub returns-then-eq-4 : goal.returns-then-eq-4
returns-then-eq-4 c =
    frame_line c.args.tally c.args.line.now c.number.result (search rules)
    (c.number.ensures.value ∙ ap number (c.first_word-then-eq-4-2.ensures.first
    ∙ ap first_word (c.first_word-then-eq-4.ensures.later ∙ ap later_words c.first_word.ensures.later)))

pub returns-then-eq-5 : goal.returns-then-eq-5
returns-then-eq-5 c =
    exchanges_line c.args.tally c.args.line.now c.number-then-eq-5.result (search rules)
    (c.number-then-eq-5.ensures.value ∙ ap number (c.first_word-then-eq-5.ensures.first ∙ ap first_word c.first_word.ensures.later))

pub returns-then-eq-6 : goal.returns-then-eq-6
returns-then-eq-6 c = add_line c.args.tally c.args.line.now (search rules)

pub returns-then-is_answer_word : goal.returns-then-is_answer_word
returns-then-is_answer_word c =
    answer_line c.args.tally c.args.line.now c.number-then-is_answer_word.result (search rules) (search rules)
    (c.number-then-is_answer_word.ensures.value ∙ ap number (c.first_word-then-is_answer_word.ensures.first ∙ ap first_word c.first_word.ensures.later))

pub returns-else-is_answer_word : goal.returns-else-is_answer_word
returns-else-is_answer_word c = other_line c.args.tally c.args.line.now (search rules) (search rules)
