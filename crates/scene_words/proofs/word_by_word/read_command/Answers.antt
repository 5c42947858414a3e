-- The bytes of the verb are the first word of a line that is read in one pass.
use Rattle.std.proofs.Common.{◌≡◌, get_or, refl, arith, rules, codes, Some}
use Rattle.scene_words.specs.declared.verb.Verb.TheVariants as verb
use Rattle.scene_words.specs.SceneWords.{move_of, add_of}
use Rattle.scene_words.proofs.WordFronts.{verb_line}
use Rattle.scene_words.proofs.word_by_word.read_command.Goals as goal

pub returns-clause-command : goal.returns-clause-command
returns-clause-command c =
    let b0 : get_or c.args.line.now 0 0 ≡ 109 = search rules in
    let b1 : get_or c.args.line.now 1 0 ≡ 111 = search rules in
    let b2 : get_or c.args.line.now 2 0 ≡ 118 = search rules in
    let b3 : get_or c.args.line.now 3 0 ≡ 101 = search rules in
    let h = c.in-Some.ensures in
    let said = verb_line c.args.version c.args.line.now _ (codes "move") verb.Move move_of (Some _) (omega arith) refl (omega arith)
    (b0, (b1, (b2, (b3, tt))))
    refl refl refl (λ _. refl) h.ends h.allowed h.command in
    search rules

pub returns-2-clause-command : goal.returns-2-clause-command
returns-2-clause-command c =
    let b0 : get_or c.args.line.now 0 0 ≡ 97 = search rules in
    let b1 : get_or c.args.line.now 1 0 ≡ 100 = search rules in
    let b2 : get_or c.args.line.now 2 0 ≡ 100 = search rules in
    let h = c.in-Some-add_ahead.ensures in
    let said = verb_line c.args.version c.args.line.now _ (codes "add") verb.Add (add_of c.args.version) (Some _) (omega arith) refl (omega arith)
    (b0, (b1, (b2, tt)))
    refl refl refl (λ _. refl) h.ends h.allowed h.command in
    search rules
