-- The bytes of the verb are the first word.
use Rattle.std.proofs.Common.{◌≡◌, get_or, refl, arith, rules, codes, Ok}
use Rattle.scene_words.specs.declared.command.Command.TheVariants.{Frame}
use Rattle.scene_words.specs.declared.verb.Verb.TheVariants as verb
use Rattle.scene_words.specs.SceneWords.{mask_of, remove_of}
use Rattle.scene_words.proofs.WordFronts.{verb_line}
use Rattle.scene_words.proofs.one_pass.other_ahead.Goals as goal

pub returns-in-109-clause-command : goal.returns-in-109-clause-command
returns-in-109-clause-command c =
    let b0 : get_or c.args.line.now 0 0 ≡ 109 = search rules in
    let b1 : get_or c.args.line.now 1 0 ≡ 97 = search rules in
    let b2 : get_or c.args.line.now 2 0 ≡ 115 = search rules in
    let b3 : get_or c.args.line.now 3 0 ≡ 107 = search rules in
    let h = c.new_masks_ahead.ensures in
    verb_line c.args.version c.args.line.now _ (codes "mask") verb.Mask mask_of c.new_masks_ahead.result (omega arith) refl (omega arith)
    (b0, (b1, (b2, (b3, tt))))
    refl refl refl (λ _. refl) h.ends h.allowed h.command

pub returns-in-114-clause-command : goal.returns-in-114-clause-command
returns-in-114-clause-command c =
    let b0 : get_or c.args.line.now 0 0 ≡ 114 = search rules in
    let b1 : get_or c.args.line.now 1 0 ≡ 101 = search rules in
    let b2 : get_or c.args.line.now 2 0 ≡ 109 = search rules in
    let b3 : get_or c.args.line.now 3 0 ≡ 111 = search rules in
    let b4 : get_or c.args.line.now 4 0 ≡ 118 = search rules in
    let b5 : get_or c.args.line.now 5 0 ≡ 101 = search rules in
    let h = c.remove_ahead.ensures in
    verb_line c.args.version c.args.line.now _ (codes "remove") verb.Remove remove_of c.remove_ahead.result (omega arith) refl (omega arith)
    (b0, (b1, (b2, (b3, (b4, (b5, tt))))))
    refl refl refl (λ _. refl) h.ends h.allowed h.command

pub returns-in-102-clause-command : goal.returns-in-102-clause-command
returns-in-102-clause-command c =
    let b0 : get_or c.args.line.now 0 0 ≡ 102 = search rules in
    let b1 : get_or c.args.line.now 1 0 ≡ 114 = search rules in
    let b2 : get_or c.args.line.now 2 0 ≡ 97 = search rules in
    let b3 : get_or c.args.line.now 3 0 ≡ 109 = search rules in
    let b4 : get_or c.args.line.now 4 0 ≡ 101 = search rules in
    let h = c.frame_ahead.ensures in
    verb_line c.args.version c.args.line.now _ (codes "frame") verb.Frame (λ _. Ok Frame) c.frame_ahead.result (omega arith) refl (omega arith)
    (b0, (b1, (b2, (b3, (b4, tt)))))
    refl refl refl (λ _. refl) h.ends h.allowed h.command
