-- The bytes of the verb are the first word.
use Rattle.std.proofs.Common.{◌≡◌, get_or, refl, arith, rules, codes}
use Rattle.scene_words.specs.declared.verb.Verb.TheVariants as verb
use Rattle.scene_words.specs.declared.version.Version.TheVariants.{Two}
use Rattle.scene_words.specs.SceneWords.{cast_of, near_of}
use Rattle.scene_words.proofs.WordFronts.{verb_line}
use Rattle.scene_words.proofs.one_pass.newer_ahead.Goals as goal

pub returns-in-99-clause-command : goal.returns-in-99-clause-command
returns-in-99-clause-command c =
    let b0 : get_or c.args.line.now 0 0 ≡ 99 = search rules in
    let b1 : get_or c.args.line.now 1 0 ≡ 97 = search rules in
    let b2 : get_or c.args.line.now 2 0 ≡ 115 = search rules in
    let b3 : get_or c.args.line.now 3 0 ≡ 116 = search rules in
    let h = c.cast_ahead.ensures in
    verb_line Two c.args.line.now _ (codes "cast") verb.Cast cast_of c.cast_ahead.result (omega arith) refl (omega arith)
    (b0, (b1, (b2, (b3, tt))))
    refl refl refl (λ _. refl) h.ends h.allowed h.command

pub returns-in-110-clause-command : goal.returns-in-110-clause-command
returns-in-110-clause-command c =
    let b0 : get_or c.args.line.now 0 0 ≡ 110 = search rules in
    let b1 : get_or c.args.line.now 1 0 ≡ 101 = search rules in
    let b2 : get_or c.args.line.now 2 0 ≡ 97 = search rules in
    let b3 : get_or c.args.line.now 3 0 ≡ 114 = search rules in
    let h = c.near_ahead.ensures in
    verb_line Two c.args.line.now _ (codes "near") verb.Near near_of c.near_ahead.result (omega arith) refl (omega arith)
    (b0, (b1, (b2, (b3, tt))))
    refl refl refl (λ _. refl) h.ends h.allowed h.command
