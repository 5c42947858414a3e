-- The bytes of the verb are the first word.
use Rattle.std.proofs.Common.{◌≡◌, get_or, refl, arith, rules, codes}
use Rattle.scene_words.specs.declared.verb.Verb.TheVariants as verb
use Rattle.scene_words.specs.SceneWords.{box_of, ray_of, seg_of, point_of}
use Rattle.scene_words.proofs.WordFronts.{verb_line}
use Rattle.scene_words.proofs.one_pass.query_ahead.Goals as goal

pub returns-in-98-clause-command : goal.returns-in-98-clause-command
returns-in-98-clause-command c =
    let b0 : get_or c.args.line.now 0 0 ≡ 98 = search rules in
    let b1 : get_or c.args.line.now 1 0 ≡ 111 = search rules in
    let b2 : get_or c.args.line.now 2 0 ≡ 120 = search rules in
    let h = c.box_ahead.ensures in
    verb_line c.args.version c.args.line.now _ (codes "box") verb.Box box_of c.box_ahead.result (omega arith) refl (omega arith)
    (b0, (b1, (b2, tt)))
    refl refl refl (λ _. refl) h.ends h.allowed h.command

pub returns-in-114-clause-command : goal.returns-in-114-clause-command
returns-in-114-clause-command c =
    let b0 : get_or c.args.line.now 0 0 ≡ 114 = search rules in
    let b1 : get_or c.args.line.now 1 0 ≡ 97 = search rules in
    let b2 : get_or c.args.line.now 2 0 ≡ 121 = search rules in
    let h = c.ray_ahead.ensures in
    verb_line c.args.version c.args.line.now _ (codes "ray") verb.Ray (ray_of c.args.version) c.ray_ahead.result (omega arith) refl (omega arith)
    (b0, (b1, (b2, tt)))
    refl refl refl (λ _. refl) h.ends h.allowed h.command

pub returns-in-115-clause-command : goal.returns-in-115-clause-command
returns-in-115-clause-command c =
    let b0 : get_or c.args.line.now 0 0 ≡ 115 = search rules in
    let b1 : get_or c.args.line.now 1 0 ≡ 101 = search rules in
    let b2 : get_or c.args.line.now 2 0 ≡ 103 = search rules in
    let h = c.seg_ahead.ensures in
    verb_line c.args.version c.args.line.now _ (codes "seg") verb.Seg seg_of c.seg_ahead.result (omega arith) refl (omega arith)
    (b0, (b1, (b2, tt)))
    refl refl refl (λ _. refl) h.ends h.allowed h.command

pub returns-in-112-clause-command : goal.returns-in-112-clause-command
returns-in-112-clause-command c =
    let b0 : get_or c.args.line.now 0 0 ≡ 112 = search rules in
    let b1 : get_or c.args.line.now 1 0 ≡ 111 = search rules in
    let b2 : get_or c.args.line.now 2 0 ≡ 105 = search rules in
    let b3 : get_or c.args.line.now 3 0 ≡ 110 = search rules in
    let b4 : get_or c.args.line.now 4 0 ≡ 116 = search rules in
    let h = c.point_query_ahead.ensures in
    verb_line c.args.version c.args.line.now _ (codes "point") verb.Point point_of c.point_query_ahead.result (omega arith) refl (omega arith)
    (b0, (b1, (b2, (b3, (b4, tt)))))
    refl refl refl (λ _. refl) h.ends h.allowed h.command
