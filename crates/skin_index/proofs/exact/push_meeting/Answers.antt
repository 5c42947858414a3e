-- What stood before is followed by what is kept.
use Rattle.std.proofs.Common.{rules, arith, length, ◌≡◌, ◌∙◌}
use Rattle.skin_index.specs.Skins.{boxes_meet}
use Rattle.skin_index.proofs.Skins.{kept_behind}
use Rattle.skin_index.proofs.exact.push_meeting.Goals as goal

pub returns-clause-ok : goal.returns-clause-ok
returns-clause-ok c =
    let p = boxes_meet c.args.bodies.now in
    let out = c.args.out.now.items in
    let long : c.len-before.result ≡ length out = omega (arith, c.len-before.ensures) in
    c.keep_passing.ensures p (λ item r h. search rules)
    ∙ kept_behind p out c.args.pairs.now c.extend_from_slice.new.self.items c.len-before.result long c.in_ok-extend_from_slice.ensures.items
