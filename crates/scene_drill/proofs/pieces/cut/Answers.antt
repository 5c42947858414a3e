-- A text without the byte stays whole, and one with it is cut at its place.
use Rattle.memchr.specs.Find.{is_byte}
use Rattle.scene_drill.proofs.Cutting.{uncut, cut_at}
use Rattle.scene_drill.proofs.pieces.cut.Goals as goal

pub returns-in_default-clause-before : goal.returns-in_default-clause-before
returns-in_default-clause-before c = (uncut (is_byte c.args.byte) c.args.text.now c.in_default.ensures).before

pub returns-in_default-clause-after : goal.returns-in_default-clause-after
returns-in_default-clause-after c = (uncut (is_byte c.args.byte) c.args.text.now c.in_default.ensures).after

pub returns-in_default-clause-pieces : goal.returns-in_default-clause-pieces
returns-in_default-clause-pieces c = (uncut (is_byte c.args.byte) c.args.text.now c.in_default.ensures).pieces

pub returns-clause-before : goal.returns-clause-before
returns-clause-before c =
    (cut_at (is_byte c.args.byte) c.args.text.now c.split_at.result.0.now c.split_at.result.1.now c.split_at-2.result.1.now c.in-Some.place
    c.in-Some.ensures.0 c.in-Some.ensures.1 c.split_at.ensures.front c.split_at.ensures.back c.split_at-2.ensures.back).before

pub returns-clause-after : goal.returns-clause-after
returns-clause-after c =
    (cut_at (is_byte c.args.byte) c.args.text.now c.split_at.result.0.now c.split_at.result.1.now c.split_at-2.result.1.now c.in-Some.place
    c.in-Some.ensures.0 c.in-Some.ensures.1 c.split_at.ensures.front c.split_at.ensures.back c.split_at-2.ensures.back).after

pub returns-clause-pieces : goal.returns-clause-pieces
returns-clause-pieces c =
    (cut_at (is_byte c.args.byte) c.args.text.now c.split_at.result.0.now c.split_at.result.1.now c.split_at-2.result.1.now c.in-Some.place
    c.in-Some.ensures.0 c.in-Some.ensures.1 c.split_at.ensures.front c.split_at.ensures.back c.split_at-2.ensures.back).pieces
