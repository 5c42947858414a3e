-- Where as many marks are older, the newest stays behind what is left of those.
use Rattle.std.proofs.Common.{◌≤◌, length, drop, ap, ◌∙◌, arith}
use Rattle.world_marks.proofs.Newest.{forgotten_first}
use Rattle.world_marks.proofs.marks.Marks.forget.Goals as goal

pub returns-then-count-len-clause-forgotten : goal.returns-then-count-len-clause-forgotten
returns-then-count-len-clause-forgotten c gone =
    let older = c.self.inside.older in
    let few : c.args.count ≤ length older.items = omega (arith, older.ok.0, c.len.ensures, c.if-count-len.true) in
    forgotten_first c.args.count older.items c.forget_first.new.older.items c.self.inside.newest few c.forget_first.ensures.left
    ∙ ap (λ v. drop c.args.count v.marks) c.self.view_is
