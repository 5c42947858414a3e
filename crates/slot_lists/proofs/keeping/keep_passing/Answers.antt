-- What stood before is followed by what is kept.
use Rattle.std.proofs.Common.{◌≡◌, ◌+◌, ◌-◌, ◌++◌, length, take, drop, filter, ap, sym, ◌∙◌, arith, length-take}
use Rattle.std.proofs.lemmas.Grind.{common_steps}
use Rattle.std.proofs.Math.Seq.{take-append-add}
use Rattle.slot_lists.proofs.keeping.keep_passing.Goals as goal

pub returns : goal.returns
returns g c test is =
    let from = c.args.from in
    let old = c.args.items.now.items in
    let moved = c.move_passing-kept.new.items in
    let kept = c.move_passing-kept.result in
    let tail : take (length c.deref_mut.result.now - from) (drop from c.deref_mut.result.now) ≡ drop from old = grind (arith, common_steps) in
    let left : c.truncate.new.self.items ≡ take (from + kept) (take from old ++ moved) = grind (arith, common_steps) in
    let met : take kept moved ≡ filter test (drop from old) = c.move_passing-kept.ensures.passed test is ∙ ap (filter test) tail in
    let long : length (take from old) ≡ from = omega (arith, length-take from old) in
    left ∙ ap (λ n. take (n + kept) (take from old ++ moved)) (sym long) ∙ take-append-add (take from old) moved kept ∙ ap (λ l. take from old ++ l) met
