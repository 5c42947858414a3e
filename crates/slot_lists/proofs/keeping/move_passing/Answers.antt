-- An item that is read stands as it was, and is written no later than where it stood.
use mir.Val.{bool_byte}
use Rattle.std.proofs.Common.{ℕ, ◌≡◌, ◌≤◌, ◌<◌, ◌+◌, Bool, true, false, length, sym, ◌∙◌, arith}
use Rattle.std.proofs.lemmas.List.{length-set}
use Rattle.slot_lists.proofs.Written.{written}
use Rattle.slot_lists.proofs.keeping.move_passing.Goals as goal

one_more : (b : Bool) (n k i : ℕ) → n ≡ bool_byte b → k ≤ i → k + n ≤ i + 1
one_more true n k i e le = omega arith
one_more false n k i e le = omega arith

pub loop-at-preserved : goal.loop-at-preserved
loop-at-preserved g c =
    let i = c.loop-at.invariant in
    let within : c.loop-at.at < length c.loop-at.items = omega (arith, c.loop-at-test.true, i.long) in
    record {
      passed = λ test is.
          written test c.args.items.now c.loop-at.items c.loop-at.kept c.loop-at.at c.index-items-at.result c.passes.result c.from-kept.result
          (i.passed test is) within (sym (is _ c.passes.result c.passes.ensures)) c.index-items-at.is c.from-kept.ensures;
      behind = one_more c.passes.result c.from-kept.result c.loop-at.kept c.loop-at.at c.from-kept.ensures i.behind;
      long = length-set c.loop-at.items c.loop-at.kept c.index-items-at.result ∙ i.long;
    }
