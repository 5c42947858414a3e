-- A set without a slot has no pair to append, and past the last word there is none.
use Rattle.std.proofs.Common.{◌++◌, ◌*◌, ◌≤◌, ◌==◌, ℕ, Bool, ap, sym, ◌∙◌, append-nil, arith, length, get_or, ne_eqb}
use Rattle.std.proofs.lemmas.List.{get_or_past}
use Rattle.std.proofs.lemmas.Result.{on_ok_weaker}
use Rattle.overlap_count.specs.FullPairs.{pairs_with}
use Rattle.overlap_count.specs.SlotCounts.{bits_of}
use Rattle.overlap_count.proofs.PairLemmas.{is_in, pairs_none, pairs_upto}
use Rattle.overlap_count.proofs.SetLemmas.{length-bits_of, no_slot}
use Rattle.overlap_count.proofs.slot_set.SlotSet.push_pairs.Goals as goal

pub returns-then-self-eq0-clause-ok : goal.returns-then-self-eq0-clause-ok
returns-then-self-eq0-clause-ok c =
    let bits = c.args.self.now in
    let f : ℕ → Bool = λ b. get_or bits b 0 == 1 in
    sym (ap (λ l. c.args.out.now.items ++ l)
    (pairs_upto c.args.a f 0 8192 (omega arith)
    (λ k _. ne_eqb (get_or bits k 0) 1 (no_slot c.self.inside.words.items c.self.inside.number k bits c.self.invariant c.self.view_is c.if-self-eq0.true))
    ∙ pairs_none c.args.a f)
    ∙ append-nil c.args.out.now.items)

pub returns-clause-ok : goal.returns-clause-ok
returns-clause-ok c =
    let words = c.self.inside.words.items in
    let bits = c.args.self.now in
    let few : 64 * length words ≤ 8192 = omega (arith, c.self.invariant.few) in
    on_ok_weaker c.push_words.result
    (λ h. h
    ∙ ap (λ w. c.args.out.now.items ++ pairs_with c.args.a (is_in w) (64 * length w)) c.deref.ensures.value
    ∙ ap (λ l. c.args.out.now.items ++ l)
    (sym (pairs_upto c.args.a (is_in words) (64 * length words) 8192 few
    (λ k past. ne_eqb (get_or (bits_of words) k 0) 1
    (λ one. absurd (omega (arith, one, get_or_past (bits_of words) k 0 (omega (arith, length-bits_of words, past))))))))
    ∙ ap (λ l. c.args.out.now.items ++ pairs_with c.args.a (λ b. get_or l b 0 == 1) 8192) c.self.view_is)
    c.push_words.ensures.ok
