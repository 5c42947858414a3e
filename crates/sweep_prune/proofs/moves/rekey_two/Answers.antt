-- After the first walk the second may begin, and both pass what lies between their old keys and their new ones.
use Rattle.std.proofs.Common.{◌/◌, ap, ◌∙◌, arith}
use Rattle.std.proofs.lemmas.Result.{on_ok_weaker}
use Rattle.sweep_prune.specs.declared.lists.Lists.{Lists}
use Rattle.sweep_prune.specs.Places.{on, with_on}
use Rattle.sweep_prune.proofs.WalkLemmas.{with_with, on_ok_two}
use Rattle.sweep_prune.proofs.MoveLemmas.{free_first, halfway, rekeyed_two}
use Rattle.sweep_prune.proofs.moves.rekey_two.Goals as goal

pub rekey-requires-clause-free : goal.rekey-requires-clause-free
rekey-requires-clause-free c = free_first _ _ _ _ _ _ _ c.requires.ready

pub rekey-requires-2-clause-rising : goal.rekey-requires-2-clause-rising
rekey-requires-2-clause-rising c =
    let h = halfway c.args.keys.now c.rekey.new.keys (c.args.first.0 / 2) c.args.first.0 c.args.second.0 c.args.first.1 c.args.second.1 _ _ _
    (omega (arith, c.requires.keys, c.requires.first)) c.requires.ready c.in_ok-rekey.ensures.keys c.in_ok-rekey.ensures.rekeyed in
    h.rising

pub rekey-requires-2-clause-present : goal.rekey-requires-2-clause-present
rekey-requires-2-clause-present c =
    let h = halfway c.args.keys.now c.rekey.new.keys (c.args.first.0 / 2) c.args.first.0 c.args.second.0 c.args.first.1 c.args.second.1 _ _ _
    (omega (arith, c.requires.keys, c.requires.first)) c.requires.ready c.in_ok-rekey.ensures.keys c.in_ok-rekey.ensures.rekeyed in
    h.present

pub rekey-requires-2-clause-free : goal.rekey-requires-2-clause-free
rekey-requires-2-clause-free c =
    let h = halfway c.args.keys.now c.rekey.new.keys (c.args.first.0 / 2) c.args.first.0 c.args.second.0 c.args.first.1 c.args.second.1 _ _ _
    (omega (arith, c.requires.keys, c.requires.first)) c.requires.ready c.in_ok-rekey.ensures.keys c.in_ok-rekey.ensures.rekeyed in
    h.free

pub rekey-requires-2-clause-countable : goal.rekey-requires-2-clause-countable
rekey-requires-2-clause-countable c =
    let h = halfway c.args.keys.now c.rekey.new.keys (c.args.first.0 / 2) c.args.first.0 c.args.second.0 c.args.first.1 c.args.second.1 _ _ _
    (omega (arith, c.requires.keys, c.requires.first)) c.requires.ready c.in_ok-rekey.ensures.keys c.in_ok-rekey.ensures.rekeyed in
    let x = h.short in
    let y = h.steps in
    omega (arith, c.requires.countable, c.requires.short, c.in_ok-rekey.ensures.counted)

pub returns-clause-both : goal.returns-clause-both
returns-clause-both c =
    on_ok_two c.rekey-2.result
    (λ k q. rekeyed_two c.args.keys.now c.rekey.new.keys _ (c.args.first.0 / 2) c.args.first.0 c.args.second.0 c.args.first.1 c.args.second.1 _ _ _ _ _ _
    (omega (arith, c.requires.keys, c.requires.first)) (omega (arith, c.requires.keys, c.requires.second)) c.requires.ready c.in_ok-rekey.ensures.keys
    c.rekey-2.ensures.keys c.in_ok-rekey.ensures.rekeyed q
    (omega (arith, c.in_ok-rekey.ensures.counted, k)))
    c.rekey-2.ensures.counted c.rekey-2.ensures.rekeyed

pub returns-clause-counted : goal.returns-clause-counted
returns-clause-counted c = on_ok_weaker c.rekey-2.result (λ k. omega (arith, k, c.in_ok-rekey.ensures.counted)) c.rekey-2.ensures.counted

pub returns-clause-others : goal.returns-clause-others
returns-clause-others c = on_ok_weaker c.rekey-2.result
    (λ o. o ∙ ap (λ (ls : Lists). with_on c.args.axis (on c.args.axis c.rekey-2.new.core.lists) ls) c.in_ok-rekey.ensures.others
    ∙ with_with c.args.axis _ _ c.args.core.now.lists)
    c.rekey-2.ensures.others
