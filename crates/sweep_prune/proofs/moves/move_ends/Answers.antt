-- The end that leaves the old interval walks first, whichever it is.
use Rattle.std.proofs.Common.{◌≡◌, ◌+◌, ◌-◌, ◌*◌, ◌/◌, ℕ, get_or, sym, ◌∙◌, arith, subst}
use Rattle.std.proofs.lemmas.Result.{on_ok_weaker}
use Rattle.sweep_prune.proofs.WalkLemmas.{on_ok_two}
use Rattle.sweep_prune.specs.Places.{on}
use Rattle.sweep_prune.specs.Walks.{MayMoveTwo, MovedTwo}
use Rattle.sweep_prune.proofs.MoveLemmas.{minimum_first, maximum_first, moved_down, turned, turned_two}
use Rattle.sweep_prune.proofs.moves.move_ends.Goals as goal

half : (slot : ℕ) → slot ≡ 2 * slot / 2
half slot = omega arith

half_up : (slot : ℕ) → slot ≡ (2 * slot + 1) / 2
half_up slot = omega arith

pub rekey_two-requires-clause-ready : goal.rekey_two-requires-clause-ready
rekey_two-requires-clause-ready c =
    subst (λ (s : ℕ). MayMoveTwo (λ n. get_or c.args.keys.now n 0) s (2 * c.args.slot) (2 * c.args.slot + 1) c.args.lo c.args.hi
    (on c.args.axis c.args.core.now.lists)) (half c.args.slot)
    (minimum_first (λ n. get_or c.args.keys.now n 0) c.args.slot c.args.lo c.args.hi
    (on c.args.axis c.args.core.now.lists) c.requires.ready c.if-lo-keys.true)

pub rekey_two-requires-else-lo-keys-clause-ready : goal.rekey_two-requires-else-lo-keys-clause-ready
rekey_two-requires-else-lo-keys-clause-ready c =
    subst (λ (s : ℕ). MayMoveTwo (λ n. get_or c.args.keys.now n 0) s (2 * c.args.slot + 1) (2 * c.args.slot) c.args.hi c.args.lo
    (on c.args.axis c.args.core.now.lists)) (half_up c.args.slot)
    (maximum_first (λ n. get_or c.args.keys.now n 0) c.args.slot c.args.lo c.args.hi
    (on c.args.axis c.args.core.now.lists) c.requires.ready c.if-lo-keys.false)

pub returns-then-lo-keys-clause-moved : goal.returns-then-lo-keys-clause-moved
returns-then-lo-keys-clause-moved c =
    on_ok_two c.rekey_two.result
    (λ k b. moved_down c.args.keys.now c.rekey_two.new.keys c.args.slot c.args.lo c.args.hi _ _ _ (omega (arith, c.requires.keys, c.requires.slot)) k
    (subst (λ (s : ℕ). MovedTwo (λ n. get_or c.args.keys.now n 0) (λ n. get_or c.rekey_two.new.keys n 0) s (2 * c.args.slot)
    (2 * c.args.slot + 1) c.args.lo c.args.hi (on c.args.axis c.args.core.now.lists) (on c.args.axis c.rekey_two.new.core.lists)
    (c.rekey_two.new.core.exchanged - c.args.core.now.exchanged)) (sym (half c.args.slot)) b))
    c.rekey_two.ensures.keys c.rekey_two.ensures.both

pub returns-else-lo-keys-clause-keys : goal.returns-else-lo-keys-clause-keys
returns-else-lo-keys-clause-keys c = on_ok_weaker c.rekey_two-else-lo-keys.result
    (λ k. k ∙ turned c.args.keys.now c.args.slot c.args.lo c.args.hi) c.rekey_two-else-lo-keys.ensures.keys

pub returns-else-lo-keys-clause-moved : goal.returns-else-lo-keys-clause-moved
returns-else-lo-keys-clause-moved c =
    on_ok_two c.rekey_two-else-lo-keys.result
    (λ k b. moved_down c.args.keys.now c.rekey_two-else-lo-keys.new.keys c.args.slot c.args.lo c.args.hi _ _ _
    (omega (arith, c.requires.keys, c.requires.slot)) (k ∙ turned c.args.keys.now c.args.slot c.args.lo c.args.hi)
    (turned_two _ _ _ _ _ _ _ _ _ _ (subst (λ (s : ℕ). MovedTwo (λ n. get_or c.args.keys.now n 0)
    (λ n. get_or c.rekey_two-else-lo-keys.new.keys n 0) s (2 * c.args.slot + 1) (2 * c.args.slot) c.args.hi c.args.lo
    (on c.args.axis c.args.core.now.lists) (on c.args.axis c.rekey_two-else-lo-keys.new.core.lists)
    (c.rekey_two-else-lo-keys.new.core.exchanged - c.args.core.now.exchanged)) (sym (half_up c.args.slot)) b)))
    c.rekey_two-else-lo-keys.ensures.keys c.rekey_two-else-lo-keys.ensures.both
