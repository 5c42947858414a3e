-- The keys beside the nodes are those of the new box afterwards.
use Rattle.std.proofs.Common.{◌≡◌, ◌+◌, ◌-◌, ◌*◌, take, drop, ◌++◌, length, get_or, set, length-set, ap, sym, subst, ◌∙◌, rules}
use Rattle.sweep_prune.proofs.WalkLemmas.{on_ok_two}
use Rattle.sweep_prune.specs.Places.{on}
use Rattle.sweep_prune.specs.Walks.{MayMove, Moved}
use Rattle.sweep_prune.specs.Keyed.{coord}
use Rattle.sweep_prune.specs.Sweep.{AxisMoved}
use Rattle.sweep_prune.proofs.AxisLemmas.{may_move, few, axis_moved, written_back}
use Rattle.sweep_prune.proofs.moves.move_axis.Goals as goal

pub move_ends-requires-clause-ready : goal.move_ends-requires-clause-ready
move_ends-requires-clause-ready c =
    let r = c.requires.ready in
    subst (λ ks. MayMove (λ n. get_or ks n 0) c.args.slot c.key_numbers-lo.result.0 c.key_numbers-lo.result.1 (on c.args.axis c.args.core.now.lists))
    (sym c.deref_mut.ensures.value)
    (may_move r.0 (coord c.args.axis) c.args.keys.now.items (on c.args.axis c.args.core.now.lists) c.args.slot c.args.body c.key_numbers-lo.result.0
    c.key_numbers-lo.result.1 r.1 r.2 c.key_numbers-lo.ensures)

pub returns-clause-moved : goal.returns-clause-moved
returns-clause-moved c =
    on_ok_two c.move_ends.result
    (λ k m bodies was a g.
    let ks = c.args.keys.now.items in
    let is : c.move_ends.new.keys ≡ set (set ks (2 * c.args.slot) c.key_numbers-lo.result.0) (2 * c.args.slot + 1) c.key_numbers-lo.result.1 =
    k ∙ ap (λ l. set (set l (2 * c.args.slot) c.key_numbers-lo.result.0) (2 * c.args.slot + 1) c.key_numbers-lo.result.1) c.deref_mut.ensures.value in
    let same : length c.move_ends.new.keys ≡ length ks = ap length is
    ∙ length-set (set ks (2 * c.args.slot) c.key_numbers-lo.result.0) (2 * c.args.slot + 1) c.key_numbers-lo.result.1
    ∙ length-set ks (2 * c.args.slot) c.key_numbers-lo.result.0 in
    let full : length ks ≡ c.args.keys.now.len = search rules in
    let back : take c.args.keys.now.len (c.move_ends.new.keys ++ drop (length c.move_ends.new.keys) ks) ≡ c.move_ends.new.keys =
    written_back c.args.keys.now.len c.move_ends.new.keys ks full (same ∙ full) in
    subst (λ l. AxisMoved bodies c.args.slot was c.args.body (coord c.args.axis) l (on c.args.axis c.move_ends.new.core.lists)
    (c.move_ends.new.core.exchanged - c.args.core.now.exchanged)) (sym back)
    (axis_moved bodies (coord c.args.axis) ks c.move_ends.new.keys (on c.args.axis c.args.core.now.lists)
    (on c.args.axis c.move_ends.new.core.lists) c.args.slot was c.args.body c.key_numbers-lo.result.0 c.key_numbers-lo.result.1 _ a g
    c.key_numbers-lo.ensures is
    (subst (λ l. Moved (λ n. get_or l n 0) (λ n. get_or c.move_ends.new.keys n 0) c.args.slot (on c.args.axis c.args.core.now.lists)
    (on c.args.axis c.move_ends.new.core.lists) (c.move_ends.new.core.exchanged - c.args.core.now.exchanged)) c.deref_mut.ensures.value m)))
    c.move_ends.ensures.keys c.move_ends.ensures.moved

pub returns-clause-bounded : goal.returns-clause-bounded
returns-clause-bounded c =
    let was = on c.args.axis c.args.core.now.lists in
    let short = c.requires.ready.1.short in
    on_ok_two c.move_ends.result (λ m up. few _ _ c.args.slot was (on c.args.axis c.move_ends.new.core.lists) c.args.core.now.exchanged
    c.move_ends.new.core.exchanged short m up) c.move_ends.ensures.moved c.move_ends.ensures.counted
