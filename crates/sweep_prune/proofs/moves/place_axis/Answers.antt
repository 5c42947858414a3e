-- The slot's nodes stand last with keys above all, and walk from there.
use Rattle.std.proofs.Common.{◌≡◌, ◌+◌, ◌-◌, ◌*◌, ◌≤◌, take, drop, ◌++◌, length, get_or, set, length-set, ap, sym, subst, ◌∙◌, rules}
use Rattle.sweep_prune.proofs.WalkLemmas.{on_ok_two}
use Rattle.sweep_prune.specs.Places.{on}
use Rattle.sweep_prune.specs.Walks.{MayMove, Moved}
use Rattle.sweep_prune.specs.Keyed.{coord}
use Rattle.sweep_prune.specs.Sweep.{AxisAdded}
use Rattle.sweep_prune.proofs.AxisLemmas.{few, written_back}
use Rattle.sweep_prune.proofs.AddLemmas.{may_come, appended_short, axis_added}
use Rattle.sweep_prune.proofs.moves.place_axis.Goals as goal

pub move_ends-requires-clause-short : goal.move_ends-requires-clause-short
move_ends-requires-clause-short c =
    let r = c.requires.ready in
    subst (λ z. length z ≤ 16384) (sym r.4) (appended_short r.0 (coord c.args.axis) c.args.keys.now.items r.1 c.args.slot r.2 r.3 c.requires.slot)

pub move_ends-requires-clause-ready : goal.move_ends-requires-clause-ready
move_ends-requires-clause-ready c =
    let r = c.requires.ready in
    let is : c.deref_mut.result.now ≡ set (set c.args.keys.now.items (2 * c.args.slot) 18446744073709551614) (2 * c.args.slot + 1) 18446744073709551615 =
    c.deref_mut.ensures.value in
    subst (λ ks. MayMove (λ n. get_or ks n 0) c.args.slot c.key_numbers-lo.result.0 c.key_numbers-lo.result.1 (on c.args.axis c.args.core.now.lists)) (sym is)
    (subst (λ z. MayMove (λ n. get_or (set (set c.args.keys.now.items (2 * c.args.slot) 18446744073709551614) (2 * c.args.slot + 1) 18446744073709551615)
    n 0) c.args.slot c.key_numbers-lo.result.0 c.key_numbers-lo.result.1 z) (sym r.4)
    (may_come r.0 (coord c.args.axis) c.args.keys.now.items r.1 c.args.slot r.2 r.3 c.requires.slot c.args.body c.key_numbers-lo.result.0
    c.key_numbers-lo.result.1 c.key_numbers-lo.ensures))

pub returns-clause-bounded : goal.returns-clause-bounded
returns-clause-bounded c =
    let r = c.requires.ready in
    let was = on c.args.axis c.args.core.now.lists in
    let short = subst (λ z. length z ≤ 16384) (sym r.4) (appended_short r.0
    (coord c.args.axis) c.args.keys.now.items r.1 c.args.slot r.2 r.3 c.requires.slot) in
    on_ok_two c.move_ends.result (λ m up. few _ _ c.args.slot was (on c.args.axis c.move_ends.new.core.lists) c.args.core.now.exchanged
    c.move_ends.new.core.exchanged short m up) c.move_ends.ensures.moved c.move_ends.ensures.counted

pub returns-clause-added : goal.returns-clause-added
returns-clause-added c =
    on_ok_two c.move_ends.result
    (λ k m bodies l a absent at.
    let ks = c.args.keys.now.items in
    let mid = set (set ks (2 * c.args.slot) 18446744073709551614) (2 * c.args.slot + 1) 18446744073709551615 in
    let start : c.deref_mut.result.now ≡ mid = c.deref_mut.ensures.value in
    let is : c.move_ends.new.keys ≡ set (set mid (2 * c.args.slot) c.key_numbers-lo.result.0) (2 * c.args.slot + 1) c.key_numbers-lo.result.1 =
    k ∙ ap (λ l. set (set l (2 * c.args.slot) c.key_numbers-lo.result.0) (2 * c.args.slot + 1) c.key_numbers-lo.result.1) start in
    let mids : length mid ≡ length ks = length-set (set ks (2 * c.args.slot) 18446744073709551614) (2 * c.args.slot + 1) 18446744073709551615
    ∙ length-set ks (2 * c.args.slot) 18446744073709551614 in
    let same : length c.move_ends.new.keys ≡ length mid = ap length is
    ∙ length-set (set mid (2 * c.args.slot) c.key_numbers-lo.result.0) (2 * c.args.slot + 1) c.key_numbers-lo.result.1
    ∙ length-set mid (2 * c.args.slot) c.key_numbers-lo.result.0 in
    let full : length ks ≡ c.args.keys.now.len = search rules in
    let back : take c.args.keys.now.len (c.move_ends.new.keys ++ drop (length c.move_ends.new.keys) mid) ≡ c.move_ends.new.keys =
    written_back c.args.keys.now.len c.move_ends.new.keys mid (mids ∙ full) (same ∙ mids ∙ full) in
    subst (λ l. AxisAdded bodies c.args.slot c.args.body (coord c.args.axis) l (on c.args.axis c.move_ends.new.core.lists)
    (c.move_ends.new.core.exchanged - c.args.core.now.exchanged)) (sym back)
    (axis_added bodies (coord c.args.axis) ks l c.args.slot a absent c.requires.slot c.args.body c.move_ends.new.keys
    (on c.args.axis c.move_ends.new.core.lists) c.key_numbers-lo.result.0 c.key_numbers-lo.result.1 _ c.key_numbers-lo.ensures is
    (subst (λ z. Moved (λ n. get_or mid n 0) (λ n. get_or c.move_ends.new.keys n 0) c.args.slot z (on c.args.axis c.move_ends.new.core.lists)
    (c.move_ends.new.core.exchanged - c.args.core.now.exchanged)) at
    (subst (λ l. Moved (λ n. get_or l n 0) (λ n. get_or c.move_ends.new.keys n 0) c.args.slot (on c.args.axis c.args.core.now.lists)
    (on c.args.axis c.move_ends.new.core.lists) (c.move_ends.new.core.exchanged - c.args.core.now.exchanged)) start m))))
    c.move_ends.ensures.keys c.move_ends.ensures.moved
