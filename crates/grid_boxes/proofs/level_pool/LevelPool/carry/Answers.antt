-- The free place is at the rim of its level, and passes into the next.
use Rattle.std.proofs.Common.{◌≡◌, ◌+◌, ◌-◌, ◌<◌, suc, ap, sym, ◌∙◌, subst, arith, length, get_or}
use Rattle.std.proofs.lemmas.List.{get_or_read}
use Rattle.cell_table.specs.declared.TheConstants.{LEVELS}
use Rattle.grid_boxes.specs.Leveled.{HasHole, Pool, start_of}
use Rattle.grid_boxes.proofs.PoolLemmas.{end_before, lowered, raised}
use Rattle.grid_boxes.proofs.level_pool.LevelPool.carry.Goals as goal

pub up-preserved : goal.up-preserved
up-preserved c =
    let s = c.self-in-up.inside in
    let pool : Pool = record { listed = s.columns; places = s.places.items; starts = s.starts.items } in
    let first = c.index-first.result.now in
    let same : s.starts.items ≡ c.up.self.starts = ap (λ p. p.starts) c.self-in-up.view_is ∙ c.hand_on.ensures.starts in
    let len = c.up.invariant.free.shape.starts_len in
    let was : c.self.inside.starts.items ≡ c.up.self.starts = ap (λ p. p.starts) c.self.view_is in
    let low : c.up.level + 1 < LEVELS = omega (arith, c.requires.to) in
    let in_starts : c.up.level < length c.self.inside.starts.items = (let e = ap length was in omega arith) in
    let is : first ≡ start_of pool c.up.level = get_or_read c.self.inside.starts.items c.up.level first in_starts c.index-first.ensures 0
    ∙ ap (λ l. get_or l c.up.level 0) (was ∙ sym same) in
    record {
      free = raised c.args.boxes.now pool c.args.slot c.up.level first
          (subst (HasHole c.args.boxes.now c.args.slot c.up.level first) (sym c.self-in-up.view_is) c.hand_on.ensures.free) (omega arith) is;
      low = low;
    }

pub down-preserved : goal.down-preserved
down-preserved c =
    let s = c.self-in-down-2.inside in
    let pool : Pool = record { listed = s.columns; places = s.places.items; starts = s.starts.items } in
    let read = c.index.result.now in
    let next = c.down.level - 1 in
    let after : c.down.level ≡ suc next = omega arith in
    let same : s.starts.items ≡ c.down.self.starts = ap (λ p. p.starts) c.self-in-down-2.view_is ∙ c.hand_on-in-down.ensures.starts in
    let was : c.self-in-down.inside.starts.items ≡ c.down.self.starts = ap (λ p. p.starts) c.self-in-down.view_is in
    let len = c.down.invariant.free.shape.starts_len in
    let low = c.down.invariant.low in
    let in_starts : next < length c.self-in-down.inside.starts.items = (let e = ap length was in omega arith) in
    let is : read ≡ start_of pool next = get_or_read c.self-in-down.inside.starts.items next read in_starts c.index.ensures 0
    ∙ ap (λ l. get_or l next 0) (was ∙ sym same) in
    let end = end_before c.down.self c.down.level (omega arith) in
    let below = c.down.invariant.free.in_level.below in
    let again : start_of pool next ≡ start_of c.down.self next = ap (λ l. get_or l next 0) same in
    let more : read - 1 + 1 ≡ start_of pool next = omega (arith, is, end, again) in
    record {
      free = lowered c.args.boxes.now pool c.args.slot next (read - 1)
          (subst (λ l. HasHole c.args.boxes.now c.args.slot l (read - 1) pool) after
          (subst (HasHole c.args.boxes.now c.args.slot c.down.level (read - 1)) (sym c.self-in-down-2.view_is) c.hand_on-in-down.ensures.free))
          (omega arith) more;
      low = omega arith;
      reached = omega arith;
    }
