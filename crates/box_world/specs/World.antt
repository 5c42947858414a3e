-- A world of live boxes with its marks, and what each change, frame, mark and way back makes of it.
use Rattle.std.specs.Prelude.{ℕ, ◌+◌, ◌-◌, Bool, nat_lt, List, [], ◌∷◌, length, take, if◌then◌else◌}
use Rattle.fixed_box.specs.Bounds.{Bounds}
use Rattle.live_table.specs.declared.group.Group.{Group}
use Rattle.live_table.specs.declared.handle.Handle.{Handle}
use Rattle.live_table.specs.declared.masks.Masks.{Masks}
use Rattle.live_table.specs.Bodies.{slots_with_bodies, body_of}
use Rattle.live_table.specs.Table.{Table, least_free, empty_table, after_give, after_set_box, after_set_masks, after_set_group, after_take}
use Rattle.broad_index.specs.Exchanges.{passed_from_above, passed_from}
use Rattle.pair_events.specs.declared.hpair.HPair.{HPair}
use Rattle.live_queries.specs.Pairs.{pairs_of}
use Rattle.world_marks.specs.declared.TheConstants.{MOST_MARKS}

-- The live boxes with how often each slot was given, the pairs of the last frame, the number of frames, and the exchanges of
-- endpoints since the last frame.
pub record World : Type 0 where
  pub table : Table
  pub last : List HPair
  pub frames : ℕ
  pub exchanges : ℕ

abbrev pub opening : World
opening = record { table = empty_table; last = []; frames = 0; exchanges = 0 }

-- the pairs of a world
abbrev pub pairs : World → List HPair
pairs w = pairs_of w.table.entries

-- the exchanges of a new box, which comes under the least free slot
abbrev pub exchanges_of_add : World → Bounds → ℕ
exchanges_of_add w body = passed_from_above (slots_with_bodies w.table.entries) (least_free w.table) body

-- the exchanges of a move, none where no live box has the handle
abbrev pub exchanges_of_move : World → Handle → Bounds → ℕ
exchanges_of_move w handle body = passed_from (body_of handle w.table.entries) (slots_with_bodies w.table.entries) handle.slot body

-- a number, where it is counted
abbrev pub counted : Bool → ℕ → ℕ
counted counts number = if counts then number else 0

-- The world after a new box came; `counts` says whether exchanges are counted.
abbrev pub added : Bool → World → Bounds → Masks → Group → World
added counts w body masks group =
    record w { table = after_give w.table body masks group; exchanges = w.exchanges + counted counts (exchanges_of_add w body) }

-- The world after the handle's box was moved. A handle that no live box has changes nothing, here and below.
abbrev pub moved : Bool → World → Handle → Bounds → World
moved counts w handle body =
    record w { table = after_set_box w.table handle body; exchanges = w.exchanges + counted counts (exchanges_of_move w handle body) }

-- the world after the handle's box got other masks
abbrev pub masked : World → Handle → Masks → World
masked w handle masks = record w { table = after_set_masks w.table handle masks }

-- the world after the handle's box got another owner and fixed mark
abbrev pub regrouped : World → Handle → Group → World
regrouped w handle group = record w { table = after_set_group w.table handle group }

-- the world after the handle's box went
abbrev pub removed : World → Handle → World
removed w handle = record w { table = after_take w.table handle }

-- the world after a frame
abbrev pub framed : World → World
framed w = record w { last = pairs w; frames = w.frames + 1; exchanges = 0 }

-- The world, and the worlds that are marked, the newest first.
pub record Timeline : Type 0 where
  pub now : World
  pub marks : List World

abbrev pub beginning : Timeline
beginning = record { now = opening; marks = [] }

-- the world is marked, where fewer than `MOST_MARKS` are
abbrev pub marked : Timeline → Timeline
marked t = if nat_lt (length t.marks) MOST_MARKS then record t { marks = t.now ∷ t.marks } else t

-- the first of these worlds is the world again, where there is one
abbrev pub back_to : Timeline → List World → Timeline
back_to t [] = t
back_to t (w ∷ older) = record { now = w; marks = older }

-- the world is the one that was marked last, and its mark is gone
abbrev pub gone_back : Timeline → Timeline
gone_back t = back_to t t.marks

-- the worlds that were marked first, so many of them, are marked no longer; where fewer are marked nothing changes
abbrev pub forgotten : ℕ → Timeline → Timeline
forgotten count t = if nat_lt (length t.marks) count then t else record t { marks = take (length t.marks - count) t.marks }
