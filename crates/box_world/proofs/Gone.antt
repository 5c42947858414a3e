-- Serves proofs alone: a handle whose box is gone stays so over the steps of a world.
use Rattle.std.proofs.Common.{◌≡◌, ◌==◌, Bool, true, false, cond, List, [], ◌∷◌, Option, None, Some, refl, ap}
use Rattle.std.specs.Prelude.{is_some}
use Rattle.fixed_box.specs.declared.TheConstants.{SLOTS}
use Rattle.live_table.specs.declared.handle.Handle.{Handle}
use Rattle.live_table.specs.declared.live.Live.{Live}
use Rattle.live_table.specs.Changes.{TableChange, give, set_box, set_masks, set_group, take, after_change, IsGone}
use Rattle.live_table.specs.Table.{Table, least_free}
use Rattle.box_world.specs.Answers.{is_live}
use Rattle.box_world.specs.Steps.{Step, add, move, mask, regroup, remove, frame, after_step, world_after}
use Rattle.box_world.specs.World.{World, added}

-- what is known of one change of a table
abbrev pub StaysGone : Type 0
StaysGone = (t : Table) (handle : Handle) (change : TableChange) → IsGone handle t → IsGone handle (after_change t change)

gone_over : StaysGone → (counts : Bool) (w : World) (step : Step) (handle : Handle) → IsGone handle w.table
    → IsGone handle (after_step counts w step).table
gone_over kept counts w (add body masks group) handle gone = came (least_free w.table == SLOTS) (kept w.table handle (give body masks group) gone)
  where
    came : (full : Bool) → IsGone handle (cond full w.table (added counts w body masks group).table)
        → IsGone handle (cond full w (added counts w body masks group)).table
    came true h = h
    came false h = h
gone_over kept counts w (move at body) handle gone = kept w.table handle (set_box at body) gone
gone_over kept counts w (mask at masks) handle gone = kept w.table handle (set_masks at masks) gone
gone_over kept counts w (regroup at group) handle gone = kept w.table handle (set_group at group) gone
gone_over kept counts w (remove at) handle gone = kept w.table handle (take at) gone
gone_over kept counts w frame handle gone = gone

pub stays_stale : StaysGone → (counts : Bool) (w : World) (steps : List Step) (handle : Handle) → IsGone handle w.table
    → is_live (world_after counts w steps) handle ≡ false
stays_stale kept counts w [] handle gone = ap is_some gone.1
stays_stale kept counts w (step ∷ later) handle gone =
    stays_stale kept counts (after_step counts w step) later handle (gone_over kept counts w step handle gone)

-- the box that is there
pub record Lives (found : Option Live) : Type 0 where
  pub live : Live
  pub is : found ≡ Some live

pub lives : (found : Option Live) → is_some found ≡ true → Lives found
lives None h = absurd (cc)
lives (Some live) h = record { live = live; is = refl }
