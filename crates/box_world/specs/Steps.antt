-- Steps of a world one after another, none of which goes back.
use Rattle.std.specs.Prelude.{◌==◌, Bool, List, [], ◌∷◌, if◌then◌else◌}
use Rattle.fixed_box.specs.Bounds.{Bounds}
use Rattle.fixed_box.specs.declared.TheConstants.{SLOTS}
use Rattle.live_table.specs.declared.group.Group.{Group}
use Rattle.live_table.specs.declared.handle.Handle.{Handle}
use Rattle.live_table.specs.declared.masks.Masks.{Masks}
use Rattle.live_table.specs.Table.{least_free}
use Rattle.box_world.specs.World.{World, added, moved, masked, regrouped, removed, framed}

-- a box comes, moves, gets other masks or another owner and fixed mark, or goes, or a frame ends
pub data Step : Type 0 where
  add : (body : Bounds) (masks : Masks) (group : Group) → Step
  move : (handle : Handle) (body : Bounds) → Step
  mask : (handle : Handle) (masks : Masks) → Step
  regroup : (handle : Handle) (group : Group) → Step
  remove : (handle : Handle) → Step
  frame : Step

-- what a step makes of a world; no box comes where no slot is free
abbrev pub after_step : Bool → World → Step → World
after_step counts w (add body masks group) = if least_free w.table == SLOTS then w else added counts w body masks group
after_step counts w (move handle body) = moved counts w handle body
after_step counts w (mask handle masks) = masked w handle masks
after_step counts w (regroup handle group) = regrouped w handle group
after_step counts w (remove handle) = removed w handle
after_step counts w frame = framed w

-- what several make of it, the first one first
abbrev pub world_after : Bool → World → List Step → World
world_after counts w [] = w
world_after counts w (step ∷ later) = world_after counts (after_step counts w step) later
