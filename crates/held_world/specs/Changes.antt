-- The steps of each kind of batch: boxes that come, move and go.
use Rattle.std.specs.Prelude.{ℕ, Bool, List, [], ◌∷◌, Option, Some, None, option_map}
use Rattle.fixed_box.specs.Bounds.{Bounds}
use Rattle.live_table.specs.declared.group.Group.{Group}
use Rattle.live_table.specs.declared.handle.Handle.{Handle}
use Rattle.live_table.specs.declared.masks.Masks.{Masks}
use Rattle.live_table.specs.Table.{next_handle}
use Rattle.box_world.specs.World.{World, added, moved, removed}
use Rattle.box_world.specs.Answers.{add_refusal, shift_refusal, change_refusal}
use Rattle.held_world.specs.declared.TheConstants.{INVERTED}
use Rattle.held_world.specs.declared.plain.PwBox.{PwBox}
use Rattle.held_world.specs.declared.plain.PwHandle.{PwHandle}
use Rattle.held_world.specs.Answers.{status_of}
use Rattle.held_world.specs.Batches.{Steps}
use Rattle.held_world.specs.Plain.{body_in, handle_in}

-- a change by a box, where that isn't inverted
abbrev pub changed_by : World → (Bounds → World) → Option Bounds → World
changed_by w change None = w
changed_by w change (Some body) = change body

-- why such a change is refused: an inverted box comes before any other cause
abbrev pub stopped_by : Option ℕ → Option Bounds → Option ℕ
stopped_by other None = Some INVERTED
stopped_by other (Some body) = other

-- boxes that come, with the same masks and group; `counts` says whether exchanges are counted, here and below
abbrev pub adds : Bool → Masks → Group → Steps PwBox
adds counts masks group = record {
  makes = λ w b. changed_by w (λ body. added counts w body masks group) (body_in b);
  stops = λ w b. stopped_by (option_map status_of (add_refusal w)) (body_in b);
}

-- boxes that move, each with its handle
abbrev pub moves : Bool → Steps (PwHandle × PwBox)
moves counts = record {
  makes = λ w m. changed_by w (λ body. moved counts w (handle_in m.0) body) (body_in m.1);
  stops = λ w m. stopped_by (option_map status_of (shift_refusal w (handle_in m.0))) (body_in m.1);
}

-- boxes that go
abbrev pub removes : Steps PwHandle
removes = record {
  makes = λ w h. removed w (handle_in h);
  stops = λ w h. option_map status_of (change_refusal w (handle_in h));
}

-- the handles of boxes that come, one after another
abbrev pub handles_given : Bool → Masks → Group → World → List PwBox → List Handle
handles_given counts masks group w [] = []
handles_given counts masks group w (b ∷ more) =
    next_handle w.table ∷ handles_given counts masks group ((adds counts masks group).makes w b) more
