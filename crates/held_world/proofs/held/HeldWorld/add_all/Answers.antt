-- One box more comes.
use Rattle.std.proofs.Common.{◌≡◌, ℕ, ◌<◌, Bool, Result, Err, List, ◌∷◌, length, ap, ◌∙◌, sym, subst, rules, arith}
use Rattle.named_index.specs.declared.structure.Structure.{Structure}
use Rattle.named_index.specs.Structures.{counts}
use Rattle.live_table.specs.declared.group.Group.{Group}
use Rattle.live_table.specs.declared.handle.Handle.{Handle}
use Rattle.live_table.specs.declared.masks.Masks.{Masks}
use Rattle.live_table.specs.Table.{next_handle}
use Rattle.box_world.specs.Answers.{State}
use Rattle.any_world.specs.AnyWorld.{state_of, structure_of, counts_of}
use Rattle.held_world.specs.declared.plain.PwBox.{PwBox}
use Rattle.held_world.specs.Changes.{adds, handles_given}
use Rattle.held_world.specs.Plain.{handle_out}
use Rattle.held_world.specs.Steps.{StepDone, Stepped}
use Rattle.held_world.proofs.BatchUnderWay.{batch_goes_on, batch_ends}
use Rattle.held_world.proofs.RoomFilled.{some_left, copying_goes_on}
use Rattle.held_world.proofs.held.HeldWorld.add_all.Goals as goal

-- the handle of a box that comes, and those of the later ones
given_next : (counts : Bool) (masks : Masks) (group : Group) (rest more : List PwBox) (x : PwBox) (old new : State)
    → rest ≡ x ∷ more → StepDone (adds counts masks group) x old new
    → handles_given counts masks group old.time.now rest ≡ next_handle old.time.now.table ∷ handles_given counts masks group new.time.now more
given_next counts masks group rest more x old new first s = ap (handles_given counts masks group old.time.now) first
    ∙ ap (λ (t : State). next_handle old.time.now.table ∷ handles_given counts masks group t.time.now more) (sym s.made)

-- the same step, where a structure goes by another name
same_step : (masks : Masks) (group : Group) (s t : Structure) (x : PwBox) (r : Result Handle ℕ) (old new : State)
    → s ≡ t → Stepped (adds (counts s) masks group) x r old new → Stepped (adds (counts t) masks group) x r old new
same_step masks group s t x r old new same h = subst (λ (u : Structure). Stepped (adds (counts u) masks group) x r old new) same h

pub adds-preserved : goal.adds-preserved
adds-preserved c =
    let boxes = c.args.boxes.now in let rest = c.adds.rest.now in let more = c.in-Some.more.now in let next = c.in-Some.next.now in
    let count = c.adds.count in let masks = c.args.masks in let group = c.args.group in
    let old = state_of c.args.self.now.world in let now = state_of c.adds.self.world in let new = state_of c.add.new.self.world in
    let counted = counts_of c.args.self.now.world in
    let first : rest ≡ next ∷ more = search rules in
    let same = c.adds.invariant.structure in
    let step : StepDone (adds counted masks group) next now new =
    subst (λ (s : Structure). StepDone (adds (counts s) masks group) next now new) same c.in-Ok.ensures.step in
    let some : count < length boxes = some_left boxes more next count (sym first ∙ c.adds.invariant.batch.left) in
    let fits : count < length c.args.out.now = omega (arith, some) in
    record {
      batch = batch_goes_on (adds counted masks group) boxes rest more next count old now new c.adds.invariant.batch first step;
      handles = copying_goes_on handle_out (handles_given counted masks group old.time.now boxes) (handles_given counted masks group now.time.now rest)
          (handles_given counted masks group new.time.now more) (next_handle now.time.now.table) c.handle_out.result count c.args.out.now c.adds.out
          c.adds.invariant.handles (given_next counted masks group rest more next now new first step)
          (c.handle_out.ensures.out ∙ ap handle_out c.in-Ok.ensures.handle) fits;
      structure = c.in-Ok.ensures.structure ∙ same;
      room = c.in-Ok.ensures.room ∙ c.adds.invariant.room;
    }

pub returns-in-Err-clause-added : goal.returns-in-Err-clause-added
returns-in-Err-clause-added c =
    let rest = c.adds.rest.now in let more = c.in-Some.more.now in let next = c.in-Some.next.now in
    let masks = c.args.masks in let group = c.args.group in
    let now = state_of c.adds.self.world in let new = state_of c.add.new.self.world in
    let first : rest ≡ next ∷ more = search rules in
    λ fits. batch_ends (adds (counts_of c.args.self.now.world) masks group) c.args.boxes.now rest more next c.adds.count c.in-Err.status
    (state_of c.args.self.now.world) now new c.adds.invariant.batch first
    (same_step masks group (structure_of c.adds.self.world) (structure_of c.args.self.now.world) next (Err c.in-Err.status) now new
    c.adds.invariant.structure c.in-Err.ensures.step)
