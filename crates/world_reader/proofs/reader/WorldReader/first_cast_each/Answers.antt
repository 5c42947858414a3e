-- The world that is read is asked.
use Rattle.std.proofs.Common.{◌∙◌, ap, sym, subst}
use Rattle.std.specs.Prelude.{Option}
use Rattle.any_world.specs.AnyWorld.{state_of}
use Rattle.held_world.specs.Firsts.{AsksFirstCast}
use Rattle.held_world.specs.Many.{AsksEach}
use Rattle.held_world.specs.Plain.{cast_in}
use Rattle.held_world.specs.declared.held.HeldWorld.{HeldWorld}
use Rattle.world_reader.specs.Reads.{Reads, ReadsNone}
use Rattle.world_reader.specs.Shared.{shared_value}
use Rattle.world_reader.proofs.reader.WorldReader.first_cast_each.Goals as goal

pub returns-in-Some-clause-answer : goal.returns-in-Some-clause-answer
returns-in-Some-clause-answer c =
    let says : HeldWorld → Type 0 = λ read. (let state = state_of read.world in
    AsksEach (λ cast. AsksFirstCast (cast_in cast) state.time.now.table.entries cast.mask state.spent) c.args.casts.now c.first_cast_each.result c.args.out.now
    c.first_cast_each.new.out) in
    let none = ReadsNone c.first_cast_each.result c.args.out.now c.first_cast_each.new.out in
    let asked = rw (c.deref-in-Some.ensures, c.deref.ensures) at c.first_cast_each.ensures.answer in
    subst (λ (read : Option HeldWorld). Reads says none read) (ap shared_value (sym c.in-Some.is) ∙ c.self.view_is) asked
