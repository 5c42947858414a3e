-- The table and the index lose the box, and the newest mark has it.
use Rattle.std.proofs.Common.{◌≡◌, ◌+◌, ◌<◌, ◌^◌, Some, reverse, refl, ap, sym, ◌∙◌, subst}
use Rattle.std.specs.FinMap.{contains_key, remove}
use Rattle.live_table.specs.Entries.{entry_at}
use Rattle.live_table.specs.Table.{after_take, after_put_back, IsVacated}
use Rattle.world_marks.specs.declared.undo.Undo.TheVariants.{Taken}
use Rattle.world_marks.specs.Marks.{noted, with_newest}
use Rattle.box_world.specs.Parts.{world_in, worlds_back, IsToNote}
use Rattle.box_world.specs.World.{removed}
use Rattle.box_world.proofs.Marked.{changed_worlds, changed_returns, same_world, same_time}
use Rattle.box_world.proofs.parts.Parts.remove.Goals as goal

pub leave-requires-clause-present : goal.leave-requires-clause-present
leave-requires-clause-present g c _ = ap (λ b. contains_key b c.args.handle.slot) c.requires.sound.boxes ∙ c.in_ok-take.ensures.present

pub returns-in-Some-clause-removed : goal.returns-in-Some-clause-removed
returns-in-Some-clause-removed g c =
    let kept = c.requires.sound in
    let old = c.args.self.now in
    let t = old.table in
    let taken = c.in_ok-take.ensures in
    let handle = c.args.handle in
    let live = c.in-Some.live in
    let exchanges = g.B.BroadPhase.exchanges in
    let w = world_in exchanges old in
    let note : (entry_at handle t.entries ≡ Some live) × (0 < old.marks.spare) =
    subst (IsToNote old.marks.marks (entry_at handle t.entries) old.marks.spare) c.in-Some.is c.requires.before in
    let found = note.0 in
    let table : c.take.new.self ≡ after_take t handle = taken.after in
    let back : after_put_back c.take.new.self live ≡ t = ap (λ s. after_put_back s live) table
    ∙ c.undo_laws.ensures.taken t handle live kept.table found in
    let can : IsVacated live c.take.new.self = subst (IsVacated live) (sym table) (c.undo_laws.ensures.vacated t handle live kept.table found) in
    let marks : c.note.new.self.marks ≡ with_newest (noted (Taken live)) old.marks.marks = c.note.ensures.noted in
    let same : exchanges c.leave.new.self ≡ exchanges old.index = c.leave.ensures.exchanges kept.sound in
    let total : old.earlier + exchanges c.leave.new.self ≡ w.exchanges = ap (λ n. old.earlier + n) same in
    let now = record w { table = c.take.new.self; exchanges = old.earlier + exchanges c.leave.new.self } in
    record {
      time = same_time now (removed w handle) (worlds_back now (reverse c.note.new.self.marks)) (worlds_back w (reverse old.marks.marks))
          (same_world c.take.new.self (after_take t handle) old.pair_table old.pair_table old.frames old.frames
          (old.earlier + exchanges c.leave.new.self) w.exchanges table refl refl total)
          (changed_worlds c.undone_laws.ensures.append w c.take.new.self (old.earlier + exchanges c.leave.new.self) (Taken live) old.marks.marks
          c.note.new.self.marks marks back);
      tells = record { told = refl; began = refl; over = refl };
      kept = record {
        sound = c.leave.ensures.spent ∙ kept.sound;
        boxes = c.leave.ensures.gone kept.sound ∙ ap (λ b. remove b handle.slot) kept.boxes ∙ sym taken.bodies;
        table = taken.table;
        returns = changed_returns c.undone_laws.ensures.append c.undone_laws.ensures.whole t c.take.new.self (Taken live) old.marks.marks
            c.note.new.self.marks marks can back kept.returns;
        counted = subst (λ n. n < 2 ^ 64) (sym total) kept.counted;
        since = tt;
      };
    }
