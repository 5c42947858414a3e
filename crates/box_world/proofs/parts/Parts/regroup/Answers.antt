-- The newest mark has the owner and the fixed mark that the box had.
use Rattle.std.proofs.Common.{◌≡◌, ◌<◌, true, is_some, Some, reverse, refl, ap, sym, ◌∙◌, subst}
use Rattle.live_table.specs.Entries.{entry_at}
use Rattle.live_table.specs.Table.{after_set_group}
use Rattle.world_marks.specs.declared.undo.Undo.TheVariants.{Regrouped}
use Rattle.world_marks.specs.Marks.{noted, with_newest}
use Rattle.box_world.specs.Parts.{world_in, worlds_back, IsToNote}
use Rattle.box_world.specs.World.{regrouped}
use Rattle.box_world.proofs.Marked.{changed_worlds, changed_returns, same_world, same_time}
use Rattle.box_world.proofs.parts.Parts.regroup.Goals as goal

pub returns-in-Some-clause-regrouped : goal.returns-in-Some-clause-regrouped
returns-in-Some-clause-regrouped g c =
    let kept = c.requires.sound in
    let old = c.args.self.now in
    let t = old.table in
    let set = c.in_ok-set_group.ensures in
    let handle = c.args.handle in
    let group = c.args.group in
    let live = c.in-Some.live in
    let w = world_in g.B.BroadPhase.exchanges old in
    let note : (entry_at handle t.entries ≡ Some live) × (0 < old.marks.spare) =
    subst (IsToNote old.marks.marks (entry_at handle t.entries) old.marks.spare) c.in-Some.is c.requires.before in
    let found = note.0 in
    let table : c.set_group.new.self ≡ after_set_group t handle group = set.after in
    let back : after_set_group c.set_group.new.self handle live.group ≡ t = ap (λ s. after_set_group s handle live.group) table
    ∙ c.undo_laws.ensures.grouped t handle group live kept.table found in
    let can : is_some (entry_at handle c.set_group.new.self.entries) ≡ true = ap (λ s. is_some (entry_at handle s.entries)) table
    ∙ c.undo_laws.ensures.grouped_lives t handle group ∙ ap is_some found in
    let marks : c.note.new.self.marks ≡ with_newest (noted (Regrouped handle live.group)) old.marks.marks = c.note.ensures.noted in
    let now = record w { table = c.set_group.new.self } in
    record {
      time = same_time now (regrouped w handle group) (worlds_back now (reverse c.note.new.self.marks)) (worlds_back w (reverse old.marks.marks))
          (same_world c.set_group.new.self (after_set_group t handle group) old.pair_table old.pair_table old.frames old.frames w.exchanges w.exchanges table
          refl refl refl)
          (changed_worlds c.undone_laws.ensures.append w c.set_group.new.self w.exchanges (Regrouped handle live.group) old.marks.marks c.note.new.self.marks
          marks back);
      tells = record { told = refl; began = refl; over = refl };
      kept = record {
        sound = kept.sound;
        boxes = kept.boxes ∙ sym set.bodies;
        table = set.table;
        returns = changed_returns c.undone_laws.ensures.append c.undone_laws.ensures.whole t c.set_group.new.self (Regrouped handle live.group) old.marks.marks
            c.note.new.self.marks marks can back kept.returns;
        counted = kept.counted;
        since = tt;
      };
    }
