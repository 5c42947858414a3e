-- The newest mark has the box as it was. Where no mark is held nothing is noted.
use Rattle.std.proofs.Common.{◌≡◌, ◌+◌, ◌<◌, [], true, is_some, Some, reverse, refl, ap, sym, ◌∙◌, subst}
use Rattle.std.specs.FinMap.{contains_key, insert}
use Rattle.live_table.specs.Entries.{entry_at}
use Rattle.live_table.specs.Table.{after_set_box}
use Rattle.world_marks.specs.declared.undo.Undo.TheVariants.{Moved}
use Rattle.world_marks.specs.Marks.{noted, with_newest}
use Rattle.box_world.specs.Parts.{world_in, worlds_back, IsToNote, StillHolds, still_current}
use Rattle.box_world.specs.World.{moved, counted, exchanges_of_move}
use Rattle.box_world.proofs.Counted.{counted_on, still_fits, move_passes}
use Rattle.box_world.proofs.Marked.{changed_worlds, changed_returns, unmarked_worlds, unmarked_returns, same_world, same_time}
use Rattle.box_world.proofs.StillHolding.{still_holds}
use Rattle.box_world.proofs.parts.Parts.shift.Goals as goal

pub shift-requires-clause-present : goal.shift-requires-clause-present
shift-requires-clause-present g c _ =
    ap (λ b. contains_key b c.args.handle.slot) c.requires.sound.boxes
    ∙ c.map_laws.ensures.present c.args.self.now.table c.args.handle c.requires.sound.table (sym (ap is_some c.in_ok-find.ensures.found))

pub returns-in-Some-clause-moved : goal.returns-in-Some-clause-moved
returns-in-Some-clause-moved g c =
    let kept = c.requires.sound in
    let old = c.args.self.now in
    let t = old.table in
    let set = c.in-Ok.ensures in
    let put = c.in_ok-shift.ensures in
    let handle = c.args.handle in
    let body = c.args.body in
    let exchanges = g.B.BroadPhase.exchanges in
    let counts = g.B.BroadPhase.COUNTS in
    let bodies = g.B.BroadPhase.bodies old.index in
    let w = world_in exchanges old in
    let number = exchanges_of_move w handle body in
    let next = after_set_box t handle body in
    let same = move_passes bodies t handle body kept.boxes kept.table set.former in
    let total : old.earlier + exchanges c.shift.new.self ≡ old.earlier + exchanges old.index + counted counts number = counted_on counts
    old.earlier (exchanges old.index) (exchanges c.shift.new.self) number (λ on. put.counted on ∙ ap (λ n. exchanges old.index + n) same)
    (g.met.B.BroadPhase.uncounted old.index) (g.met.B.BroadPhase.uncounted c.shift.new.self) in
    let table : c.set_box.new.self ≡ next = set.after in
    let now = record w { table = c.set_box.new.self; exchanges = old.earlier + exchanges c.shift.new.self } in
    let world : now ≡ moved counts w handle body = same_world c.set_box.new.self next old.pair_table old.pair_table old.frames old.frames
    (old.earlier + exchanges c.shift.new.self) (old.earlier + exchanges old.index + counted counts number) table refl refl total in
    let live = c.in-Some.live in
    let note : (entry_at handle t.entries ≡ Some live) × (0 < old.marks.spare) =
    subst (IsToNote old.marks.marks (entry_at handle t.entries) old.marks.spare) c.in-Some.is c.requires.before in
    let found = note.0 in
    let back : after_set_box c.set_box.new.self handle live.body ≡ t = ap (λ s. after_set_box s handle live.body) table
    ∙ c.undo_laws.ensures.moved t handle body live kept.table found in
    let can : is_some (entry_at handle c.set_box.new.self.entries) ≡ true = ap (λ s. is_some (entry_at handle s.entries)) table
    ∙ c.undo_laws.ensures.moved_lives t handle body ∙ ap is_some found in
    let marks : c.note.new.self.marks ≡ with_newest (noted (Moved handle live.body)) old.marks.marks = c.note.ensures.noted in
    record {
      time = same_time now (moved counts w handle body) (worlds_back now (reverse c.note.new.self.marks)) (worlds_back w (reverse old.marks.marks)) world
          (changed_worlds c.undone_laws.ensures.append w c.set_box.new.self (old.earlier + exchanges c.shift.new.self) (Moved handle live.body)
          old.marks.marks c.note.new.self.marks marks back);
      tells = record { told = refl; began = refl; over = refl };
      kept = record {
        sound = put.sound;
        boxes = put.ok ∙ ap (λ b. insert b handle.slot body) kept.boxes ∙ sym set.bodies;
        table = set.table;
        returns = changed_returns c.undone_laws.ensures.append c.undone_laws.ensures.whole t c.set_box.new.self (Moved handle live.body)
            old.marks.marks c.note.new.self.marks marks can back kept.returns;
        counted = still_fits (old.earlier + exchanges c.shift.new.self) (old.earlier + exchanges old.index) (counted counts number) total
            c.requires.countable (c.exchange_law.ensures.moved counts w handle body kept.table);
        since = subst (λ s. StillHolds s c.set_box.new.self.entries old.pair_table) (sym c.still_current-self.ensures)
            (subst (λ s. StillHolds (still_current old.since) s.entries old.pair_table) (sym table)
            (still_holds c.current_laws.ensures.pairs c.current_laws.ensures.moved old.since t old.pair_table handle body kept.table kept.since));
      };
    }

pub returns-in_default-before-clause-moved : goal.returns-in_default-before-clause-moved
returns-in_default-before-clause-moved g c =
    let kept = c.requires.sound in
    let old = c.args.self.now in
    let t = old.table in
    let set = c.in-Ok.ensures in
    let put = c.in_ok-shift.ensures in
    let handle = c.args.handle in
    let body = c.args.body in
    let exchanges = g.B.BroadPhase.exchanges in
    let counts = g.B.BroadPhase.COUNTS in
    let bodies = g.B.BroadPhase.bodies old.index in
    let w = world_in exchanges old in
    let number = exchanges_of_move w handle body in
    let next = after_set_box t handle body in
    let same = move_passes bodies t handle body kept.boxes kept.table set.former in
    let total : old.earlier + exchanges c.shift.new.self ≡ old.earlier + exchanges old.index + counted counts number = counted_on counts
    old.earlier (exchanges old.index) (exchanges c.shift.new.self) number (λ on. put.counted on ∙ ap (λ n. exchanges old.index + n) same)
    (g.met.B.BroadPhase.uncounted old.index) (g.met.B.BroadPhase.uncounted c.shift.new.self) in
    let table : c.set_box.new.self ≡ next = set.after in
    let now = record w { table = c.set_box.new.self; exchanges = old.earlier + exchanges c.shift.new.self } in
    let world : now ≡ moved counts w handle body = same_world c.set_box.new.self next old.pair_table old.pair_table old.frames old.frames
    (old.earlier + exchanges c.shift.new.self) (old.earlier + exchanges old.index + counted counts number) table refl refl total in
    let none : old.marks.marks ≡ [] = subst (IsToNote old.marks.marks (entry_at handle t.entries) old.marks.spare) c.in_default-before.is c.requires.before in
    record {
      time = same_time now (moved counts w handle body) (worlds_back now (reverse old.marks.marks)) (worlds_back w (reverse old.marks.marks)) world
          (unmarked_worlds now w old.marks.marks old.marks.marks none refl);
      tells = record { told = refl; began = refl; over = refl };
      kept = record {
        sound = put.sound;
        boxes = put.ok ∙ ap (λ b. insert b handle.slot body) kept.boxes ∙ sym set.bodies;
        table = set.table;
        returns = unmarked_returns c.set_box.new.self old.marks.marks old.marks.marks none refl;
        counted = still_fits (old.earlier + exchanges c.shift.new.self) (old.earlier + exchanges old.index) (counted counts number) total
            c.requires.countable (c.exchange_law.ensures.moved counts w handle body kept.table);
        since = subst (λ s. StillHolds s c.set_box.new.self.entries old.pair_table) (sym c.still_current-self.ensures)
            (subst (λ s. StillHolds (still_current old.since) s.entries old.pair_table) (sym table)
            (still_holds c.current_laws.ensures.pairs c.current_laws.ensures.moved old.since t old.pair_table handle body kept.table kept.since));
      };
    }
