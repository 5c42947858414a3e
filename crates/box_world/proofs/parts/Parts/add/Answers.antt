-- The index gets the box under the next handle's slot, the table gives that handle, and the newest mark has what undoes it.
use Rattle.std.proofs.Common.{◌≡◌, ◌+◌, ◌<◌, true, is_some, reverse, refl, ap, sym, ◌∙◌, subst}
use Rattle.std.specs.FinMap.{contains_key, entries, insert}
use Rattle.fixed_box.specs.declared.TheConstants.{SLOTS}
use Rattle.live_table.specs.Bodies.{slots_with_bodies, bodies_of}
use Rattle.live_table.specs.Entries.{entry_at}
use Rattle.live_table.specs.Table.{IsLeastFree, least_free, next_handle, after_give, after_ungive}
use Rattle.broad_index.specs.Exchanges.{passed_from_above}
use Rattle.world_marks.specs.declared.undo.Undo.TheVariants.{Given}
use Rattle.world_marks.specs.Marks.{noted, with_newest}
use Rattle.box_world.specs.Parts.{world_in, worlds_back, StillHolds, still_current}
use Rattle.box_world.specs.World.{added, counted, exchanges_of_add}
use Rattle.box_world.proofs.Counted.{counted_on, still_fits}
use Rattle.box_world.proofs.Marked.{changed_worlds, changed_returns, same_world, same_time}
use Rattle.box_world.proofs.StillHolding.{still_holds_with}
use Rattle.box_world.proofs.parts.Parts.add.Goals as goal

pub add-requires-clause-absent : goal.add-requires-clause-absent
add-requires-clause-absent g c _ = ap (λ b. contains_key b c.args.handle.slot) c.requires.sound.boxes ∙ c.requires.absent

pub returns-clause-added : goal.returns-clause-added
returns-clause-added g c =
    let kept = c.requires.sound in
    let old = c.args.self.now in
    let t = old.table in
    let given = c.in-Ok.ensures in
    let put = c.in_ok-add.ensures in
    let handle = c.args.handle in
    let exchanges = g.B.BroadPhase.exchanges in
    let counts = g.B.BroadPhase.COUNTS in
    let w = world_in exchanges old in
    let slot : handle.slot ≡ least_free t = ap (λ h. h.slot) c.requires.next in
    let least : IsLeastFree (least_free t) t = subst (λ s. IsLeastFree s t) slot c.requires.free in
    let body = c.args.body in
    let next = after_give t body c.args.masks c.args.group in
    let back : after_ungive c.give.new.self handle ≡ t = ap (λ s. after_ungive s handle) given.given ∙ ap (after_ungive next) c.requires.next
    ∙ c.undo_laws.ensures.given t body c.args.masks c.args.group kept.table least (subst (λ s. s < SLOTS) slot c.requires.small) in
    let can : is_some (entry_at handle c.give.new.self.entries) ≡ true = ap (λ s. is_some (entry_at handle s.entries)) given.given
    ∙ ap (λ h. is_some (entry_at h next.entries)) c.requires.next ∙ c.undo_laws.ensures.given_lives t body c.args.masks c.args.group least in
    let marks : c.note.new.self.marks ≡ with_newest (noted (Given handle)) old.marks.marks = c.note.ensures.noted in
    let passed : counts ≡ true → exchanges c.add.new.self ≡ exchanges old.index + exchanges_of_add w body = λ on. put.counted on
    ∙ ap (λ es. exchanges old.index + passed_from_above es handle.slot body) (ap entries kept.boxes ∙ kept.table.mapped)
    ∙ ap (λ s. exchanges old.index + passed_from_above (slots_with_bodies t.entries) s body) slot in
    let total : old.earlier + exchanges c.add.new.self ≡ old.earlier + exchanges old.index + counted counts (exchanges_of_add w body) = counted_on counts
    old.earlier (exchanges old.index) (exchanges c.add.new.self) (exchanges_of_add w body) passed (g.met.B.BroadPhase.uncounted old.index)
    (g.met.B.BroadPhase.uncounted c.add.new.self) in
    let now = record w { table = c.give.new.self; exchanges = old.earlier + exchanges c.add.new.self } in
    record {
      time = same_time now (added counts w body c.args.masks c.args.group) (worlds_back now (reverse c.note.new.self.marks))
          (worlds_back w (reverse old.marks.marks))
          (same_world c.give.new.self next old.pair_table old.pair_table old.frames old.frames (old.earlier + exchanges c.add.new.self)
          (old.earlier + exchanges old.index + counted counts (exchanges_of_add w body)) given.given refl refl total)
          (changed_worlds c.undone_laws.ensures.append w c.give.new.self (old.earlier + exchanges c.add.new.self) (Given handle) old.marks.marks
          c.note.new.self.marks marks back);
      tells = record { told = refl; began = refl; over = refl };
      kept = record {
        sound = put.sound;
        boxes = put.ok ∙ ap (λ b. insert b handle.slot body) kept.boxes
            ∙ sym (given.bodies ∙ ap (λ h. insert (bodies_of t.entries) h.slot body) (given.handle ∙ sym c.requires.next));
        table = given.table;
        returns = changed_returns c.undone_laws.ensures.append c.undone_laws.ensures.whole t c.give.new.self (Given handle) old.marks.marks
            c.note.new.self.marks marks can back kept.returns;
        counted = still_fits (old.earlier + exchanges c.add.new.self) (old.earlier + exchanges old.index) (counted counts (exchanges_of_add w body)) total
            c.requires.countable (c.exchange_law.ensures.added counts w body kept.table);
        since = subst (λ s. StillHolds s c.give.new.self.entries old.pair_table) (sym c.still_current-self.ensures)
            (subst (λ s. StillHolds (still_current old.since) s.entries old.pair_table) (sym given.given)
            (still_holds_with c.current_laws.ensures.pairs c.current_laws.ensures.entered old.since t old.pair_table
            (record { handle = next_handle t; body = body; masks = c.args.masks; group = c.args.group }) kept.table least.free kept.since));
      };
    }
