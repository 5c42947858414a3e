-- The former pairs are kept in the newest mark, where that has none.
use Rattle.std.proofs.Common.{◌≡◌, refl, ap, ◌∙◌, subst, true, reverse}
use Rattle.pair_events.specs.PairEvents.{is_in_order, missing}
use Rattle.live_queries.specs.Pairs.{pairs_of}
use Rattle.world_marks.specs.Marks.{keeping, with_newest}
use Rattle.box_world.specs.Parts.{world_in, worlds_back}
use Rattle.box_world.proofs.Marked.{framed_worlds, framed_returns, same_world, same_time}
use Rattle.box_world.proofs.Telling.{told_changes}
use Rattle.box_world.proofs.parts.Parts.compare.Goals as goal

pub returns-clause-told : goal.returns-clause-told
returns-clause-told g c =
    let kept = c.requires.sound in
    let old = c.args.self.now in
    let w = world_in g.B.BroadPhase.exchanges old in
    let pairs = pairs_of old.table.entries in
    let turned = c.in_ok-former.ensures in
    let marks : c.keep.new.self.marks ≡ with_newest (keeping old.pair_table) old.marks.marks = c.keep.ensures.kept
    ∙ ap (λ last. with_newest (keeping last) old.marks.marks) turned.former in
    let last : c.turn_pairs.new.pair_table ≡ pairs = turned.last in
    let ordered : is_in_order old.pair_table ≡ true = subst (λ last. is_in_order last ≡ true) turned.former turned.order in
    let began : c.swap.new.x.items ≡ missing pairs old.pair_table = ap (λ v. v.items) c.swap.ensures.x_after ∙ turned.began in
    let over : c.swap-2.new.x.items ≡ missing old.pair_table pairs = ap (λ v. v.items) c.swap-2.ensures.x_after ∙ turned.over in
    record {
      time = same_time (record w { last = c.turn_pairs.new.pair_table }) (record w { last = pairs })
          (worlds_back (record w { last = c.turn_pairs.new.pair_table }) (reverse c.keep.new.self.marks)) (worlds_back w (reverse old.marks.marks))
          (same_world old.table old.table c.turn_pairs.new.pair_table pairs old.frames old.frames w.exchanges w.exchanges refl last refl refl)
          (framed_worlds w c.turn_pairs.new.pair_table old.frames w.exchanges old.marks.marks c.keep.new.self.marks marks);
      tells = record {
        told = told_changes c.change_laws.ensures.told old.pair_table pairs c.turn_pairs.new.pair_table c.swap.new.x.items c.swap-2.new.x.items
            (c.pairs_law.ensures.order old.table kept.table) last began over;
        began = began;
        over = over;
      };
      kept = record {
        sound = kept.sound;
        boxes = kept.boxes;
        table = kept.table;
        returns = framed_returns old.table old.pair_table old.marks.marks c.keep.new.self.marks marks ordered kept.returns;
        counted = kept.counted;
        since = last;
      };
    }
