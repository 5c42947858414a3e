-- The pairs of the last frame are those of the boxes, so that none began and none is over.
use Rattle.std.proofs.Common.{◌≡◌, ap, ◌∙◌, sym, subst, reverse}
use Rattle.pair_events.specs.PairEvents.{missing}
use Rattle.live_queries.specs.Pairs.{pairs_of}
use Rattle.box_world.specs.Parts.{world_in, worlds_back, StillHolds}
use Rattle.box_world.proofs.Telling.{told_changes, none_missing}
use Rattle.box_world.proofs.parts.Parts.rest.Goals as goal

pub returns : goal.returns
returns g c =
    let kept = c.requires.sound in
    let old = c.args.self.now in
    let w = world_in g.B.BroadPhase.exchanges old in
    let pairs = pairs_of old.table.entries in
    let last : old.pair_table ≡ pairs = subst (λ s. StillHolds s old.table.entries old.pair_table) c.requires.since kept.since in
    let began : c.clear.new.self.items ≡ missing pairs old.pair_table = c.clear.ensures.items
    ∙ sym (none_missing c.change_laws.ensures.none pairs old.pair_table last) in
    let over : c.clear-2.new.self.items ≡ missing old.pair_table pairs = c.clear-2.ensures.items
    ∙ sym (none_missing c.change_laws.ensures.none old.pair_table pairs (sym last)) in
    record {
      time = ap (λ ps. record { now = record w { last = ps }; marks = worlds_back w (reverse old.marks.marks) }) last;
      tells = record {
        told = told_changes c.change_laws.ensures.told old.pair_table pairs old.pair_table c.clear.new.self.items c.clear-2.new.self.items
            (c.pairs_law.ensures.order old.table kept.table) last began over;
        began = began;
        over = over;
      };
      kept = record {
        sound = kept.sound;
        boxes = kept.boxes;
        table = kept.table;
        returns = kept.returns;
        counted = kept.counted;
        since = kept.since;
      };
    }
