-- Whatever is known of the last frame, the pairs are those of the boxes, and then the frame is counted.
use Rattle.std.proofs.Common.{◌≡◌, ◌+◌, false, ap, ◌∙◌, arith, reverse}
use Rattle.live_queries.specs.Pairs.{pairs_of}
use Rattle.box_world.specs.Parts.{world_in, worlds_back, timeline_in}
use Rattle.box_world.proofs.Marked.{counted_time}
use Rattle.box_world.proofs.parts.Parts.end_frame.Goals.{in-Changed+in_ok-compare-in-Changed, in-Current+in_ok-compare-in-Current, in-Same}
use Rattle.box_world.proofs.parts.Parts.end_frame.Goals as goal

pub returns-clause-time : goal.returns-clause-time
returns-clause-time g c =
    let kept = c.requires.sound in
    let old = c.args.self.now in
    let exchanges = g.B.BroadPhase.exchanges in
    let spent = g.B.BroadPhase.spent in
    let w = world_in exchanges old in
    let pairs = pairs_of old.table.entries in
    let mid = c.match-self.self in
    let told : timeline_in exchanges mid ≡ record (timeline_in exchanges old) { now = record w { last = pairs } } =
    elim c.match-self.branch [
      | in-Changed+in_ok-compare-in-Changed b ↦ ap (timeline_in exchanges) b.self-is ∙ b.in_ok-compare-in-Changed.ensures.told.time
      | in-Current+in_ok-compare-in-Current b ↦ ap (timeline_in exchanges) b.self-is ∙ b.in_ok-compare-in-Current.ensures.told.time
      | in-Same b ↦ ap (timeline_in exchanges) b.self-is ∙ b.rest.ensures.time
    ] in
    let sound : spent mid.index ≡ false = elim c.match-self.branch [
      | in-Changed+in_ok-compare-in-Changed b ↦ ap (λ p. spent p.index) b.self-is ∙ b.in_ok-compare-in-Changed.ensures.told.kept.sound
      | in-Current+in_ok-compare-in-Current b ↦ ap (λ p. spent p.index) b.self-is ∙ b.in_ok-compare-in-Current.ensures.told.kept.sound
      | in-Same b ↦ ap (λ p. spent p.index) b.self-is ∙ b.rest.ensures.kept.sound
    ] in
    let cleared : exchanges c.clear_exchanges.new.self ≡ 0 = c.clear_exchanges.ensures.cleared sound in
    counted_time (world_in exchanges mid) w pairs (reverse mid.marks.marks) (worlds_back w (reverse old.marks.marks))
    (0 + exchanges c.clear_exchanges.new.self) told (omega (arith, cleared))
