-- The newest marked world is the world again.
use Rattle.std.proofs.Common.{◌≡◌, ◌≢◌, ◌+◌, List, ◌∷◌, [], cond, nat_lt, length, reverse, ap, sym, ◌∙◌, subst, arith, lt-ltb}
use Rattle.world_marks.specs.Marks.{or_kept}
use Rattle.world_marks.specs.Undone.{undone}
use Rattle.box_world.specs.Parts.{world_in, timeline_in, marked_world, worlds_back, told_in, CanReturn, IsSound}
use Rattle.box_world.specs.World.{World, back_to}
use Rattle.box_world.proofs.Marked.{EndsIn, ends_in, back_worlds, back_returns, same_world, same_time}
use Rattle.pair_events.specs.declared.hpair.HPair.{HPair}
use Rattle.box_world.proofs.Telling.{restored_pairs, restored_told}
use Rattle.box_world.proofs.parts.Parts.back.Goals as goal

pub returns-clause-held : goal.returns-clause-held
returns-clause-held g c =
    let old = c.args.self.now in
    let w = world_in g.B.BroadPhase.exchanges old in
    let some : old.marks.marks ≢ [] = λ none. let e = c.in_ok-frames.ensures.none.1 none in let f = c.in-Some.is in cc in
    let ends : EndsIn old.marks.marks = ends_in old.marks.marks some in
    let v = marked_world w ends.newest in
    sym (ap (λ ws. nat_lt 0 (length ws)) (back_worlds w ends.older ends.newest old.marks.marks ends.is)
    ∙ lt-ltb 0 (length (v ∷ worlds_back v (reverse ends.older))) (omega arith))

pub returns-clause-back : goal.returns-clause-back
returns-clause-back g c =
    let kept = c.requires.sound in
    let old = c.args.self.now in
    let exchanges = g.B.BroadPhase.exchanges in
    let w = world_in exchanges old in
    let t = timeline_in exchanges old in
    let back = c.in_ok-frames.ensures in
    let some : old.marks.marks ≢ [] = λ none. let e = back.none.1 none in let f = c.in-Some.is in cc in
    let ends : EndsIn old.marks.marks = ends_in old.marks.marks some in
    let m = ends.newest in
    let older = ends.older in
    let is = back.gone_back older m ends.is in
    let answer : c.in-Some.field-0 ≡ record { frames = m.frames; exchanges = m.exchanges } = let e = is.restored in let f = c.in-Some.is in cc in
    let frames : c.in-Some.field-0.frames ≡ m.frames = ap (λ r. r.frames) answer in
    let earlier : c.count_from-self.result ≡ m.exchanges = c.count_from-self.ensures.earlier ∙ ap (λ r. r.exchanges) answer in
    let none : exchanges c.count_from-self.new.index ≡ 0 = c.count_from-self.ensures.cleared back.sound in
    let total = c.count_from-self.result + exchanges c.count_from-self.new.index in
    let restored : total ≡ m.exchanges = omega (arith, none, earlier) in
    let keeps = c.keeps_pairs-keeps_pairs.result in
    let last : List HPair = cond keeps c.back.new.pairs old.pair_table in
    let pairs : last ≡ or_kept m.kept old.pair_table = restored_pairs keeps m.kept c.back.new.pairs old.pair_table
    (c.keeps_pairs-keeps_pairs.ensures.newest older m ends.is) (is.pairs ∙ ap (or_kept m.kept) c.new-last.ensures) in
    let v : World = record { table = c.back.new.table; last = last; frames = c.in-Some.field-0.frames; exchanges = total } in
    let same : v ≡ marked_world w m = same_world c.back.new.table (undone m.undos old.table) last (or_kept m.kept old.pair_table)
    c.in-Some.field-0.frames m.frames total m.exchanges is.table pairs frames restored in
    let u = marked_world w m in
    ap (timeline_in exchanges) c.restore.ensures
    ∙ same_time v u (worlds_back v (reverse c.back.new.self.marks)) (worlds_back u (reverse older)) same
    (ap (λ x. worlds_back x (reverse c.back.new.self.marks)) same ∙ ap (λ ks. worlds_back u (reverse ks)) is.held)
    ∙ sym (ap (back_to t) (back_worlds w older m old.marks.marks ends.is))

pub returns-clause-sound : goal.returns-clause-sound
returns-clause-sound g c =
    let kept = c.requires.sound in
    let old = c.args.self.now in
    let exchanges = g.B.BroadPhase.exchanges in
    let back = c.in_ok-frames.ensures in
    let some : old.marks.marks ≢ [] = λ none. let e = back.none.1 none in let f = c.in-Some.is in cc in
    let ends : EndsIn old.marks.marks = ends_in old.marks.marks some in
    let m = ends.newest in
    let older = ends.older in
    let is = back.gone_back older m ends.is in
    let none : exchanges c.count_from-self.new.index ≡ 0 = c.count_from-self.ensures.cleared back.sound in
    subst (IsSound g.B.BroadPhase.bodies g.B.BroadPhase.spent exchanges) (sym c.restore.ensures) (record {
      sound = c.count_from-self.ensures.spent ∙ back.sound;
      boxes = c.count_from-self.ensures.bodies ∙ back.boxes;
      table = back.table some;
      returns =
          let way = back_returns old.table older m old.marks.marks ends.is kept.returns in
          subst (λ ks. CanReturn c.back.new.table (reverse ks)) (sym is.held) (subst (λ s. CanReturn s (reverse older)) (sym is.table) way.1);
      counted = let fits = c.count_from-self.ensures.fits in omega (arith, none, fits);
      since = tt;
    })

pub returns-clause-tells : goal.returns-clause-tells
returns-clause-tells g c =
    let old = c.args.self.now in
    record {
      told = ap told_in c.restore.ensures ∙ restored_told c.keeps_pairs-keeps_pairs.result c.back.new.pairs old.shown old.pair_table old.began.items old.over.items;
      began = ap (λ p. p.began) c.restore.ensures;
      over = ap (λ p. p.over) c.restore.ensures;
    }
