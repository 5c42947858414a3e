-- The world becomes a marked one, where there is room.
use Rattle.std.proofs.Common.{◌≡◌, ◌++◌, ◌∷◌, [], true, false, nat_lt, length, refl, ap, sym, ◌∙◌}
use Rattle.world_marks.specs.declared.TheConstants.{MOST_MARKS}
use Rattle.world_marks.specs.Marks.{fresh}
use Rattle.box_world.specs.Parts.{world_in, timeline, timeline_in}
use Rattle.box_world.specs.World.{marked}
use Rattle.box_world.proofs.Marked.{marked_worlds, marks_as_worlds, after_mark, after_no_mark}
use Rattle.box_world.proofs.parts.Parts.mark.Goals as goal

pub returns-clause-held : goal.returns-clause-held
returns-clause-held g c =
    let old = c.args.self.now in
    c.mark.ensures.held ∙ ap (λ n. nat_lt n MOST_MARKS) (sym (marks_as_worlds (world_in g.B.BroadPhase.exchanges old) old.marks.marks))

pub returns-clause-marked : goal.returns-clause-marked
returns-clause-marked g c =
    let old = c.args.self.now in
    let exchanges = g.B.BroadPhase.exchanges in
    let w = world_in exchanges old in
    let t = timeline_in exchanges old in
    let as_many : nat_lt (length t.marks) MOST_MARKS ≡ c.mark.result = ap (λ n. nat_lt n MOST_MARKS) (marks_as_worlds w old.marks.marks)
    ∙ sym c.mark.ensures.held in
    elim c.mark.result as (λ r. c.mark.result ≡ r → timeline w c.mark.new.self.marks ≡ marked t) [
      | true ↦ λ is.
          let marks : c.mark.new.self.marks ≡ old.marks.marks ++ fresh w.frames w.exchanges ∷ [] = c.mark.ensures.marked is
          ∙ ap (λ x. old.marks.marks ++ fresh old.frames x ∷ []) c.exchanges-exchanges.ensures in
          ap (λ ws. record { now = w; marks = ws }) (marked_worlds w old.marks.marks c.mark.new.self.marks marks) ∙ sym (after_mark t (as_many ∙ is))
      | false ↦ λ is. ap (λ m. timeline w m.marks) (c.mark.ensures.same is) ∙ sym (after_no_mark t (as_many ∙ is))
    ] refl
