-- The worlds of the newer marks are left, where so many marks are held.
use Rattle.std.proofs.Common.{◌≡◌, true, false, not, nat_lt, length, reverse, refl, ap, sym, subst, ◌∙◌}
use Rattle.box_world.specs.World.{forgotten}
use Rattle.box_world.specs.Parts.{world_in, timeline, timeline_in, CanReturn}
use Rattle.box_world.proofs.Marked.{marks_as_worlds, forgotten_worlds, forgotten_returns, after_forget, after_no_forget}
use Rattle.box_world.proofs.parts.Parts.forget.Goals as goal

pub returns-clause-held : goal.returns-clause-held
returns-clause-held g c =
    let old = c.args.self.now in
    c.forget.ensures.held ∙ ap (λ n. not (nat_lt n c.args.count)) (sym (marks_as_worlds (world_in g.B.BroadPhase.exchanges old) old.marks.marks))

pub returns-clause-forgotten : goal.returns-clause-forgotten
returns-clause-forgotten g c =
    let old = c.args.self.now in
    let count = c.args.count in
    let w = world_in g.B.BroadPhase.exchanges old in
    let t = timeline_in g.B.BroadPhase.exchanges old in
    let as_many : nat_lt (length t.marks) count ≡ nat_lt (length old.marks.marks) count = ap (λ n. nat_lt n count) (marks_as_worlds w old.marks.marks) in
    elim (nat_lt (length old.marks.marks) count) as (λ r. nat_lt (length old.marks.marks) count ≡ r → timeline w c.forget.new.self.marks ≡ forgotten count t) [
      | true ↦ λ few.
          ap (λ m. timeline w m.marks) (c.forget.ensures.same (c.forget.ensures.held ∙ ap not few)) ∙ sym (after_no_forget t count (as_many ∙ few))
      | false ↦ λ enough.
          ap (λ ws. record { now = w; marks = ws })
          (forgotten_worlds w count old.marks.marks c.forget.new.self.marks (c.forget.ensures.forgotten (c.forget.ensures.held ∙ ap not enough)))
          ∙ sym (after_forget t count (as_many ∙ enough))
    ] refl

pub returns-clause-sound : goal.returns-clause-sound
returns-clause-sound g c =
    let kept = c.requires.sound in
    let old = c.args.self.now in
    let count = c.args.count in
    let returns : CanReturn old.table (reverse c.forget.new.self.marks) =
    elim (nat_lt (length old.marks.marks) count) as
    (λ r. nat_lt (length old.marks.marks) count ≡ r → CanReturn old.table (reverse c.forget.new.self.marks)) [
      | true ↦ λ few.
          subst (λ m. CanReturn old.table (reverse m.marks)) (sym (c.forget.ensures.same (c.forget.ensures.held ∙ ap not few))) kept.returns
      | false ↦ λ enough.
          forgotten_returns old.table count old.marks.marks c.forget.new.self.marks
          (c.forget.ensures.forgotten (c.forget.ensures.held ∙ ap not enough)) kept.returns
    ] refl in
    record { sound = kept.sound; boxes = kept.boxes; table = kept.table; returns = returns; counted = kept.counted; since = kept.since }
