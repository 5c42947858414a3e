-- The box lies in its skin, the old one or a new one.
use Rattle.std.proofs.Common.{◌≡◌, ◌&&◌, true, sym, ap, ◌∙◌, subst}
use Rattle.std.specs.FinMap.{contains_key, insert}
use Rattle.fixed_box.proofs.Bools.{and_false}
use Rattle.skin_index.specs.Skins.{is_inside, AreSkins}
use Rattle.skin_index.proofs.KeptPairs.{skinned_put}
use Rattle.skin_index.proofs.Skins.{skins_moved}
use Rattle.skin_index.proofs.skinned.SkinnedBroadPhase.shift.Goals as goal

pub invariant_of-self : goal.invariant_of-self
invariant_of-self g c =
    let s = c.self.inside in
    let skins = g.B.BroadPhase.bodies s.index in
    let there : contains_key s.bodies c.args.slot ≡ true =
    ap (λ v. contains_key v.bodies c.args.slot) c.self.view_is
    ∙ c.requires.present (ap (λ b. g.B.BroadPhase.RUNS_OUT && b) (sym (ap (λ v. v.spent) c.self.view_is) ∙ c.if-self.false)
    ∙ and_false g.B.BroadPhase.RUNS_OUT) in
    let within = ap (λ o. is_inside o c.args.body) (sym (c.box_of.ensures.held (c.self.invariant.same_spent ∙ c.if-self.false)))
    ∙ sym c.is_inside.ensures ∙ c.if-is_inside.true in
    record {
      same_spent = c.self.invariant.same_spent;
      held = λ sound. subst (λ m. AreSkins m skins) (sym c.set.ensures)
          (skins_moved s.bodies skins (c.self.invariant.held sound) c.args.slot c.args.body there within);
      pairs_kept = c.self.invariant.pairs_kept;
    }

pub invariant_of-self-2 : goal.invariant_of-self-2
invariant_of-self-2 g c =
    let s = c.self.inside in
    let old = g.B.BroadPhase.bodies s.index in
    skinned_put s.bodies old (g.B.BroadPhase.spent s.index) s.spent s.marked s.near.items c.self.invariant c.if-self.false
    (c.keeping_laws.ensures.inserted old)
    c.args.slot c.args.body c.skin_of.result c.skin_of.ensures c.mark.new.self c.mark.ensures.were_few c.mark.ensures.are c.mark.ensures.marks
    _ _ _ c.set-2.ensures (c.in_ok-shift.ensures.ok ∙ ap (λ m. insert m c.args.slot c.skin_of.result) c.clear_exchanges.ensures.bodies)
    c.in_ok-shift.ensures.sound
