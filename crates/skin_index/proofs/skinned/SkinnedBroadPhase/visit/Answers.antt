-- All skins were shown, so that all boxes were.
use Rattle.std.proofs.Common.{◌≡◌, ℕ, List, ◌++◌, sym, ◌∙◌, subst, rules}
use Rattle.std.specs.FinMap.{entries}
use Rattle.fixed_box.specs.Bounds.{Bounds}
use Rattle.skin_index.specs.ExactShown.{SawExact}
use Rattle.skin_index.proofs.Exacts.{all_shown}
use Rattle.skin_index.proofs.skinned.SkinnedBroadPhase.visit.Goals as goal

pub returns-clause-seen : goal.returns-clause-seen
returns-clause-seen g c seen before =
    let s = c.self.inside in
    let skins = g.B.BroadPhase.bodies s.index in
    let saw = g.V.Visitor.saw c.args.visitor.now in
    let now = g.V.Visitor.saw c.visit.new.visitor.visitor.now in
    let exact = c.new-exact.result in
    let same_bodies = c.new-exact.ensures.bodies in
    let started : (first : List (ℕ × Bounds)) → SawExact s.bodies saw first → SawExact exact.bodies.now (g.V.Visitor.saw exact.visitor.now) first =
    λ first h. subst (λ b. SawExact b (g.V.Visitor.saw exact.visitor.now) first) (sym same_bodies)
    (subst (λ v. SawExact s.bodies (g.V.Visitor.saw v.now) first) (sym c.new-exact.ensures.visitor) h) in
    let shown = subst (λ v. now (seen ++ entries v.bodies)) c.self.view_is
    (all_shown s.bodies skins (c.self.invariant.held c.if-self.false) c.member_laws.ensures.one_rising_slots saw now
    (λ first h. subst (λ b. SawExact b now (first ++ entries skins)) (c.in_ok-visit.ensures.kept.0 ∙ same_bodies)
    (c.in_ok-visit.ensures.seen first (started first h))) seen before) in
    let same : c.visit.new.visitor.visitor.now ≡ _ = search rules in
    subst (λ v. g.V.Visitor.saw v (seen ++ entries c.args.self.now.bodies)) same shown
