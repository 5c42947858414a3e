-- The kept pairs are those of the skins, mended or asked for anew, and these have the pairs of the boxes.
use Rattle.std.proofs.Common.{◌≡◌, ◌==◌, ◌++◌, not, filter, get_or, Some, sym, ap, ◌∙◌, subst}
use Rattle.std.specs.Result.{OnOk}
use Rattle.std.specs.FinMap.{get}
use Rattle.slot_lists.specs.RisingLaws.{filtered_rise}
use Rattle.broad_index.specs.declared.query.Query.TheVariants.{Region}
use Rattle.broad_index.specs.Found.{found}
use Rattle.broad_index.specs.Near.{near, precedes}
use Rattle.broad_index.specs.Reach.{reach}
use Rattle.broad_index.specs.Touched.{ordered_pairs}
use Rattle.skin_index.specs.Skins.{boxes_meet, pairs_met, AreSkins, ArePairsKept}
use Rattle.skin_index.proofs.Skins.{near_kept}
use Rattle.skin_index.proofs.KeptPairs.{kept_near, reach_found, met_by_rest, met_by_all}
use Rattle.skin_index.proofs.skinned.SkinnedBroadPhase.pairs.Given as given
use Rattle.skin_index.proofs.skinned.SkinnedBroadPhase.pairs.Goals.{then-are_few+in_default+in_ok-mend, else-are_few+in_ok-pairs}
use Rattle.skin_index.proofs.skinned.SkinnedBroadPhase.pairs.Goals as goal

pub slots-preserved-in_ok-push_others : goal.slots-preserved-in_ok-push_others
slots-preserved-in_ok-push_others g c =
    let s = c.self.inside in
    let skins = g.B.BroadPhase.bodies s.index in
    let law = c.member_laws.ensures in
    let rest = c.slots.rest.now in
    let slot = get_or rest 0 0 in
    let skin = c.in-Some.skin in
    let before = c.slots.room.found.items in
    let here : get skins slot ≡ Some skin = sym (c.box_of.ensures.held (c.self.invariant.same_spent ∙ c.if-self.false)) ∙ c.in-Some.is in
    let met : c.hits.new.out.items ≡ found skins (Region skin) =
    c.in_ok-hits.ensures.ok ∙ ap (λ l. l ++ found skins (Region skin)) c.clear-in-Some.ensures.items in
    let more : c.push_others.new.found.items ≡ before ++ ordered_pairs slot (reach skins slot) =
    c.in_ok-push_others.ensures.ok ∙ ap (λ l. before ++ ordered_pairs slot (filter (λ other. not (other == slot)) l)) met
    ∙ ap (λ l. before ++ ordered_pairs slot l) (reach_found skins (law.found skins) (law.found_rises skins) (law.is_reach skins) slot skin here) in
    met_by_rest skins rest before c.push_others.new.found.items c.in-len1-up.len_at_least more ∙ c.slots.invariant

-- either way the boxes stay as they are
same_bodies : (g : given.Over) (c : goal.After-push_meeting g) → c.if-are_few.self-inside.bodies ≡ c.self.inside.bodies
same_bodies g c = elim c.if-are_few.branch as (λ _. c.if-are_few.self-inside.bodies ≡ c.self.inside.bodies) [
  | then-are_few+in_default+in_ok-mend w ↦ ap (λ r. r.bodies) w.self-inside-is
  | else-are_few+in_ok-pairs w ↦ ap (λ r. r.bodies) w.self-inside-is
]

-- and the kept pairs are those of the skins
kept : (g : given.Over) (c : goal.After-push_meeting g) → c.if-are_few.self-inside.near.items ≡ near (g.B.BroadPhase.bodies c.self.inside.index)
kept g c =
    let skins = g.B.BroadPhase.bodies c.self.inside.index in
    elim c.if-are_few.branch as (λ _. c.if-are_few.self-inside.near.items ≡ near skins) [
      | then-are_few+in_default+in_ok-mend w ↦
          ap (λ r. r.near.items) w.self-inside-is
          ∙ w.in_ok-mend.ensures.ok skins (c.self.invariant.pairs_kept c.if-self.false (c.are_few.ensures.few w.if-are_few.true))
          (met_by_all skins w.slots.rest.now w.slots.room.found.items (pairs_met skins w.as_slice-rest.result.now) w.in_default.len_below w.slots.invariant
          ∙ ap (pairs_met skins) w.as_slice-rest.ensures.value)
      | else-are_few+in_ok-pairs w ↦
          ap (λ r. r.near.items) w.self-inside-is ∙ w.in_ok-pairs.ensures.ok ∙ ap (λ l. l ++ near skins) w.clear-else-are_few.ensures.items
    ]

pub invariant_of-self-2 : goal.invariant_of-self-2
invariant_of-self-2 g c =
    let s = c.self.inside in
    let t = c.if-are_few.self-inside in
    let skins = g.B.BroadPhase.bodies s.index in
    let law = c.member_laws.ensures in
    let marked = c.clear-2.new.self in
    let index : g.B.BroadPhase.bodies t.index ≡ skins = elim c.if-are_few.branch as (λ _. g.B.BroadPhase.bodies t.index ≡ skins) [
      | then-are_few+in_default+in_ok-mend w ↦ ap (λ r. g.B.BroadPhase.bodies r.index) w.self-inside-is
      | else-are_few+in_ok-pairs w ↦ ap (λ r. g.B.BroadPhase.bodies r.index) w.self-inside-is ∙ w.pairs.ensures.bodies
    ] in
    let index_spent : g.B.BroadPhase.spent t.index ≡ g.B.BroadPhase.spent s.index =
    elim c.if-are_few.branch as (λ _. g.B.BroadPhase.spent t.index ≡ g.B.BroadPhase.spent s.index) [
      | then-are_few+in_default+in_ok-mend w ↦ ap (λ r. g.B.BroadPhase.spent r.index) w.self-inside-is
      | else-are_few+in_ok-pairs w ↦ ap (λ r. g.B.BroadPhase.spent r.index) w.self-inside-is ∙ w.pairs.ensures.spent
    ] in
    let spent : t.spent ≡ s.spent = elim c.if-are_few.branch as (λ _. t.spent ≡ s.spent) [
      | then-are_few+in_default+in_ok-mend w ↦ ap (λ r. r.spent) w.self-inside-is
      | else-are_few+in_ok-pairs w ↦ ap (λ r. r.spent) w.self-inside-is
    ] in
    record {
      same_spent = index_spent ∙ c.self.invariant.same_spent ∙ sym spent;
      held = λ _. subst (λ m. AreSkins m (g.B.BroadPhase.bodies t.index)) (sym (same_bodies g c))
          (subst (λ m. AreSkins s.bodies m) (sym index) (c.self.invariant.held c.if-self.false));
      pairs_kept = λ _ _. subst (λ m. ArePairsKept m marked.marks marked.slots.items t.near.items) (sym index)
          (subst (λ l. ArePairsKept skins marked.marks marked.slots.items l) (sym (kept g c))
          (kept_near skins (law.near_rises skins) (law.near skins) marked.marks marked.slots.items c.clear-2.ensures.are));
    }

pub returns-clause-ok : goal.returns-clause-ok
returns-clause-ok g c =
    let s = c.self.inside in
    let t = c.if-are_few.self-inside in
    let skins = g.B.BroadPhase.bodies s.index in
    let law = c.member_laws.ensures in
    let exact : filter (boxes_meet s.bodies) (near skins) ≡ near s.bodies =
    law.is_near s.bodies (filter (boxes_meet s.bodies) (near skins))
    (filtered_rise precedes (boxes_meet s.bodies) (near skins) (law.near_rises skins))
    (near_kept c.box_laws.ensures.met c.box_laws.ensures.either_way s.bodies skins (c.self.invariant.held c.if-self.false) (near skins) (law.near skins)) in
    let told : filter (boxes_meet t.bodies) c.deref.result.now ≡ near c.args.self.now.bodies =
    ap (filter (boxes_meet t.bodies)) (c.deref.ensures.value ∙ kept g c) ∙ ap (λ b. filter (boxes_meet b) (near skins)) (same_bodies g c)
    ∙ exact ∙ ap (λ v. near v.bodies) c.self.view_is in
    subst (λ l. OnOk c.push_meeting.result (c.push_meeting.new.out.items ≡ c.args.out.now.items ++ l)) told c.push_meeting.ensures.ok
