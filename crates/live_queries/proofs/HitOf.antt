-- What is found under a slot is the hit of the live box that has it.
use Rattle.std.proofs.Common.{◌≡◌, ℕ, true, cond, ◌&&◌, ◌==◌, List, [], ◌∷◌, Option, Some, None, refl, sym, ap, ◌∙◌, subst, inl, inr}
use Rattle.std.specs.Prelude.{is_some}
use Rattle.std.proofs.lemmas.Bool.{eqb-true, cases_Bool}
use Rattle.fixed_box.specs.Bounds.{Bounds}
use Rattle.ray_slabs.specs.Crossing.{Fraction}
use Rattle.box_cast.specs.Cast.{IsSameValue}
use Rattle.live_table.specs.declared.live.Live.{Live}
use Rattle.live_table.specs.Entries.{slot_of, live_at}
use Rattle.live_queries.specs.declared.groups.Groups.{Groups}
use Rattle.live_queries.specs.Pairs.{is_asked_for}
use Rattle.live_queries.specs.Queries.{is_met}
use Rattle.live_queries.specs.Beside.{IsBeside, IsHit, passing, met_at}
use Rattle.live_queries.specs.declared.hit.Hit.{Hit}

-- the box that a slot has bears that slot
slot_found : (slot : ℕ) (es : List Live) (e : Live) → live_at slot es ≡ Some e → slot_of e ≡ slot
slot_found slot [] e is = let no : ⊥ = cc in absurd no
slot_found slot (x ∷ es) e is = elim (cases_Bool (slot_of x == slot)) as (λ _. slot_of e ≡ slot) [
  | inl t ↦
      let found : Some x ≡ Some e = sym (ap (λ b. cond b (Some x) (live_at slot es)) t) ∙ is in
      let one : x ≡ e = cc in ap slot_of (sym one) ∙ eqb-true (slot_of x) slot t
  | inr f ↦ slot_found slot es e (sym (ap (λ b. cond b (Some x) (live_at slot es)) f) ∙ is)
]

met : (t : Fraction) (o : Option Fraction) → IsSameValue (Some t) o → is_some o ≡ true
met t None h = absurd h
met t (Some u) h = refl

-- a live box that is asked for and met on the way
pub one_met : (place : Bounds → Option Fraction) (groups : Groups) (entries : List Live) (slot : ℕ) (e : Live) → live_at slot entries ≡ Some e → (t : Fraction)
    → is_asked_for groups e ≡ true → IsSameValue (Some t) (place e.body)
    → IsBeside (IsHit place entries) (Some (record { entry = t; slot = slot })) (met_at place groups entries slot)
one_met place groups entries slot e is t asked same =
    let bears : slot_of e ≡ slot = slot_found slot entries e is in
    let hit : Hit = record { entry = t; slot = slot } in
    subst (λ o. IsBeside (IsHit place entries) (Some hit) (passing (is_met place groups) o)) (sym is)
    (subst (λ b. IsBeside (IsHit place entries) (Some hit) (cond b (Some e) None))
    (sym (ap (λ b. is_some (place e.body) && b) asked ∙ ap (λ b. b && true) (met t (place e.body) same)))
    (record { slot = sym bears; live = ap (λ k. live_at k entries) bears ∙ is; same = same }))
