-- Which pairs of live boxes are listed.
use Rattle.std.proofs.Common.{◌≡◌, ◌<◌, true, false, cond, nat_lt, List, [], ◌∷◌, map, filter, sym, ap, ◌∙◌, subst, arith}
use Rattle.std.proofs.Common.{inl, inr}
use Rattle.std.specs.List.{Contains, list_all}
use Rattle.std.specs.Cmp.{first_so, second_so}
use Rattle.std.proofs.lemmas.Bool.{cases_Bool, ltb-true}
use Rattle.std.proofs.lemmas.List.Elements.{Contains-append_left, Contains-append_right, Contains-append_cases}
use Rattle.live_table.specs.declared.live.Live.{Live}
use Rattle.live_table.specs.Entries.{slot_of, rises}
use Rattle.pair_events.specs.declared.hpair.HPair.{HPair}
use Rattle.live_queries.specs.Pairs.{may_touch, partners, pairs_of}
use Rattle.live_queries.specs.PairLaw.{IsPairOf}
use Rattle.live_queries.proofs.Members.{here, there, head_or_later, nothing}

abbrev pair : Live → Live → HPair
pair a b = record { a = a.handle; b = b.handle }

above : (e : Live) (es : List Live) (b : Live) → list_all (λ o. nat_lt (slot_of e) (slot_of o)) es ≡ true → Contains es b → slot_of e < slot_of b
above e [] b h c = absurd (nothing b c)
above e (x ∷ es) b h c = elim (head_or_later x es b c) as (λ _. slot_of e < slot_of b) [
  | inl s ↦ subst (λ o. slot_of e < slot_of o) s (ltb-true (slot_of e) (slot_of x) (first_so _ _ h))
  | inr r ↦ above e es b (second_so _ _ h) r
]

-- a box that another one pairs with
record IsPartner (a : Live) (later : List Live) (p : HPair) : Type 0 where
  pub other : Live
  pub lives : Contains later other
  pub touches : may_touch a other ≡ true
  pub is : p ≡ pair a other

further : (a e : Live) (later : List Live) (p : HPair) → IsPartner a later p → IsPartner a (e ∷ later) p
further a e later p q = record { other = q.other; lives = there e later q.other q.lives; touches = q.touches; is = q.is }

from_partners : (a : Live) (later : List Live) (p : HPair) → Contains (partners a later) p → IsPartner a later p
from_partners a [] p c = absurd (nothing p c)
from_partners a (e ∷ later) p c =
    elim (cases_Bool (may_touch a e)) as (λ _. IsPartner a (e ∷ later) p) [
      | inl t ↦
          elim (head_or_later (pair a e) (partners a later) p
          (subst (λ m. Contains (map (pair a) (cond m (e ∷ filter (may_touch a) later) (filter (may_touch a) later))) p) t c)) as
          (λ _. IsPartner a (e ∷ later) p) [
            | inl s ↦ record { other = e; lives = here e later; touches = t; is = sym s }
            | inr r ↦ further a e later p (from_partners a later p r)
          ]
      | inr f ↦
          further a e later p (from_partners a later p
          (subst (λ m. Contains (map (pair a) (cond m (e ∷ filter (may_touch a) later) (filter (may_touch a) later))) p) f c))
    ]

to_partners : (a : Live) (later : List Live) (b : Live) → Contains later b → may_touch a b ≡ true → Contains (partners a later) (pair a b)
to_partners a [] b c t = absurd (nothing b c)
to_partners a (e ∷ later) b c t = elim (head_or_later e later b c) as (λ _. Contains (partners a (e ∷ later)) (pair a b)) [
  | inl s ↦
      subst (λ o. Contains (partners a (e ∷ later)) (pair a o)) s
      (subst (λ m. Contains (map (pair a) (cond m (e ∷ filter (may_touch a) later) (filter (may_touch a) later))) (pair a e)) (sym (ap (may_touch a) s ∙ t))
      (here (pair a e) (partners a later)))
  | inr r ↦
      let rest : Contains (partners a later) (pair a b) = to_partners a later b r t in
      elim (may_touch a e) as (λ m. Contains (map (pair a) (cond m (e ∷ filter (may_touch a) later) (filter (may_touch a) later))) (pair a b)) [
        | true ↦ there (pair a e) (partners a later) (pair a b) rest
        | false ↦ rest
      ]
]

pub from_pairs : (es : List Live) (p : HPair) → rises es ≡ true → Contains (pairs_of es) p → IsPairOf es p
from_pairs [] p r c = absurd (nothing p c)
from_pairs (a ∷ later) p r c = elim (Contains-append_cases (partners a later) (pairs_of later) p c) as (λ _. IsPairOf (a ∷ later) p) [
  | inl q ↦
      let partner : IsPartner a later p = from_partners a later p q in
      record {
        first = a;
        second = partner.other;
        first_lives = here a later;
        second_lives = there a later partner.other partner.lives;
        lower = above a later partner.other (first_so _ _ r) partner.lives;
        touch = partner.touches;
        is = partner.is;
      }
  | inr q ↦
      let of : IsPairOf later p = from_pairs later p (second_so _ _ r) q in
      record {
        first = of.first;
        second = of.second;
        first_lives = there a later of.first of.first_lives;
        second_lives = there a later of.second of.second_lives;
        lower = of.lower;
        touch = of.touch;
        is = of.is;
      }
]

listed : (es : List Live) (a b : Live) → rises es ≡ true → Contains es a → Contains es b → slot_of a < slot_of b → may_touch a b ≡ true
    → Contains (pairs_of es) (pair a b)
listed [] a b r ca cb lt t = absurd (nothing a ca)
listed (e ∷ later) a b r ca cb lt t = elim (head_or_later e later a ca) as (λ _. Contains (pairs_of (e ∷ later)) (pair a b)) [
  | inl s ↦ elim (head_or_later e later b cb) as (λ _. Contains (pairs_of (e ∷ later)) (pair a b)) [
    | inl u ↦ let one : slot_of a ≡ slot_of b = ap slot_of (sym s ∙ u) in absurd (omega arith)
    | inr q ↦
        subst (λ o. Contains (pairs_of (e ∷ later)) (pair o b)) s
        (Contains-append_left (partners e later) (pairs_of later) (pair e b) (to_partners e later b q (ap (λ o. may_touch o b) s ∙ t)))
  ]
  | inr q ↦ elim (head_or_later e later b cb) as (λ _. Contains (pairs_of (e ∷ later)) (pair a b)) [
    | inl u ↦
        let behind : slot_of e < slot_of a = above e later a (first_so _ _ r) q in
        let one : slot_of e ≡ slot_of b = ap slot_of u in absurd (omega arith)
    | inr v ↦ Contains-append_right (partners e later) (pairs_of later) (pair a b) (listed later a b (second_so _ _ r) q v lt t)
  ]
]

pub to_pairs : (es : List Live) (p : HPair) → rises es ≡ true → IsPairOf es p → Contains (pairs_of es) p
to_pairs es p r of =
    subst (Contains (pairs_of es)) (sym of.is) (listed es of.first of.second r of.first_lives of.second_lives of.lower of.touch)
