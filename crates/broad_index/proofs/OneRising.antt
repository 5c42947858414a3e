-- Rising lists of slots or of pairs that have the same members are one list.
use Rattle.std.proofs.Common.{◌≡◌, ℕ, ◌<◌, true, ◌&&◌, ◌==◌, nat_lt, List, refl, arith, inl, inr, ◌⊎◌}
use Rattle.std.proofs.lemmas.Bool.{eq-eqb, eqb-true, and_parts, or_cases, ltb-true}
use Rattle.slot_lists.specs.RisingLaws.{Tells, one_rising}
use Rattle.broad_index.specs.declared.pair.Pair.{Pair}
use Rattle.broad_index.specs.Near.{precedes, rises}
use Rattle.broad_index.specs.Members.{same_pair, has_pair, has_slot, slots_rise}
use Rattle.broad_index.specs.PairLaws.{is_same, self_same}

slots_tell : Tells (λ x y. x == y) nat_lt
slots_tell = record {
  means = λ x y e. eqb-true x y e;
  self = λ x. eq-eqb x x refl;
  one_way = λ x y h g. let a = ltb-true x y h in let b = ltb-true y x g in absurd (omega arith);
}

pub one_rising_slots : (xs ys : List ℕ) → slots_rise xs ≡ true → slots_rise ys ≡ true → ((k : ℕ) → has_slot xs k ≡ has_slot ys k) → xs ≡ ys
one_rising_slots xs ys r s h = one_rising (λ x y. x == y) nat_lt slots_tell xs ys r s h

record Orders (p q : Pair) : Type 0 where
  either : (p.a < q.a) ⊎ ((p.a ≡ q.a) × (p.b < q.b))

orders : (p q : Pair) → precedes p q ≡ true → Orders p q
orders p q h = record {
  either = elim (or_cases (nat_lt p.a q.a) (p.a == q.a && nat_lt p.b q.b) h) as (λ _. (p.a < q.a) ⊎ ((p.a ≡ q.a) × (p.b < q.b))) [
    | inl e ↦ inl (ltb-true p.a q.a e)
    | inr e ↦ let r = and_parts (p.a == q.a) (nat_lt p.b q.b) e in inr (eqb-true p.a q.a r.0, ltb-true p.b q.b r.1)
  ];
}

asymmetric : (p q : Pair) → precedes p q ≡ true → precedes q p ≡ true → ⊥
asymmetric p q h g = elim (orders p q h).either as (λ _. ⊥) [
  | inl a ↦ elim (orders q p g).either as (λ _. ⊥) [ inl b ↦ absurd (omega arith) | inr b ↦ let c = b.0 in absurd (omega arith) ]
  | inr a ↦ let d = a.0 in let e = a.1 in elim (orders q p g).either as (λ _. ⊥) [ inl b ↦ absurd (omega arith) | inr b ↦ let c = b.1 in absurd (omega arith) ]
]

pairs_tell : Tells same_pair precedes
pairs_tell = record { means = is_same; self = self_same; one_way = asymmetric }

pub one_rising_pairs : (xs ys : List Pair) → rises xs ≡ true → rises ys ≡ true → ((p : Pair) → has_pair xs p ≡ has_pair ys p) → xs ≡ ys
one_rising_pairs xs ys r s h = one_rising same_pair precedes pairs_tell xs ys r s h
