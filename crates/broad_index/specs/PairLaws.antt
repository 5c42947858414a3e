-- Serves proofs alone: what the test of two pairs and their order tell.
use Rattle.std.proofs.Common.{◌≡◌, ℕ, ◌<◌, true, ◌&&◌, ◌||◌, ◌==◌, nat_lt, refl, sym, ap, ◌∙◌, arith}
use Rattle.std.specs.Cmp.{ranked}
use Rattle.std.specs.Ordering.{nat_cmp, is_eq, eq_by_cmp, ordering_then}
use Rattle.std.specs.declared.cmp.Ordering.{Ordering}
use Rattle.std.specs.declared.cmp.Ordering.TheVariants.{Less, Equal, Greater}
use Rattle.std.proofs.lemmas.Bool.{eq-eqb, eqb-true, and_parts, and_from}
use Rattle.std.proofs.lemmas.Bool.Decides.{nat_tests}
use Rattle.broad_index.specs.declared.pair.Pair.{Pair}
use Rattle.broad_index.specs.Members.{same_pair}
use Rattle.broad_index.specs.Near.{precedes}
use Rattle.broad_index.specs.PairOrder.{pair_cmp}
use Rattle.fixed_box.proofs.Numbers.{eq_cmp}

pub is_same : (p q : Pair) → same_pair p q ≡ true → p ≡ q
is_same p q h =
    let r = and_parts (p.a == q.a) (p.b == q.b) h in ap (λ x. record { a = x; b = p.b }) (eqb-true p.a q.a r.0)
    ∙ ap (λ y. record { a = q.a; b = y }) (eqb-true p.b q.b r.1)

pub self_same : (p : Pair) → same_pair p p ≡ true
self_same p = and_from (p.a == p.a) (p.b == p.b) (eq-eqb p.a p.a refl) (eq-eqb p.b p.b refl)

-- they are one where they tie
pub pair_ties : (p q : Pair) → same_pair p q ≡ eq_by_cmp pair_cmp p q
pair_ties p q =
    ap (λ b. b && (p.b == q.b)) (sym (eq_cmp p.a q.a)) ∙ ap (λ b. eq_by_cmp nat_cmp p.a q.a && b) (sym (eq_cmp p.b q.b))
    ∙ both (nat_cmp p.a q.a) (nat_cmp p.b q.b)
  where
    both : (r s : Ordering) → (is_eq r && is_eq s) ≡ is_eq (ordering_then r s)
    both Less s = refl
    both Equal s = refl
    both Greater s = refl

by_first : (a c b d : ℕ) → a < c → (nat_lt a c || (a == c && nat_lt b d)) ≡ true
by_first a c b d l = grind (arith, nat_tests)

by_second : (a c b d : ℕ) → a ≡ c → b < d → (nat_lt a c || (a == c && nat_lt b d)) ≡ true
by_second a c b d e l = grind (arith, nat_tests)

pub less_precedes : (p q : Pair) → pair_cmp p q ≡ Less → precedes p q ≡ true
less_precedes p q h = elim (nat_cmp p.a q.a) as (λ r. r ≡ nat_cmp p.a q.a → ordering_then r (nat_cmp p.b q.b) ≡ Less → precedes p q ≡ true) [
  | Less ↦ λ e _. by_first p.a q.a p.b q.b (ranked p.a q.a Less e)
  | Equal ↦ λ e g. by_second p.a q.a p.b q.b (ranked p.a q.a Equal e) (ranked p.b q.b Less (sym g))
  | Greater ↦ λ _ g. cc
] refl h

pub greater_precedes : (p q : Pair) → pair_cmp p q ≡ Greater → precedes q p ≡ true
greater_precedes p q h = elim (nat_cmp p.a q.a) as (λ r. r ≡ nat_cmp p.a q.a → ordering_then r (nat_cmp p.b q.b) ≡ Greater → precedes q p ≡ true) [
  | Less ↦ λ _ g. cc
  | Equal ↦ λ e g. by_second q.a p.a q.b p.b (sym (ranked p.a q.a Equal e)) (ranked p.b q.b Greater (sym g))
  | Greater ↦ λ e _. by_first q.a p.a q.b p.b (ranked p.a q.a Greater e)
] refl h

pub equal_is : (p q : Pair) → pair_cmp p q ≡ Equal → p ≡ q
equal_is p q h = is_same p q (pair_ties p q ∙ ap is_eq h)
