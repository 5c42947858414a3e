-- Serves proofs alone: the least of some members under a total order.
use Rattle.std.proofs.Common.{◌≡◌, refl, sym, ap, subst, ◌∙◌, Bool, true, false, cond, ◌||◌, List, [], ◌∷◌, inl, inr}
use Rattle.std.specs.List.{fold, list_any, AllByRecursion}
use Rattle.std.specs.declared.cmp.Ordering.{Ordering}
use Rattle.std.specs.declared.cmp.Ordering.TheVariants.{Less, Equal, Greater}
use Rattle.std.specs.Ordering.{is_lt, is_gt, ordering_reverse, ord_min}
use Rattle.std.specs.Cmp.{IsTotalOrder}
use Rattle.std.proofs.lemmas.Bool.{cases_Bool}
use Rattle.std.proofs.lemmas.Cmp.{upto, tied_itself}

-- neither of two tests passes
both_fail : (x y : Bool) → x ≡ false → y ≡ false → (x || y) ≡ false
both_fail true y e f = e
both_fail false y e f = f

first_fails : (x y : Bool) → (x || y) ≡ false → x ≡ false
first_fails true y e = e
first_fails false y e = refl

last_fails : (x y : Bool) → (x || y) ≡ false → y ≡ false
last_fails true true e = e
last_fails true false e = refl
last_fails false y e = e

module _ {X : Type 0} (cmp : X → X → Ordering) (o : IsTotalOrder cmp) where
  lt_or : (r : Ordering) → is_lt r ≡ false → is_gt (ordering_reverse r) ≡ false
  lt_or Less e = e
  lt_or Equal e = refl
  lt_or Greater e = refl

  gt_of_lt : (r : Ordering) → is_lt r ≡ true → is_gt r ≡ false
  gt_of_lt Less e = refl
  gt_of_lt Equal e = refl
  gt_of_lt Greater e = sym e

  self_not : (x : X) → is_gt (cmp x x) ≡ false
  self_not x = ap is_gt (tied_itself o x)

  -- the lesser of two is at most both
  at_first : (a b : X) → is_gt (cmp (ord_min cmp a b) a) ≡ false
  at_first a b = elim (cases_Bool (is_lt (cmp b a))) as (λ _. is_gt (cmp (ord_min cmp a b) a) ≡ false) [
    | inl e ↦ subst (λ t. is_gt (cmp (cond t b a) a) ≡ false) (sym e) (gt_of_lt (cmp b a) e)
    | inr e ↦ subst (λ t. is_gt (cmp (cond t b a) a) ≡ false) (sym e) (self_not a)
  ]

  at_second : (a b : X) → is_gt (cmp (ord_min cmp a b) b) ≡ false
  at_second a b = elim (cases_Bool (is_lt (cmp b a))) as (λ _. is_gt (cmp (ord_min cmp a b) b) ≡ false) [
    | inl e ↦ subst (λ t. is_gt (cmp (cond t b a) b) ≡ false) (sym e) (self_not b)
    | inr e ↦ subst (λ t. is_gt (cmp (cond t b a) b) ≡ false) (sym e) (ap is_gt (o.antisymm a b) ∙ lt_or (cmp b a) e)
  ]

  -- the least is at most each
  pub none_below : (a : X) (xs : List X) → list_any (λ x. is_gt (cmp (fold (ord_min cmp) a xs) x)) (a ∷ xs) ≡ false
  none_below a [] = both_fail (is_gt (cmp a a)) false (self_not a) refl
  none_below a (x ∷ xs) =
      let m : X = fold (ord_min cmp) (ord_min cmp a x) xs in
      let rest : list_any (λ y. is_gt (cmp m y)) (ord_min cmp a x ∷ xs) ≡ false = none_below (ord_min cmp a x) xs in
      let low : is_gt (cmp m (ord_min cmp a x)) ≡ false = first_fails (is_gt (cmp m (ord_min cmp a x))) (list_any (λ y. is_gt (cmp m y)) xs) rest in
      both_fail (is_gt (cmp m a)) (is_gt (cmp m x) || list_any (λ y. is_gt (cmp m y)) xs) (upto o m (ord_min cmp a x) a low (at_first a x))
      (both_fail (is_gt (cmp m x)) (list_any (λ y. is_gt (cmp m y)) xs) (upto o m (ord_min cmp a x) x low (at_second a x))
      (last_fails (is_gt (cmp m (ord_min cmp a x))) (list_any (λ y. is_gt (cmp m y)) xs) rest))

-- the least is one of them
pub one_of : {X : Type 0} (cmp : X → X → Ordering) (P : X → Type 0) (a : X) (xs : List X) → P a → AllByRecursion P xs → P (fold (ord_min cmp) a xs)
one_of cmp P a [] h all = h
one_of cmp P a (x ∷ xs) h all = one_of cmp P (ord_min cmp a x) xs (either (is_lt (cmp x a))) all.1
  where
    either : (b : Bool) → P (cond b x a)
    either true = all.0
    either false = h
