-- The pairs of one rising list that another hasn't, one step of a pass over both at a time.
use Rattle.std.proofs.Common.{◌≡◌, ◌<◌, ◌≤◌, true, false, cond, not, ◌||◌, List, [], ◌∷◌, ◌++◌, append_assoc, length}
use Rattle.std.proofs.Common.{get_or, refl, sym, ap, ◌∙◌, arith, subst}
use Rattle.std.specs.List.{list_all}
use Rattle.std.specs.Cmp.{first_so, second_so}
use Rattle.std.specs.Cmp.Derive.{both_true}
use Rattle.std.proofs.lemmas.Bool.Decides.{nat_tests}
use Rattle.slot_lists.specs.Patterns.{rest_of, rest_is}
use Rattle.slot_lists.specs.RisingLaws.{all_weaker}
use Rattle.broad_index.specs.declared.pair.Pair.{Pair}
use Rattle.broad_index.specs.Members.{has_pair, same_pair}
use Rattle.broad_index.specs.Near.{precedes, rises}
use Rattle.engine_tick.specs.Colliding.{without}

-- a list's first pair, where it has one
abbrev pub head : List Pair → Pair
head ps = get_or ps 0 (record { a = 0; b = 0 })

through : (p q r : Pair) → precedes p q ≡ true → precedes q r ≡ true → precedes p r ≡ true
through p q r h g = grind (arith, nat_tests)

apart : (p q : Pair) → precedes p q ≡ true → same_pair p q ≡ false
apart p q h = grind (arith, nat_tests)

apart_back : (p q : Pair) → precedes q p ≡ true → same_pair p q ≡ false
apart_back p q h = grind (arith, nat_tests)

-- a pair that stands before the first of a rising list stands before all of it
before_all : (p q : Pair) (qs : List Pair) → precedes p q ≡ true → rises (q ∷ qs) ≡ true → list_all (precedes p) (q ∷ qs) ≡ true
before_all p q qs lt up = both_true lt (all_weaker (precedes q) (precedes p) (λ r h. through p q r lt h) qs (first_so _ _ up))

has_none : (p : Pair) (qs : List Pair) → list_all (precedes p) qs ≡ true → has_pair qs p ≡ false
has_none p [] h = refl
has_none p (q ∷ qs) h = rw (apart p q (first_so _ _ h)) (has_none p qs (second_so _ _ h))

not_missed : (q : Pair) (qs ps : List Pair) → list_all (precedes q) ps ≡ true → without (q ∷ qs) ps ≡ without qs ps
not_missed q qs [] h = refl
not_missed q qs (p ∷ ps) h =
    ap (λ t. cond (not (t || has_pair qs p)) (p ∷ without (q ∷ qs) ps) (without (q ∷ qs) ps)) (apart_back p q (first_so _ _ h))
    ∙ ap (λ w. cond (not (has_pair qs p)) (p ∷ w) w) (not_missed q qs ps (second_so _ _ h))

-- what stands while two lists are passed
pub record Passes (out left right all : List Pair) : Type 0 where
  pub left_up : rises left ≡ true
  pub right_up : rises right ≡ true
  pub told : out ++ without right left ≡ all

pub step_less : (out left right all : List Pair) → 1 ≤ length left → 1 ≤ length right → precedes (head left) (head right) ≡ true
    → Passes out left right all → Passes (out ++ head left ∷ []) (rest_of left) right all
step_less out [] right all a b lt m = absurd (omega arith)
step_less out (x ∷ xs) [] all a b lt m = absurd (omega arith)
step_less out (x ∷ xs) (y ∷ ys) all a b lt m =
    subst (λ zs. Passes (out ++ x ∷ []) zs (y ∷ ys) all) (sym (rest_is x xs)) (record {
      left_up = second_so _ _ m.left_up;
      right_up = m.right_up;
      told =
          append_assoc out (x ∷ []) (without (y ∷ ys) xs)
          ∙ ap (λ t. out ++ cond (not t) (x ∷ without (y ∷ ys) xs) (without (y ∷ ys) xs))
          (sym (has_none x (y ∷ ys) (before_all x y ys lt m.right_up)))
          ∙ m.told;
    })

pub step_greater : (out left right all : List Pair) → 1 ≤ length left → 1 ≤ length right → precedes (head right) (head left) ≡ true
    → Passes out left right all → Passes out left (rest_of right) all
step_greater out [] right all a b lt m = absurd (omega arith)
step_greater out (x ∷ xs) [] all a b lt m = absurd (omega arith)
step_greater out (x ∷ xs) (y ∷ ys) all a b lt m =
    subst (λ zs. Passes out (x ∷ xs) zs all) (sym (rest_is y ys)) (record {
      left_up = m.left_up;
      right_up = second_so _ _ m.right_up;
      told = ap (λ w. out ++ w) (sym (not_missed y ys (x ∷ xs) (before_all y x xs lt m.left_up))) ∙ m.told;
    })

pub step_equal : (out left right all : List Pair) → 1 ≤ length left → 1 ≤ length right → same_pair (head left) (head right) ≡ true
    → Passes out left right all → Passes out (rest_of left) right all
step_equal out [] right all a b e m = absurd (omega arith)
step_equal out (x ∷ xs) [] all a b e m = absurd (omega arith)
step_equal out (x ∷ xs) (y ∷ ys) all a b e m =
    subst (λ zs. Passes out zs (y ∷ ys) all) (sym (rest_is x xs)) (record {
      left_up = second_so _ _ m.left_up;
      right_up = m.right_up;
      told =
          ap (λ t. out ++ cond (not (t || has_pair ys x)) (x ∷ without (y ∷ ys) xs) (without (y ∷ ys) xs)) (sym e)
          ∙ m.told;
    })

none_right : (pairs : List Pair) → without [] pairs ≡ pairs
none_right [] = refl
none_right (p ∷ ps) = ap (λ qs. p ∷ qs) (none_right ps)

-- where one of the lists has ended, all that is left is told
pub left_ended : (out left right all : List Pair) → length left < 1 → Passes out left right all → out ++ left ≡ all
left_ended out [] right all h m = m.told
left_ended out (x ∷ xs) right all h m = absurd (omega arith)

pub right_ended : (out left right all : List Pair) → length right < 1 → Passes out left right all → out ++ left ≡ all
right_ended out left [] all h m = ap (λ w. out ++ w) (sym (none_right left)) ∙ m.told
right_ended out left (y ∷ ys) all h m = absurd (omega arith)
