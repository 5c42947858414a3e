-- Two rising lists merged, the first without what fails a test.
use Rattle.std.proofs.Common.{◌≡◌, ℕ, ◌≤◌, Bool, true, false, cond, ◌&&◌, ◌||◌, ◌==◌, nat_lt, List, [], ◌∷◌, ◌++◌, append_assoc, length}
use Rattle.std.proofs.Common.{get_or, append-nil, ◌⊎◌, ⊎_elim, refl, sym, ap, ◌∙◌, arith, subst}
use Rattle.std.specs.List.{list_all, filter}
use Rattle.std.specs.Cmp.{first_so, second_so}
use Rattle.std.specs.Cmp.Derive.{both_true}
use Rattle.std.proofs.lemmas.Bool.Decides.{nat_tests}
use Rattle.std.proofs.lemmas.List.Folds.{list_any-append}
use Rattle.broad_index.specs.declared.pair.Pair.{Pair}
use Rattle.slot_lists.specs.Patterns.{rest_of, rest_is}
use Rattle.slot_lists.specs.RisingLaws.{all_filtered, all_weaker, filtered_rise}
use Rattle.broad_index.specs.Near.{precedes, rises}
use Rattle.broad_index.specs.Members.{same_pair, has_pair}
use Rattle.fixed_box.proofs.Bools.{or_assoc}

through : (a b c d e f : ℕ) → (nat_lt a c || (a == c && nat_lt b d)) ≡ true → (nat_lt c e || (c == e && nat_lt d f)) ≡ true
    → (nat_lt a e || (a == e && nat_lt b f)) ≡ true
through a b c d e f h g = grind (arith, nat_tests)

past : (p q : Pair) (qs : List Pair) → precedes p q ≡ true → list_all (precedes q) qs ≡ true → list_all (precedes p) qs ≡ true
past p q qs h = all_weaker (precedes q) (precedes p) (λ r g. through p.a p.b q.a q.b r.a r.b h g) qs

rises_between : (zs xs ys : List Pair) (x y : Pair) → rises (zs ++ x ∷ xs) ≡ true → rises (zs ++ y ∷ ys) ≡ true → precedes x y ≡ true
    → rises ((zs ++ x ∷ []) ++ y ∷ ys) ≡ true
rises_between [] xs ys x y u v lt = both_true (both_true lt (past x y ys lt (first_so _ _ v))) v
rises_between (z ∷ zs) xs ys x y u v lt =
    both_true (behind zs (first_so _ _ u) (first_so _ _ v)) (rises_between zs xs ys x y (second_so _ _ u) (second_so _ _ v) lt)
  where
    behind : (ws : List Pair) → list_all (precedes z) (ws ++ x ∷ xs) ≡ true → list_all (precedes z) (ws ++ y ∷ ys) ≡ true
        → list_all (precedes z) ((ws ++ x ∷ []) ++ y ∷ ys) ≡ true
    behind [] a b = both_true (first_so _ _ a) b
    behind (w ∷ ws) a b = both_true (first_so _ _ a) (behind ws (second_so _ _ a) (second_so _ _ b))

rises_without : (zs ys : List Pair) (y : Pair) → rises (zs ++ y ∷ ys) ≡ true → rises (zs ++ ys) ≡ true
rises_without [] ys y u = second_so _ _ u
rises_without (z ∷ zs) ys y u = both_true (behind zs (first_so _ _ u)) (rises_without zs ys y (second_so _ _ u))
  where
    behind : (ws : List Pair) → list_all (precedes z) (ws ++ y ∷ ys) ≡ true → list_all (precedes z) (ws ++ ys) ≡ true
    behind [] a = second_so _ _ a
    behind (w ∷ ws) a = both_true (first_so _ _ a) (behind ws (second_so _ _ a))

-- a list's first pair
abbrev pub head : List Pair → Pair
head ps = get_or ps 0 (record { a = 0; b = 0 })

or_moves : (a b c d : Bool) → ((a || (b || false)) || (c || d)) ≡ (a || ((b || c) || d))
or_moves true b c d = refl
or_moves false true c d = refl
or_moves false false c d = refl

or_moves_right : (a b c d : Bool) → ((a || (b || false)) || (c || d)) ≡ (a || (c || (b || d)))
or_moves_right true b c d = refl
or_moves_right false true true d = refl
or_moves_right false true false d = refl
or_moves_right false false c d = refl

drop_same : (a b c d : Bool) → (a || (c || (b || d))) ≡ (a || ((b || c) || (b || d)))
drop_same true b c d = refl
drop_same false true true d = refl
drop_same false true false d = refl
drop_same false false c d = refl

-- what passes a test of a list stands where the list may
rises_kept : (keep : Pair → Bool) (zs xs : List Pair) → rises (zs ++ xs) ≡ true → rises (zs ++ filter keep xs) ≡ true
rises_kept keep [] xs u = filtered_rise precedes keep xs u
rises_kept keep (z ∷ zs) xs u = both_true (behind zs (first_so _ _ u)) (rises_kept keep zs xs (second_so _ _ u))
  where
    behind : (ws : List Pair) → list_all (precedes z) (ws ++ xs) ≡ true → list_all (precedes z) (ws ++ filter keep xs) ≡ true
    behind [] a = all_filtered (precedes z) keep xs a
    behind (w ∷ ws) a = both_true (first_so _ _ a) (behind ws (second_so _ _ a))

-- what stands while two lists are merged, of the first what passes a test
pub record Merges (keep : Pair → Bool) (out left right : List Pair) (goal : Pair → Bool) : Type 0 where
  pub left_up : rises (out ++ left) ≡ true
  pub right_up : rises (out ++ right) ≡ true
  pub members : (p : Pair) → (has_pair out p || (has_pair (filter keep left) p || has_pair right p)) ≡ goal p

module _ (keep : Pair → Bool) (out : List Pair) (goal : Pair → Bool) where
  pub step_left : (left right : List Pair) → 1 ≤ length left → 1 ≤ length right → precedes (head left) (head right) ≡ true
      → keep (head left) ≡ true → Merges keep out left right goal → Merges keep (out ++ head left ∷ []) (rest_of left) right goal
  step_left [] right a b lt stays m = absurd (omega arith)
  step_left (x ∷ xs) [] a b lt stays m = absurd (omega arith)
  step_left (x ∷ xs) (y ∷ ys) a b lt stays m =
      subst (λ zs. Merges keep (out ++ x ∷ []) zs (y ∷ ys) goal) (sym (rest_is x xs)) (record {
        left_up = ap rises (append_assoc out (x ∷ []) xs) ∙ m.left_up;
        right_up = rises_between out xs ys x y m.left_up m.right_up lt;
        members =
            λ p. ap (λ b. b || (has_pair (filter keep xs) p || has_pair (y ∷ ys) p)) (list_any-append (same_pair p) out (x ∷ []))
            ∙ or_moves (has_pair out p) (same_pair p x) (has_pair (filter keep xs) p) (has_pair (y ∷ ys) p)
            ∙ sym (ap (λ c. has_pair out p || (has_pair (cond c (x ∷ filter keep xs) (filter keep xs)) p || has_pair (y ∷ ys) p)) stays) ∙ m.members p;
      })

  pub step_gone : (left right : List Pair) → 1 ≤ length left → keep (head left) ≡ false → Merges keep out left right goal
      → Merges keep out (rest_of left) right goal
  step_gone [] right a gone m = absurd (omega arith)
  step_gone (x ∷ xs) right a gone m =
      subst (λ zs. Merges keep out zs right goal) (sym (rest_is x xs)) (record {
        left_up = rises_without out xs x m.left_up;
        right_up = m.right_up;
        members = λ p. sym (ap (λ c. has_pair out p || (has_pair (cond c (x ∷ filter keep xs) (filter keep xs)) p || has_pair right p)) gone) ∙ m.members p;
      })

  pub step_right : (left right : List Pair) → 1 ≤ length left → 1 ≤ length right → precedes (head right) (head left) ≡ true
      → Merges keep out left right goal → Merges keep (out ++ head right ∷ []) left (rest_of right) goal
  step_right [] right a b lt m = absurd (omega arith)
  step_right (x ∷ xs) [] a b lt m = absurd (omega arith)
  step_right (x ∷ xs) (y ∷ ys) a b lt m =
      subst (λ zs. Merges keep (out ++ y ∷ []) (x ∷ xs) zs goal) (sym (rest_is y ys)) (record {
        left_up = rises_between out ys xs y x m.right_up m.left_up lt;
        right_up = ap rises (append_assoc out (y ∷ []) ys) ∙ m.right_up;
        members =
            λ p. ap (λ b. b || (has_pair (filter keep (x ∷ xs)) p || has_pair ys p)) (list_any-append (same_pair p) out (y ∷ []))
            ∙ or_moves_right (has_pair out p) (same_pair p y) (has_pair (filter keep (x ∷ xs)) p) (has_pair ys p) ∙ m.members p;
      })

  -- of two equal pairs the second stays for its turn
  pub step_same : (left right : List Pair) → 1 ≤ length left → 1 ≤ length right → head left ≡ head right → Merges keep out left right goal
      → Merges keep out (rest_of left) right goal
  step_same [] right a b e m = absurd (omega arith)
  step_same (x ∷ xs) [] a b e m = absurd (omega arith)
  step_same (x ∷ xs) (y ∷ ys) a b e m =
      subst (λ zs. Merges keep out zs (y ∷ ys) goal) (sym (rest_is x xs)) (record {
        left_up = rises_without out xs x m.left_up;
        right_up = m.right_up;
        members = λ p. by_test p (keep x) ∙ m.members p;
      })
    where
      by_test : (p : Pair) (c : Bool)
          → (has_pair out p || (has_pair (filter keep xs) p || has_pair (y ∷ ys) p))
          ≡ (has_pair out p || (has_pair (cond c (x ∷ filter keep xs) (filter keep xs)) p || has_pair (y ∷ ys) p))
      by_test p false = refl
      by_test p true =
          ap (λ q. has_pair out p || (has_pair (filter keep xs) p || (same_pair p q || has_pair ys p))) (sym e)
          ∙ drop_same (has_pair out p) (same_pair p x) (has_pair (filter keep xs) p) (has_pair ys p)
          ∙ ap (λ q. has_pair out p || ((same_pair p x || has_pair (filter keep xs) p) || (same_pair p q || has_pair ys p))) e

  -- where one list is at its end, what is left of both comes behind
  pub ends_up : (left right : List Pair) → Merges keep out left right goal → length left ≡ 0 ⊎ length right ≡ 0
      → rises ((out ++ filter keep left) ++ right) ≡ true
  ends_up left right m h = ⊎_elim (λ e. no_left left e m) (λ e. no_right right e m) h
    where
      no_left : (left : List Pair) → length left ≡ 0 → Merges keep out left right goal → rises ((out ++ filter keep left) ++ right) ≡ true
      no_left [] e m = ap (λ zs. rises (zs ++ right)) (append-nil out) ∙ m.right_up
      no_left (x ∷ xs) e m = absurd (omega arith)

      no_right : (right : List Pair) → length right ≡ 0 → Merges keep out left right goal → rises ((out ++ filter keep left) ++ right) ≡ true
      no_right [] e m = ap rises (append-nil (out ++ filter keep left)) ∙ rises_kept keep out left m.left_up
      no_right (y ∷ ys) e m = absurd (omega arith)

pub has_three : (out left right : List Pair) (p : Pair) → has_pair ((out ++ left) ++ right) p ≡ (has_pair out p || (has_pair left p || has_pair right p))
has_three out left right p =
    list_any-append (same_pair p) (out ++ left) right ∙ ap (λ b. b || has_pair right p) (list_any-append (same_pair p) out left)
    ∙ or_assoc (has_pair out p) (has_pair left p) (has_pair right p)
