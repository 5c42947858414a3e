-- Two lists side by side, whatever is made of their elements, and what an edit of both does.
use Rattle.std.proofs.Common.{◌≡◌, ℕ, zero, suc, ◌+◌, ◌-◌, ◌<◌, List, [], ◌∷◌, ◌++◌, length, take, drop, set, get_or, insert, remove, swap_remove}
use Rattle.std.proofs.Common.{zip, refl, ap, ap₂, sym, ◌∙◌, arith}
use Rattle.std.proofs.Common.{length-take, length-set}
use Rattle.std.proofs.lemmas.List.{get_or_default}
use Rattle.std.specs.Simd.Lanes.{zip2}
use Rattle.std.proofs.lemmas.Simd.{length-zip2}

module _ {X Y Z : Type 0} (f : X → Y → Z) where
  beside_none : (xs : List X) → zip2 f xs [] ≡ []
  beside_none [] = refl
  beside_none (x ∷ xs) = refl

  pub beside_take : (n : ℕ) (xs : List X) (ys : List Y) → zip2 f (take n xs) (take n ys) ≡ take n (zip2 f xs ys)
  beside_take zero xs ys = refl
  beside_take (suc n) [] ys = refl
  beside_take (suc n) (x ∷ xs) [] = refl
  beside_take (suc n) (x ∷ xs) (y ∷ ys) = ap (λ l. f x y ∷ l) (beside_take n xs ys)

  pub beside_drop : (n : ℕ) (xs : List X) (ys : List Y) → zip2 f (drop n xs) (drop n ys) ≡ drop n (zip2 f xs ys)
  beside_drop zero xs ys = refl
  beside_drop (suc n) [] ys = refl
  beside_drop (suc n) (x ∷ xs) [] = beside_none (drop n xs)
  beside_drop (suc n) (x ∷ xs) (y ∷ ys) = beside_drop n xs ys

  pub beside_append : (xs us : List X) (ys vs : List Y) → length xs ≡ length ys → zip2 f (xs ++ us) (ys ++ vs) ≡ zip2 f xs ys ++ zip2 f us vs
  beside_append [] us [] vs e = refl
  beside_append [] us (y ∷ ys) vs e = absurd (omega arith)
  beside_append (x ∷ xs) us [] vs e = absurd (omega arith)
  beside_append (x ∷ xs) us (y ∷ ys) vs e = ap (λ l. f x y ∷ l) (beside_append xs us ys vs (omega arith))

  pub beside_set : (xs : List X) (ys : List Y) (at : ℕ) (x : X) (y : Y) → zip2 f (set xs at x) (set ys at y) ≡ set (zip2 f xs ys) at (f x y)
  beside_set [] ys at x y = refl
  beside_set (a ∷ xs) [] zero x y = refl
  beside_set (a ∷ xs) [] (suc at) x y = refl
  beside_set (a ∷ xs) (b ∷ ys) zero x y = refl
  beside_set (a ∷ xs) (b ∷ ys) (suc at) x y = ap (λ l. f a b ∷ l) (beside_set xs ys at x y)

  pub beside_at : (xs : List X) (ys : List Y) (at : ℕ) (d : X) (e : Y) → length xs ≡ length ys → get_or (zip2 f xs ys) at (f d e) ≡ f (get_or xs at d)
      (get_or ys at e)
  beside_at [] [] at d e h = refl
  beside_at [] (y ∷ ys) at d e h = absurd (omega arith)
  beside_at (x ∷ xs) [] at d e h = absurd (omega arith)
  beside_at (x ∷ xs) (y ∷ ys) zero d e h = refl
  beside_at (x ∷ xs) (y ∷ ys) (suc at) d e h = beside_at xs ys at d e (omega arith)

  same_take : (xs : List X) (ys : List Y) (n : ℕ) → length xs ≡ length ys → length (take n xs) ≡ length (take n ys)
  same_take xs ys n h = omega (arith, length-take n xs, length-take n ys)

  pub beside_insert : (xs : List X) (ys : List Y) (at : ℕ) (x : X) (y : Y) → length xs ≡ length ys → zip2 f (insert xs at x) (insert ys at y) ≡ insert
      (zip2 f xs ys) at (f x y)
  beside_insert xs ys at x y h =
      beside_append (take at xs) (x ∷ drop at xs) (take at ys) (y ∷ drop at ys) (same_take xs ys at h)
      ∙ ap₂ (λ a b. a ++ f x y ∷ b) (beside_take at xs ys) (beside_drop at xs ys)

  pub beside_remove : (xs : List X) (ys : List Y) (at : ℕ) → length xs ≡ length ys → zip2 f (remove xs at) (remove ys at) ≡ remove (zip2 f xs ys) at
  beside_remove xs ys at h =
      beside_append (take at xs) (drop (suc at) xs) (take at ys) (drop (suc at) ys) (same_take xs ys at h)
      ∙ ap₂ (λ a b. a ++ b) (beside_take at xs ys) (beside_drop (suc at) xs ys)

  pub beside_swap_remove : (xs : List X) (ys : List Y) (at : ℕ) (d : X) (e : Y) → length xs ≡ length ys
      → zip2 f (swap_remove xs at d) (swap_remove ys at e) ≡ swap_remove (zip2 f xs ys) at (f d e)
  beside_swap_remove xs ys at d e h =
      let n = length xs - 1 in
      let m : length ys - 1 ≡ n = omega arith in
      let k : length (zip2 f xs ys) - 1 ≡ n = omega (arith, length-zip2 f xs ys h) in
      ap (λ l. zip2 f (take n (set xs at (get_or xs n d))) (take l (set ys at (get_or ys l e)))) m
      ∙ beside_take n (set xs at (get_or xs n d)) (set ys at (get_or ys n e))
      ∙ ap (take n) (beside_set xs ys at (get_or xs n d) (get_or ys n e) ∙ ap (set (zip2 f xs ys) at) (sym (beside_at xs ys n d e h)))
      ∙ sym (ap (λ l. take l (set (zip2 f xs ys) at (get_or (zip2 f xs ys) l (f d e)))) k)

-- a key beside each value
pub zip_is : {K X : Type 0} (ks : List K) (xs : List X) → zip ks xs ≡ zip2 (λ k x. (k, x)) ks xs
zip_is [] xs = refl
zip_is (k ∷ ks) [] = refl
zip_is (k ∷ ks) (x ∷ xs) = ap (λ l. (k, x) ∷ l) (zip_is ks xs)

-- what `swap_remove` reads of an empty list alone
pub swap_default : {X : Type 0} (xs : List X) (at : ℕ) (d e : X) → at < length xs → swap_remove xs at d ≡ swap_remove xs at e
swap_default xs at d e l = ap (λ z. take (length xs - 1) (set xs at z)) (get_or_default xs (length xs - 1) d e (omega arith))

pub swap_removed_long : {X : Type 0} (xs : List X) (at : ℕ) (d : X) → at < length xs → length (swap_remove xs at d) + 1 ≡ length xs
swap_removed_long xs at d l =
    let last = get_or xs (length xs - 1) d in
    omega (arith, length-take (length xs - 1) (set xs at last), length-set xs at last)
