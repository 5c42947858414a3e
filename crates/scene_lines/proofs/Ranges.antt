-- Ranges of a buffer, and bytes known to come.
use Rattle.std.proofs.Common.{◌≡◌, ℕ, ◌+◌, ◌-◌, ◌≤◌, min, List, ◌++◌, length, take, drop, refl, ⊎_elim, sym, ap, ◌∙◌, arith, slice_range}
use Rattle.std.proofs.Common.{append-nil}
use Rattle.std.specs.Prelude.{Option}
use Rattle.std.specs.Io.KnownBytes.{prepend_known}
use Rattle.std.proofs.lemmas.List.{take-take, drop-drop, drop-take, take-append-drop, length-take, take_all, drop_all, take_at}
use Rattle.std.proofs.lemmas.Bool.{cases_lt}
use Rattle.std.proofs.lemmas.Slice.{between_is}
use Rattle.fixed_box.proofs.Lists.{prepend_known-append}

-- the front of a range
pub range_front : (xs : List ℕ) (at end n : ℕ) → at + n ≤ end → slice_range xs at (at + n) ≡ take n (slice_range xs at end)
range_front xs at end n h = let e : at + n - at ≡ n = omega arith in rw e (sym (take-take n (end - at) (drop at xs) (omega arith)))

-- a range past its first bytes, or past its end
pub range_back : (xs : List ℕ) (at end n : ℕ) → at ≤ end → slice_range xs (min (at + n + 1) end) end ≡ drop (n + 1) (slice_range xs at end)
range_back xs at end n h =
    ⊎_elim
    (λ below.
    let here : min (at + n + 1) end ≡ at + (n + 1) = omega arith in
    let len : end - at ≡ n + 1 + (end - (at + (n + 1))) = omega arith in
    rw (here, len, drop-take (n + 1) (end - (at + (n + 1))) (drop at xs), drop-drop (n + 1) at xs) refl)
    (λ past.
    let here : min (at + n + 1) end ≡ end = omega arith in
    let none : end - end ≡ 0 = omega arith in
    rw (here, none) (sym (drop_all (n + 1) (take (end - at) (drop at xs)) (omega (arith, length-take (end - at) (drop at xs))))))
    (cases_lt (at + n + 1) end)

-- a range of the bytes that stay
pub range_kept : (xs ys : List ℕ) (n at end : ℕ) → end ≤ n → take n xs ≡ take n ys → slice_range xs at end ≡ slice_range ys at end
range_kept xs ys n at end h e =
    between_is xs at end ∙ ap (drop at) (sym (take-take end n xs h) ∙ ap (take end) e ∙ take-take end n ys h) ∙ sym (between_is ys at end)

-- a range that grows
pub range_grown : (xs : List ℕ) (at end n : ℕ) → at ≤ end → slice_range xs at (end + n) ≡ slice_range xs at end ++ take n (drop end xs)
range_grown xs at end n h =
    let len : end + n - at ≡ end - at + n = omega arith in
    let place : at + (end - at) ≡ end = omega arith in
    rw len (take-add (end - at) n (drop at xs)
    ∙ ap (λ part. take (end - at) (drop at xs) ++ take n part) (drop-drop (end - at) at xs ∙ ap (λ k. drop k xs) place))
  where
    take-add : (m n : ℕ) (xs : List ℕ) → take (m + n) xs ≡ take m xs ++ take n (drop m xs)
    take-add m n xs = sym (take-append-drop m (take (m + n) xs)) ∙ rw (take-take m (m + n) xs (omega arith), drop-take m n xs) refl

-- a range that stays while a buffer of n bytes is written to twice
pub range_through : (items old₁ new₁ old₂ new₂ past : List ℕ) (n start stop from to end : ℕ) → old₁ ≡ items → length new₁ ≡ n
    → slice_range new₁ from to ≡ slice_range old₁ start stop
    → old₂ ≡ take n (new₁ ++ drop (length new₁) items) → length new₂ ≡ n → take end new₂ ≡ take end old₂ → to ≤ end
    → slice_range (take n (new₂ ++ past)) from to ≡ slice_range items start stop
range_through items old₁ new₁ old₂ new₂ past n start stop from to end first len₁ moved second len₂ kept within =
    let front : take end new₂ ≡ take end new₁ = kept ∙ ap (take end) (second ∙ take_at new₁ (drop (length new₁) items) n len₁) in
    rw (take_at new₂ past n len₂) (range_kept new₂ new₁ end from to within front ∙ moved ∙ ap (λ xs. slice_range xs start stop) first)

-- what is read goes behind the bytes held
pub range_read : (xs held : List ℕ) (at end n : ℕ) → at ≤ end → slice_range xs at end ≡ held → slice_range xs at (end + n) ≡ held ++ take n (drop end xs)
range_read xs held at end n h e = range_grown xs at end n h ∙ ap (λ front. front ++ take n (drop end xs)) e

-- and no byte that comes is lost
pub coming_read : (xs new held : List ℕ) (at end n : ℕ) (was now : Option (List ℕ)) → xs ≡ new → at ≤ end → slice_range xs at end ≡ held
    → was ≡ prepend_known (take n (drop end new)) now
    → prepend_known (slice_range xs at (end + n)) now ≡ prepend_known held was
coming_read xs new held at end n was now written h e next =
    ap (λ bytes. prepend_known bytes now) (range_read xs held at end n h e) ∙ prepend_known-append held (take n (drop end xs)) now
    ∙ ap (prepend_known held) (ap (λ bytes. prepend_known (take n (drop end bytes)) now) written ∙ sym next)

-- the bytes held before stay in front
pub kept_read : (xs held : List ℕ) (at end n : ℕ) → at ≤ end → slice_range xs at end ≡ held → take (length held) (slice_range xs at (end + n)) ≡ held
kept_read xs held at end n h e = rw (range_read xs held at end n h e) (take_at held (take n (drop end xs)) (length held) refl)

-- a read of no byte leaves them as they are
pub none_read : (xs held : List ℕ) (at end n : ℕ) → at ≤ end → slice_range xs at end ≡ held → n ≡ 0 → slice_range xs at (end + n) ≡ held
none_read xs held at end n h e none = range_read xs held at end n h e ∙ rw none (append-nil held)

-- the same bytes held, and the same left
pub coming_same : (bytes held : List ℕ) (was now : Option (List ℕ)) → bytes ≡ held → now ≡ was → prepend_known bytes now ≡ prepend_known held was
coming_same bytes held was now same left = rw (same, left) refl

pub kept_same : (bytes held : List ℕ) → bytes ≡ held → take (length held) bytes ≡ held
kept_same bytes held same = rw same (take_all (length held) held (omega arith))
