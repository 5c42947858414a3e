-- Words by their places in a line, counted from its end.
use Rattle.std.proofs.Common.{◌≡◌, ℕ, zero, suc, ◌-◌, ◌<◌, ◌≤◌, Bool, true, false, cond, List, [], ◌∷◌, length, take, drop, reverse}
use Rattle.std.proofs.Common.{get_or, codes}
use Rattle.std.proofs.Common.{bytes_eq, slice_index_or, Option, Some, None, refl, sym, ap, ◌∙◌, arith, length-take}
use Rattle.std.proofs.Math.Seq.{take-suc}
use Rattle.std.proofs.lemmas.List.{reverse-append, length-reverse, take_all}
use Rattle.scene_words.specs.Tails.{off_flag, off_owner}

pub drop_less : {X : Type 0} (n : ℕ) (x : X) (xs : List X) → 0 < n → drop n (x ∷ xs) ≡ drop (n - 1) xs
drop_less zero x xs h = absurd (omega arith)
drop_less (suc n) x xs h = ap (λ k. drop k xs) (let same : n ≡ suc n - 1 = omega arith in same)

-- so many words, from the last one
last_of : (ws : List (List ℕ)) (k : ℕ) → k < length ws → reverse (take (suc k) ws) ≡ get_or ws k [] ∷ reverse (take k ws)
last_of ws k within = ap reverse (take-suc ws k [] within) ∙ reverse-append (take k ws) (get_or ws k [] ∷ [])

less : (k : ℕ) → suc k - 1 ≡ k
less k = omega arith

less_two : (k : ℕ) → suc (suc k) - 2 ≡ k
less_two k = omega arith

-- a flag, and words from the last one
abbrev left_of : List (List ℕ) → Bool → ℕ → Bool × List (List ℕ)
left_of ws flagged n = (flagged, reverse (take n ws))

abbrev unflagged_left : List (List ℕ) → Bool × List (List ℕ)
unflagged_left ws = (false, ws)

abbrev pub by_flag : List ℕ → List (List ℕ) → Bool → Bool × List (List ℕ)
by_flag last before t = cond t (true, before) (false, last ∷ before)

from_last : (ws : List (List ℕ)) (k : ℕ) → suc k ≡ length ws → reverse ws ≡ get_or ws k [] ∷ reverse (take k ws)
from_last ws k same = ap reverse (sym (take_all (suc k) ws (omega arith))) ∙ last_of ws k (omega arith)

pub flag_off : (flag : List ℕ) (ws : List (List ℕ)) (n : ℕ) → n ≡ length ws → 0 < n → bytes_eq (slice_index_or ws (n - 1) []) flag ≡ true
    → off_flag flag (reverse ws) ≡ (true, reverse (take (n - 1) ws))
flag_off flag ws zero same some is = absurd (omega arith)
flag_off flag ws (suc k) same some is =
    ap (off_flag flag) (from_last ws k same)
    ∙ ap (by_flag (get_or ws k []) (reverse (take k ws))) (ap (λ j. bytes_eq (slice_index_or ws j []) flag) (sym (less k)) ∙ is)
    ∙ ap (left_of ws true) (sym (less k))

pub unflagged : (flag : List ℕ) (ws : List (List ℕ)) (n : ℕ) → n ≡ length ws → (0 < n → bytes_eq (slice_index_or ws (n - 1) []) flag ≡ false)
    → off_flag flag (reverse ws) ≡ (false, reverse (take n ws))
unflagged flag [] zero same is = refl
unflagged flag [] (suc k) same is = absurd (omega arith)
unflagged flag (w ∷ ws) zero same is = absurd (omega arith)
unflagged flag (w ∷ ws) (suc k) same is =
    ap (off_flag flag) (from_last (w ∷ ws) k same)
    ∙ ap (by_flag (get_or (w ∷ ws) k []) (reverse (take k (w ∷ ws))))
    (ap (λ j. bytes_eq (slice_index_or (w ∷ ws) j []) flag) (sym (less k)) ∙ is (omega arith))
    ∙ ap unflagged_left (sym (last_of (w ∷ ws) k (omega arith)))

abbrev pub by_owner : List ℕ → List ℕ → List (List ℕ) → Bool → Option (List ℕ) × List (List ℕ)
by_owner last next before t = cond t (Some last, before) (None, last ∷ next ∷ before)

abbrev owned_left : List (List ℕ) → ℕ → ℕ → Option (List ℕ) × List (List ℕ)
owned_left ws k n = (Some (slice_index_or ws k []), reverse (take n ws))

abbrev unowned_left : List (List ℕ) → Option (List ℕ) × List (List ℕ)
unowned_left ws = (None, ws)

two_of : (ws : List (List ℕ)) (k : ℕ) → suc k < length ws
    → reverse (take (suc (suc k)) ws) ≡ get_or ws (suc k) [] ∷ get_or ws k [] ∷ reverse (take k ws)
two_of ws k within = last_of ws (suc k) within ∙ ap (λ t. get_or ws (suc k) [] ∷ t) (last_of ws k (omega arith))

pub owner_off : (ws : List (List ℕ)) (n : ℕ) → n ≤ length ws → 2 ≤ n → bytes_eq (slice_index_or ws (n - 2) []) (codes "owner") ≡ true
    → off_owner (reverse (take n ws)) ≡ (Some (slice_index_or ws (n - 1) []), reverse (take (n - 2) ws))
owner_off ws zero within some is = absurd (omega arith)
owner_off ws (suc zero) within some is = absurd (omega arith)
owner_off ws (suc (suc k)) within some is =
    ap off_owner (two_of ws k (omega arith))
    ∙ ap (by_owner (get_or ws (suc k) []) (get_or ws k []) (reverse (take k ws)))
    (ap (λ j. bytes_eq (slice_index_or ws j []) (codes "owner")) (sym (less_two k)) ∙ is)
    ∙ ap (λ j. owned_left ws j k) (sym (less (suc k))) ∙ ap (owned_left ws (suc (suc k) - 1)) (sym (less_two k))

few_stay : (ws : List (List ℕ)) → length ws ≤ 1 → off_owner ws ≡ unowned_left ws
few_stay [] few = refl
few_stay (a ∷ []) few = refl
few_stay (a ∷ b ∷ ws) few = absurd (omega arith)

pub unowned : (ws : List (List ℕ)) (n : ℕ) → n ≤ length ws → (2 ≤ n → bytes_eq (slice_index_or ws (n - 2) []) (codes "owner") ≡ false)
    → off_owner (reverse (take n ws)) ≡ (None, reverse (take n ws))
unowned ws zero within is = few_stay (reverse (take zero ws)) (omega (arith, length-reverse (take zero ws), length-take zero ws))
unowned ws (suc zero) within is = few_stay (reverse (take (suc zero) ws)) (omega (arith, length-reverse (take (suc zero) ws), length-take (suc zero) ws))
unowned ws (suc (suc k)) within is =
    ap off_owner (two_of ws k (omega arith))
    ∙ ap (by_owner (get_or ws (suc k) []) (get_or ws k []) (reverse (take k ws)))
    (ap (λ j. bytes_eq (slice_index_or ws j []) (codes "owner")) (sym (less_two k)) ∙ is (omega arith))
    ∙ ap unowned_left (sym (two_of ws k (omega arith)))
