-- Masks that are read by their places among so many words.
use Rattle.std.proofs.Common.{◌≡◌, ℕ, zero, suc, ◌≤◌, true, cond, nat_lt, List, [], ◌∷◌, length, take, slice_index_or}
use Rattle.std.proofs.Common.{Result, Ok, Err, refl, sym, ap, ◌∙◌, arith}
use Rattle.std.proofs.lemmas.Bool.Decides.{nat_tests}
use Rattle.live_table.specs.declared.masks.Masks.{Masks}
use Rattle.scene_words.specs.declared.line_fault.LineFault.{LineFault}
use Rattle.scene_words.specs.Reads.{mask_within}
use Rattle.scene_words.specs.SceneWords.{◌>>=◌, first_group, every_group, mask_or, masks_of}
use Rattle.scene_words.specs.Values.{mask_of_word}

-- both masks, from what each is read as
abbrev pub both_masks : Result ℕ LineFault → Result ℕ LineFault → Result Masks LineFault
both_masks first second = first >>= λ is. second >>= λ sees. Ok (record { is = is; sees = sees })

one_mask : (r : Result ℕ LineFault) → ◌>>=◌ {B = Masks} (◌>>=◌ {B = ℕ × List (List ℕ)} r (λ x. Ok (x, [])))
    (λ groups. mask_or every_group groups.1 >>= λ seen. Ok (record { is = groups.0; sees = seen.0 })) ≡ both_masks r (Ok every_group)
one_mask (Ok x) = refl
one_mask (Err e) = refl

two_masks : (r s : Result ℕ LineFault) (b : List ℕ) (more : List (List ℕ)) → mask_of_word b ≡ s
    → ◌>>=◌ {B = Masks} (◌>>=◌ {B = ℕ × List (List ℕ)} r (λ x. Ok (x, b ∷ more)))
    (λ groups. mask_or every_group groups.1 >>= λ seen. Ok (record { is = groups.0; sees = seen.0 })) ≡ both_masks r s
two_masks (Err e) s b more is = refl
two_masks (Ok x) (Ok y) b more is =
    ap (λ t. ◌>>=◌ {B = Masks} (◌>>=◌ {B = ℕ × List (List ℕ)} t (λ z. Ok (z, more))) (λ seen. Ok (record { is = x; sees = seen.0 }))) is
two_masks (Ok x) (Err e) b more is =
    ap (λ t. ◌>>=◌ {B = Masks} (◌>>=◌ {B = ℕ × List (List ℕ)} t (λ z. Ok (z, more))) (λ seen. Ok (record { is = x; sees = seen.0 }))) is

first_within : (n : ℕ) (ws : List (List ℕ)) → 1 ≤ n → mask_within first_group 0 n ws ≡ mask_of_word (slice_index_or ws 0 [])
first_within n ws some =
    let below : nat_lt 0 n ≡ true = grind (arith, nat_tests) in
    ap (λ t. cond t (mask_of_word (slice_index_or ws 0 [])) (Ok first_group)) below

second_within : (n : ℕ) (ws : List (List ℕ)) → 2 ≤ n → mask_within every_group 1 n ws ≡ mask_of_word (slice_index_or ws 1 [])
second_within n ws some =
    let below : nat_lt 1 n ≡ true = grind (arith, nat_tests) in
    ap (λ t. cond t (mask_of_word (slice_index_or ws 1 [])) (Ok every_group)) below

pub masks_within : (ws : List (List ℕ)) (count : ℕ) → count ≤ length ws
    → masks_of (take count ws) ≡ both_masks (mask_within first_group 0 count ws) (mask_within every_group 1 count ws)
masks_within ws zero few = refl
masks_within [] (suc n) few = absurd (omega arith)
masks_within (a ∷ more) (suc zero) few = one_mask (mask_of_word a)
masks_within (a ∷ []) (suc (suc n)) few = absurd (omega arith)
masks_within (a ∷ b ∷ more) (suc (suc n)) few =
    two_masks (mask_of_word a) (mask_of_word b) b (take n more) refl
    ∙ ap (λ r. both_masks r (mask_of_word b)) (let e = first_within (suc (suc n)) (a ∷ b ∷ more) (omega arith) in sym e)
    ∙ ap (both_masks (mask_within first_group 0 (suc (suc n)) (a ∷ b ∷ more)))
    (let e = second_within (suc (suc n)) (a ∷ b ∷ more) (omega arith) in sym e)
