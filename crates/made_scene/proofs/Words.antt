-- A word has 32 bits, and what is made of words.
use Rattle.std.proofs.Common.{ℕ, Bool, true, false, ◌*◌, ◌/◌, ◌%◌, ◌^◌, ◌-◌, ◌<◌, arith}
use Rattle.std.specs.Prelude.{bit_xor, if◌then◌else◌, ◌==◌}
use Rattle.std.proofs.Math.Nat.{div-le_self}
use Rattle.std.proofs.lemmas.Nat.{or_lt, pow_below}
use Rattle.rand_pcg.specs.Lcg.{Lcg}
use Rattle.made_scene.specs.MadeScene.{word, later, next_bounds, next_masks}
use Rattle.made_scene.specs.Ranges.{IsNear}
use Rattle.scene_words.specs.Ranges.{IsMasks}
use Rattle.made_scene.proofs.Corners.{made_near}

pub word_below : (g : Lcg) → word g < 2 ^ 32
unfolding word
word_below g =
    let n = bit_xor (g.state / 2 ^ 18) g.state / 2 ^ 27 % 2 ^ 32 in
    let by = g.state / 2 ^ 59 % 32 in
    let small : n < 2 ^ 32 = omega arith in
    or_lt 32 (n / 2 ^ by) ((n * 2 ^ ((32 - by) % 32)) % 2 ^ 32) (omega (arith, small, div-le_self n (2 ^ by))) (omega arith)

pub next_near : (g : Lcg) → IsNear 0 (next_bounds g)
unfolding next_bounds
next_near g =
    made_near (word g) (word (later g)) (word (later (later g))) (word (later (later (later g))))
    (word_below g) (word_below (later g)) (word_below (later (later g)))

pow_of_two_bits : (k : ℕ) → k < 4 → 2 ^ k < 2 ^ 32
pow_of_two_bits k h = pow_below k 32 (omega (arith, h))

sees_below : (b : Bool) → (if b then 7 else 15) < 2 ^ 32
sees_below true = omega arith
sees_below false = omega arith

pub masks_in_range : (g : Lcg) → IsMasks (next_masks g)
unfolding next_masks
masks_in_range g =
    let w = word (later (later (later g))) in
    record { is = pow_of_two_bits (w / 16777216 % 4) (omega arith); sees = sees_below (w / 67108864 % 2 == 1) }
