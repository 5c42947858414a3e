-- No lesser margin's square is so much: the root is the least, or one more than what is too little.
use Rattle.std.proofs.Common.{ℕ, suc, ◌+◌, ◌*◌, ◌<◌, ◌≤◌, arith, inl, inr}
use Rattle.std.specs.Prelude.{Result, Ok, Err, OkIff}
use Rattle.std.specs.Result.{result_unwrap_or}
use Rattle.std.proofs.lemmas.Bool.{cases_lt}
use Rattle.near_boxes.proofs.Reached.{square_le, root_le}
use Rattle.near_boxes.proofs.descent.reach_of.Goals.{then-below-narrow, else-below-narrow}
use Rattle.near_boxes.proofs.descent.reach_of.Goals as goal

-- what fits, or the greatest that does, is no more
no_more : {E : Type 0} (most n : ℕ) (r : Result ℕ E) → OkIff r (n < suc most) n → result_unwrap_or r most ≤ n
no_more most n (Ok x) h = omega (arith, h.1)
no_more most n (Err e) h = elim (cases_lt n (suc most)) as (λ _. most ≤ n) [
  | inl lt ↦ absurd (h lt)
  | inr le ↦ omega (arith, le)
]

above_root : (below margin : ℕ) → below * below < margin * margin → below + 1 ≤ margin
above_root below margin h = elim (cases_lt below margin) as (λ _. below + 1 ≤ margin) [
  | inl lt ↦ omega (arith, lt)
  | inr le ↦ absurd (omega (arith, h, square_le margin below le))
]

pub returns-clause-least : goal.returns-clause-least
returns-clause-least c margin le =
    let narrow = no_more 18446744073709551615 c.args.square c.try_from.result c.try_from.ensures in
    let root = no_more 4294967295 c.if-below-narrow.root c.try_from-2.result c.try_from-2.ensures in
    let enough : c.if-below-narrow.root ≤ margin =
    elim c.if-below-narrow.branch [
      | then-below-narrow w ↦
          let more = above_root c.isqrt-below.result margin (omega (arith, le, narrow, w.if-below-narrow.true, c.unwrap_or-narrow.ensures)) in
          omega (arith, more, w.root-is)
      | else-below-narrow w ↦
          let no_less = root_le c.isqrt-below.result margin (omega (arith, le, narrow, c.isqrt-below.ensures.square_le, c.unwrap_or-narrow.ensures)) in
          omega (arith, no_less, w.root-is)
    ] in
    omega (arith, root, enough, c.unwrap_or.ensures)
