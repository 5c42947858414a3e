-- The corners' coordinates are those of the boxes.
use Rattle.std.proofs.Common.{◌≡◌, ℕ, ◌+◌, ap, ◌∙◌, arith, w32, to_z, of_z}
use Rattle.std.specs.Prelude.{ℤ}
use Rattle.std.proofs.lemmas.Int.{ints}
use Rattle.near_boxes.specs.Nearest.{gap_between, squared}
use Rattle.near_boxes.proofs.distance.square_apart.Goals as goal

three : (a b c x y z : ℕ) → a ≡ x → b ≡ y → c ≡ z → (a + b) + c ≡ (x + y) + z
three a b c x y z p q r = ap (λ n. (n + b) + c) p ∙ ap (λ n. (x + n) + c) q ∙ ap (λ n. (x + y) + n) r

axis : (p q r s a b c d : ℤ) → p ≡ a → q ≡ b → r ≡ c → s ≡ d → squared (gap_between p q r s) ≡ squared (gap_between a b c d)
axis p q r s a b c d e f g h =
    ap (λ z. squared (gap_between z q r s)) e ∙ ap (λ z. squared (gap_between a z r s)) f ∙ ap (λ z. squared (gap_between a b z s)) g
    ∙ ap (λ z. squared (gap_between a b c z)) h

-- a coordinate as it stands in 32 bits
abbrev same : ℤ → ℤ
same x = to_z w32 (of_z w32 x)

pub returns-clause-value : goal.returns-clause-value
returns-clause-value c =
    let a_lo_x = ap (λ p. p.x) c.lo-a_lo.ensures.lo in
    let a_lo_y = ap (λ p. p.y) c.lo-a_lo.ensures.lo in
    let a_lo_z = ap (λ p. p.z) c.lo-a_lo.ensures.lo in
    let a_hi_x = ap (λ p. p.x) c.hi-a_hi.ensures.hi in
    let a_hi_y = ap (λ p. p.y) c.hi-a_hi.ensures.hi in
    let a_hi_z = ap (λ p. p.z) c.hi-a_hi.ensures.hi in
    let b_lo_x = ap (λ p. p.x) c.lo-b_lo.ensures.lo in
    let b_lo_y = ap (λ p. p.y) c.lo-b_lo.ensures.lo in
    let b_lo_z = ap (λ p. p.z) c.lo-b_lo.ensures.lo in
    let b_hi_x = ap (λ p. p.x) c.hi-b_hi.ensures.hi in
    let b_hi_y = ap (λ p. p.y) c.hi-b_hi.ensures.hi in
    let b_hi_z = ap (λ p. p.z) c.hi-b_hi.ensures.hi in
    let x =
    axis (same c.lo-a_lo.result.x) (same c.hi-a_hi.result.x) (same c.lo-b_lo.result.x) (same c.hi-b_hi.result.x) c.args.a.now.lo.x c.args.a.now.hi.x
    c.args.b.now.lo.x c.args.b.now.hi.x (omega (arith, ints)) (omega (arith, ints)) (omega (arith, ints)) (omega (arith, ints))
    in
    let y =
    axis (same c.lo-a_lo.result.y) (same c.hi-a_hi.result.y) (same c.lo-b_lo.result.y) (same c.hi-b_hi.result.y) c.args.a.now.lo.y c.args.a.now.hi.y
    c.args.b.now.lo.y c.args.b.now.hi.y (omega (arith, ints)) (omega (arith, ints)) (omega (arith, ints)) (omega (arith, ints))
    in
    let z =
    axis (same c.lo-a_lo.result.z) (same c.hi-a_hi.result.z) (same c.lo-b_lo.result.z) (same c.hi-b_hi.result.z) c.args.a.now.lo.z c.args.a.now.hi.z
    c.args.b.now.lo.z c.args.b.now.hi.z (omega (arith, ints)) (omega (arith, ints)) (omega (arith, ints)) (omega (arith, ints))
    in
    three _ _ _ _ _ _ (c.from.ensures ∙ c.gap_square-x.ensures.value ∙ x) (c.from-2.ensures ∙ c.gap_square-y.ensures.value ∙ y)
    (c.from-3.ensures ∙ c.gap_square-z.ensures.value ∙ z)
