-- Each difference is in reach, and is read back from its bits.
use Rattle.std.proofs.Common.{◌≡◌, ap, ◌∙◌, ◌-ℤ◌, ◌&&◌, to_z, of_z, w64, arith}
use Rattle.std.proofs.lemmas.Int.{ints}
use Rattle.ray_slabs.specs.Vector.{Vector, is_in_reach}
use Rattle.box_cast.proofs.Opened.{some_of, held, read_back}
use Rattle.box_cast.proofs.widening.apart.Goals as goal

-- the differences as they are passed, and whether they are in reach
passed : goal.After-new → Vector
passed c = record {
  x = to_z w64 (of_z w64 c.difference-x.result);
  y = to_z w64 (of_z w64 c.difference-y.result);
  z = to_z w64 (of_z w64 c.difference-z.result);
}

pub unwrap-requires : goal.unwrap-requires
unfolding passed
unwrap-requires c =
    let x : to_z w64 (of_z w64 c.difference-x.result) ≡ c.difference-x.result = read_back c.difference-x.result c.difference-x.ensures.reach in
    let y : to_z w64 (of_z w64 c.difference-y.result) ≡ c.difference-y.result = read_back c.difference-y.result c.difference-y.ensures.reach in
    let z : to_z w64 (of_z w64 c.difference-z.result) ≡ c.difference-z.result = read_back c.difference-z.result c.difference-z.ensures.reach in
    some_of c.new.result (is_in_reach (passed c).x && is_in_reach (passed c).y && is_in_reach (passed c).z) (passed c) c.new.ensures
    (λ i. (ap is_in_reach x ∙ c.difference-x.ensures.reach) i && (ap is_in_reach y ∙ c.difference-y.ensures.reach) i
    && (ap is_in_reach z ∙ c.difference-z.ensures.reach) i)

pub returns : goal.returns
returns c =
    let v : Vector = record {
      x = to_z w64 (of_z w64 c.difference-x.result);
      y = to_z w64 (of_z w64 c.difference-y.result);
      z = to_z w64 (of_z w64 c.difference-z.result);
    } in
    let x : to_z w64 (of_z w64 c.difference-x.result) ≡ c.args.p.now.x -ℤ c.args.r.now.x =
    read_back c.difference-x.result c.difference-x.ensures.reach ∙ (c.difference-x.ensures.value ∙ omega (arith, ints)) in
    let y : to_z w64 (of_z w64 c.difference-y.result) ≡ c.args.p.now.y -ℤ c.args.r.now.y =
    read_back c.difference-y.result c.difference-y.ensures.reach ∙ (c.difference-y.ensures.value ∙ omega (arith, ints)) in
    let z : to_z w64 (of_z w64 c.difference-z.result) ≡ c.args.p.now.z -ℤ c.args.r.now.z =
    read_back c.difference-z.result c.difference-z.ensures.reach ∙ (c.difference-z.ensures.value ∙ omega (arith, ints)) in
    (held c.new.result (is_in_reach v.x && is_in_reach v.y && is_in_reach v.z) c.unwrap.result v c.new.ensures c.unwrap.ensures).1
    ∙ (λ i. record { x = x i; y = y i; z = z i })
