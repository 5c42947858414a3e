-- Each difference is that of the parts that were read.
use Rattle.std.proofs.Common.{rules, arith, ◌≡◌, ◌∙◌, ◌^◌, ℤ, pos, neg_ℤ, ◌-ℤ◌, int_le, to_z, of_z, w64, Option, SomeIff, IsTrue, subst}
use Rattle.std.proofs.lemmas.Bool.{and_parts}
use Rattle.std.proofs.lemmas.Int.{ints}
use Rattle.ray_slabs.specs.Vector.{is_in_reach}
use Rattle.prepared_query.specs.NarrowLine.{fits_i32}
use Rattle.prepared_query.proofs.line_test.displacement.Goals as goal

-- whether a difference fits, and what it is then
abbrev Fitted : Option ℤ → ℤ → Type 0
Fitted o z = SomeIff o (IsTrue (fits_i32 z)) z

-- a part in reach fits 64 bits
read_back : (z : ℤ) {v : ℤ} → IsTrue (is_in_reach z) → z ≡ v → to_z w64 (of_z w64 z) ≡ v
read_back z h e =
    let parts = and_parts (int_le (neg_ℤ (pos (2 ^ 34))) z) (int_le z (pos (2 ^ 34))) h in omega (arith, ints, parts.0, parts.1) ∙ e

read : (o : Option ℤ) {p q b a : ℤ} → IsTrue (is_in_reach p) → p ≡ b → IsTrue (is_in_reach q) → q ≡ a
    → Fitted o (to_z w64 (of_z w64 p) -ℤ to_z w64 (of_z w64 q)) → Fitted o (b -ℤ a)
read o {p = p} {q = q} in_p e in_q f h = subst (Fitted o) (λ i. read_back p in_p e i -ℤ read_back q in_q f i) h

pub returns-in_err-difference-2 : goal.returns-in_err-difference-2
returns-in_err-difference-2 c =
    let y : Fitted c.difference-2.result (c.args.b.now.y -ℤ c.args.a.now.y) =
    read c.difference-2.result c.y.ensures.reach c.y.ensures.y c.y-2.ensures.reach c.y-2.ensures.y c.difference-2.ensures in
    search rules

pub returns-in_err-difference-3 : goal.returns-in_err-difference-3
returns-in_err-difference-3 c =
    let z : Fitted c.difference-3.result (c.args.b.now.z -ℤ c.args.a.now.z) =
    read c.difference-3.result c.z.ensures.reach c.z.ensures.z c.z-2.ensures.reach c.z-2.ensures.z c.difference-3.ensures in
    search rules

pub returns : goal.returns
returns c =
    let x : Fitted c.difference.result (c.args.b.now.x -ℤ c.args.a.now.x) =
    read c.difference.result c.x.ensures.reach c.x.ensures.x c.x-2.ensures.reach c.x-2.ensures.x c.difference.ensures in
    let y : Fitted c.difference-2.result (c.args.b.now.y -ℤ c.args.a.now.y) =
    read c.difference-2.result c.y.ensures.reach c.y.ensures.y c.y-2.ensures.reach c.y-2.ensures.y c.difference-2.ensures in
    let z : Fitted c.difference-3.result (c.args.b.now.z -ℤ c.args.a.now.z) =
    read c.difference-3.result c.z.ensures.reach c.z.ensures.z c.z-2.ensures.reach c.z-2.ensures.z c.difference-3.ensures in
    search rules
