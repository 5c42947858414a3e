-- What an option holds where its condition is met, and a small number that is read back from its bits.
use Rattle.std.proofs.Common.{◌≡◌, sym, ap, ◌∙◌, Bool, true, false, ◌&&◌, ℤ, pos, neg_ℤ, ◌^◌, ◌≤ℤ◌, int_le, to_z, of_z, w64, arith}
use Rattle.std.proofs.Common.{Option, Some, None, is_some, SomeIff, IsTrue}
use Rattle.std.specs.Cmp.{first_so, second_so}
use Rattle.std.proofs.lemmas.Int.{ints}
use Rattle.ray_slabs.specs.Crossing.{Fraction}
use Rattle.fixed_box.proofs.Numbers.{le_of_test}
use Rattle.ray_slabs.specs.Vector.{is_in_reach}
use Rattle.box_cast.specs.Widening.{reached}

pub some_of : {T : Type 0} (o : Option T) (b : Bool) (v : T) → SomeIff o (IsTrue b) v → b ≡ true → is_some o ≡ true
some_of None b v h e = absurd (h e)
some_of (Some x) b v h e = λ i. true

pub held : {T : Type 0} (o : Option T) (b : Bool) (u v : T) → SomeIff o (IsTrue b) v → o ≡ Some u → (b ≡ true) × (u ≡ v)
held None b u v h e = let no : ⊥ = cc in absurd no
held (Some x) b u v h e = let same : x ≡ u = cc in (h.0, sym same ∙ h.1)

pub unheld : {T : Type 0} (o : Option T) (b : Bool) (v : T) → SomeIff o (IsTrue b) v → o ≡ None → b ≡ false
unheld None true v h e = absurd (h (λ i. true))
unheld None false v h e = λ i. false
unheld (Some x) b v h e = let no : ⊥ = cc in absurd no

pub read_back : (z : ℤ) → is_in_reach z ≡ true → to_z w64 (of_z w64 z) ≡ z
read_back z h =
    let low : neg_ℤ (pos (2 ^ 34)) ≤ℤ z = le_of_test (neg_ℤ (pos (2 ^ 34))) z (first_so (int_le (neg_ℤ (pos (2 ^ 34))) z) (int_le z (pos (2 ^ 34))) h) in
    let high : z ≤ℤ pos (2 ^ 34) = le_of_test z (pos (2 ^ 34)) (second_so (int_le (neg_ℤ (pos (2 ^ 34))) z) (int_le z (pos (2 ^ 34))) h) in
    omega (arith, ints)

-- the answer of a cast by that of its ray
pub misses : (r : Option Fraction) (there here : Bool) (f : Fraction) → SomeIff r (IsTrue there) f → here ≡ (there && reached f) → r ≡ None → here ≡ false
misses r there here f h e none = e ∙ ap (λ b. b && reached f) (unheld r there f h none)

pub comes_late : (r : Option Fraction) (there here : Bool) (f t : Fraction) → SomeIff r (IsTrue there) f → here ≡ (there && reached f)
    → r ≡ Some t → reached t ≡ false → here ≡ false
comes_late r there here f t h e some late =
    let both : (there ≡ true) × (t ≡ f) = held r there t f h some in
    e ∙ (λ i. both.0 i && reached (sym both.1 i)) ∙ late

pub comes : (r : Option Fraction) (there here : Bool) (f t : Fraction) → SomeIff r (IsTrue there) f → here ≡ (there && reached f)
    → r ≡ Some t → reached t ≡ true → here ≡ true
comes r there here f t h e some in_time =
    let both : (there ≡ true) × (t ≡ f) = held r there t f h some in
    e ∙ (λ i. both.0 i && reached (sym both.1 i)) ∙ in_time
