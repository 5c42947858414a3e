-- One text put behind another.
use Rattle.std.proofs.Common.{◌≡◌, ℕ, ◌+◌, ◌-◌, ◌≤◌, List, ◌++◌, take, drop, sym, ap, ◌∙◌, arith, append_assoc, length-append}
use Rattle.std.proofs.lemmas.List.{drop-drop}
use Rattle.fixed_box.specs.Puts.{Puts}

pub puts_then : (a b c : List ℕ) (i j k : ℕ) (s t : List ℕ) → Puts a b i j s → Puts b c j k t → Puts a c i k (s ++ t)
puts_then a b c i j k s t first second = record {
  ends = omega (arith, length-append s t, first.ends, second.ends);
  front = second.front ∙ ap (λ xs. xs ++ t) first.front ∙ append_assoc (take i a) s t;
  rest = second.rest ∙ further a b j k (omega (arith, second.ends)) first.rest;
}
  where
    further : (a b : List ℕ) (j k : ℕ) → j ≤ k → drop j b ≡ drop j a → drop k b ≡ drop k a
    further a b j k le e =
        let split : j + (k - j) ≡ k = omega arith in
        ap (λ n. drop n b) (sym split) ∙ sym (drop-drop (k - j) j b) ∙ ap (drop (k - j)) e ∙ drop-drop (k - j) j a ∙ ap (λ n. drop n a) split
