-- Tests that pass together.
use Rattle.std.proofs.Common.{◌≡◌, refl, Bool, true, ◌&&◌, List, [], ◌∷◌}
use Rattle.std.specs.List.{list_all}
use Rattle.ray_slabs.specs.Crossing.{Slab}
use Rattle.fixed_box.proofs.Bools.{and_left, and_right}

pub all_of : (x y : Bool) → x ≡ true → y ≡ true → (x && y) ≡ true
all_of x y e f = λ i. e i && f i

-- three in a list
pub three_of : (x y z : Bool) → x ≡ true → y ≡ true → z ≡ true → (x && (y && (z && true))) ≡ true
three_of x y z e f g = λ i. e i && (f i && (g i && true))

-- what follows from one test or two, over a list
pub implied : (P Q : Slab → Bool) → ((s : Slab) → P s ≡ true → Q s ≡ true) → (ss : List Slab) → list_all P ss ≡ true → list_all Q ss ≡ true
implied P Q f [] e = refl
implied P Q f (s ∷ ss) e =
    all_of (Q s) (list_all Q ss) (f s (and_left (P s) (list_all P ss) e)) (implied P Q f ss (and_right (P s) (list_all P ss) e))

pub implied_by_two : (O P Q : Slab → Bool) → ((s : Slab) → O s ≡ true → P s ≡ true → Q s ≡ true) → (ss : List Slab)
    → list_all O ss ≡ true → list_all P ss ≡ true → list_all Q ss ≡ true
implied_by_two O P Q f [] d e = refl
implied_by_two O P Q f (s ∷ ss) d e =
    all_of (Q s) (list_all Q ss) (f s (and_left (O s) (list_all O ss) d) (and_left (P s) (list_all P ss) e))
    (implied_by_two O P Q f ss (and_right (O s) (list_all O ss) d) (and_right (P s) (list_all P ss) e))
