-- Serves proofs alone: lists that stand side by side, whatever belongs to each item.
use Rattle.std.specs.Prelude.{◌≡◌, List, [], ◌∷◌, length, map, refl}
use Rattle.std.proofs.Common.{suc, ap}
use Rattle.work_pieces.specs.Each.{Each}

pub Each-length : {X Y : Type 0} (P : X → Y → Type 0) (xs : List X) (ys : List Y) → Each P xs ys → length ys ≡ length xs
Each-length P [] [] h = refl
Each-length P [] (y ∷ ys) h = absurd h
Each-length P (x ∷ xs) [] h = absurd h
Each-length P (x ∷ xs) (y ∷ ys) h = ap suc (Each-length P xs ys h.1)

-- a value of each item, where what belongs to it tells the value
pub Each-map : {X Y Z : Type 0} (P : X → Y → Type 0) (f : X → Z) (g : Y → Z) (xs : List X) (ys : List Y) → ((x : X) (y : Y) → P x y → g y ≡ f x) → Each P xs ys
    → map g ys ≡ map f xs
Each-map P f g [] [] tells h = refl
Each-map P f g [] (y ∷ ys) tells h = absurd h
Each-map P f g (x ∷ xs) [] tells h = absurd h
Each-map P f g (x ∷ xs) (y ∷ ys) tells h = rw (tells x y h.0, Each-map P f g xs ys tells h.1) refl
