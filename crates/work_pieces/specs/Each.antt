-- Definitions: what calls of a closure at the items of a list give.
use Rattle.std.specs.Prelude.{◌≡◌, List, [], ◌∷◌, All, Result, Ok}
use denote.Ref.{Bor}
use denote.Param.Members.{Shared}
use Rattle.std.specs.Fn.{FnReturnsAt}

-- Two lists stand side by side: as many items as answers, and each answer belongs to its item.
abbrev pub Each : {X Y : Type 0} → (X → Y → Type 0) → List X → List Y → Type 0
Each P [] [] = Unit {0}
Each P [] (y ∷ ys) = ⊥
Each P (x ∷ xs) [] = ⊥
Each P (x ∷ xs) (y ∷ ys) = P x y × Each P xs ys

module _ {F X Y E : Type 0} (g : Shared F (Bor X × Unit {0}) (Result Y E)) (f : F) where
  -- f may be called at a `&` to an item
  abbrev pub Accepts : X → Type 0
  Accepts x = (p : Bor X) → p.now ≡ x → g.pre f (p, tt)

  -- and to each item of a list
  abbrev pub AcceptsAll : List X → Type 0
  AcceptsAll xs = All (λ x. (p : Bor X) → p.now ≡ x → g.pre f (p, tt)) xs

  -- a call of f at a `&` to x may give y
  abbrev pub Gives : X → Y → Type 0
  Gives x y = FnReturnsAt g f x (Ok y)
