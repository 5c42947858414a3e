-- Lists of eight, by their elements.
use Rattle.std.proofs.Common.{◌≡◌, List, [], ◌∷◌, length, map, get_or, w32, SFits, of_z, to_z, refl, ap₂, sym}
use Rattle.std.specs.List.{range_with_len}
use Rattle.std.specs.Simd.Lanes.{Each1}
use Rattle.std.proofs.lemmas.Int.{to_z-of_z}
use Rattle.std.proofs.lemmas.List.FromFn.{fill_by_all}
use Rattle.lane_boxes.specs.declared.span.Span.{Span}
use Rattle.lane_boxes.proofs.SpanLists.{span}

-- the first eight elements of a list
abbrev pub eight_of : {X : Type 0} → X → List X → List X
eight_of d xs = map (λ k. get_or xs k d) (range_with_len 0 8)

pub all_eight : {X : Type 0} (d : X) (xs : List X) → length xs ≡ 8 → eight_of d xs ≡ xs
all_eight d xs long = sym (fill_by_all (λ k. get_or xs k d) xs 8 d long (λ k l. refl))

-- both ends have 32 bits
abbrev pub Fit : Span → Type 0
Fit s = SFits w32 s.lo × SFits w32 s.hi

-- an interval, by way of the lanes of its ends
abbrev laned : Span → Span
laned s = span (to_z w32 (of_z w32 s.lo)) (to_z w32 (of_z w32 s.hi))

pub kept_spans : (xs : List Span) → Each1 Fit xs → map laned xs ≡ xs
kept_spans [] h = refl
kept_spans (s ∷ xs) h = ap₂ (λ y ys. y ∷ ys) (ap₂ span (to_z-of_z w32 s.lo h.0.0) (to_z-of_z w32 s.hi h.0.1)) (kept_spans xs h.1)
