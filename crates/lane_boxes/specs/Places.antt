-- Definitions: the places of boxes in a list, and the tests of the next eight.
use Rattle.std.specs.Prelude.{◌≡◌, ℕ, ◌+◌, ◌-◌, ◌<◌, ◌≤◌, Bool, List, ◌++◌, length, map, filter, zip, take, drop}
use Rattle.std.specs.List.{range_with_len}
use Rattle.std.specs.Simd.Lanes.{mask_l}
use Rattle.fixed_box.specs.Bounds.{Bounds}

-- boxes with their places, counted from a number on
abbrev pub placed : ℕ → List Bounds → List (ℕ × Bounds)
placed from boxes = zip (range_with_len from (length boxes)) boxes

-- the places of the boxes that pass a test, rising, counted from a number on
abbrev pub places : (Bounds → Bool) → ℕ → List Bounds → List ℕ
places test from boxes = map (λ e. e.0) (filter (λ e. test e.1) (placed from boxes))

-- the number whose bit k is set exactly where there is a box k places further on, k below eight, and it passes a test
abbrev pub next_eight : (Bounds → Bool) → ℕ → List Bounds → ℕ
next_eight test at boxes = mask_l (map test (take 8 (drop at boxes)))

-- What a scan from a place on appends to a list: the places of the boxes that pass, up to an end, which is the one that was named or up to seven
-- places behind it.
pub record IsScanned (test : Bounds → Bool) (from to : ℕ) (boxes : List Bounds) (old new : List ℕ) : Type 0 where
  pub end : ℕ
  pub reached : to ≤ end
  pub near : end < to + 8
  pub found : new ≡ old ++ places test from (take (end - from) (drop from boxes))
