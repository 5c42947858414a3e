-- Serves proofs alone: what a walk finds row by row is what it finds in all of its cells.
use Rattle.std.proofs.Common.{◌≡◌, inl, inr, true, List, [], ◌∷◌, ◌++◌, subst}
use Rattle.broad_index.specs.declared.pair.Pair.{Pair}
use Rattle.broad_index.specs.Members.{has_pair}
use Rattle.broad_index.specs.Touched.{ordered}
use Rattle.cell_table.specs.declared.cell_key.CellKey.{CellKey}
use Rattle.grid_boxes.specs.declared.slot_box.SlotBox.{SlotBox}
use Rattle.grid_cells.specs.declared.cell_row.CellRow.{CellRow}
use Rattle.grid_cells.specs.Cells.{IsInRow, standing_cell}
use Rattle.grid_cells.specs.Walks.{IsInOne}
use Rattle.grid_cells.specs.WalkLaws.{in_either}
use Rattle.hier_grid.specs.Listing.{FindsIn, Standing}

pub finds_nowhere : (boxes : Standing) (own : SlotBox) (old : List Pair) → FindsIn boxes own true (IsInOne []) old old
unfolding IsInOne
finds_nowhere boxes own old = record {
  sound = λ mine s. s;
  more = λ p h. h;
  found = λ q b e at m other due. absurd at;
}

-- the boxes are the same for both searches, and so is the slot's
pub finds_twice : (boxes after : Standing) (own mine : SlotBox) (xs ys : List CellRow) (old now new : List Pair) → after ≡ boxes → mine ≡ own
    → FindsIn boxes own true (IsInOne xs) old now → FindsIn after mine true (IsInOne ys) now new → FindsIn boxes own true (IsInOne (xs ++ ys)) old new
finds_twice boxes after own mine xs ys old now new same_boxes same_own first second =
    let later : FindsIn boxes own true (IsInOne ys) now new =
    subst (λ s. FindsIn s own true (IsInOne ys) now new) same_boxes (subst (λ s. FindsIn after s true (IsInOne ys) now new) same_own second) in
    record {
      sound = λ is s. later.sound is (first.sound is s);
      more = λ p h. later.more p (first.more p h);
      found = λ q b e at m other due.
          elim (in_either xs ys (standing_cell boxes.floor b) at) as (λ _. has_pair new (ordered own.slot q) ≡ true) [
            | inl here ↦ later.more (ordered own.slot q) (first.found q b e here m other due)
            | inr there ↦ later.found q b e there m other due
          ];
    }

pub finds_in_row : (boxes : Standing) (own : SlotBox) (row : CellRow) (old new : List Pair) → FindsIn boxes own true (IsInRow row) old new
    → FindsIn boxes own true (IsInOne (row ∷ [])) old new
unfolding IsInOne
finds_in_row boxes own row old new one = record {
  sound = one.sound;
  more = one.more;
  found = λ q b e at m other due. elim at as (λ _. has_pair new (ordered own.slot q) ≡ true) [
    | inl here ↦ one.found q b e here m other due
    | inr nowhere ↦ absurd nowhere
  ];
}

-- what is in all rows of a walk
pub finds_covered : (boxes : Standing) (own : SlotBox) (rows : List CellRow) (IsThere : CellKey → Type 0) (old new : List Pair)
    → ((k : CellKey) → IsThere k → IsInOne rows k) → FindsIn boxes own true (IsInOne rows) old new → FindsIn boxes own true IsThere old new
finds_covered boxes own rows IsThere old new all walk = record {
  sound = walk.sound;
  more = walk.more;
  found = λ q b e at m other due. walk.found q b e (all (standing_cell boxes.floor b) at) m other due;
}
