-- Serves proofs alone: what a walk looks into row by row is all of its cells.
use Rattle.std.proofs.Common.{◌≡◌, ◌⊎◌, inl, inr, ℕ, List, [], ◌∷◌, ◌++◌, subst}
use Rattle.std.specs.Ordering.{nat_cmp}
use Rattle.std.specs.FinMap.{FinMap}
use Rattle.cell_table.specs.declared.cell_key.CellKey.{CellKey}
use Rattle.grid_cells.specs.declared.cell_row.CellRow.{CellRow}
use Rattle.grid_cells.specs.Appended.{Appends, HasCells, Stays}
use Rattle.grid_cells.specs.AppendLaws.{begins, either_where, fewer_where, none_where, stays_on}
use Rattle.grid_cells.specs.Cells.{IsInRow}
use Rattle.grid_cells.specs.Walks.{Covers, IsInOne}

-- ---- rows
pub in_first : (xs ys : List CellRow) (k : CellKey) → IsInOne xs k → IsInOne (xs ++ ys) k
unfolding IsInOne
in_first [] ys k at = absurd at
in_first (x ∷ xs) ys k at = elim at as (λ _. IsInOne (x ∷ xs ++ ys) k) [
  | inl here ↦ inl here
  | inr there ↦ inr (in_first xs ys k there)
]

pub in_second : (xs ys : List CellRow) (k : CellKey) → IsInOne ys k → IsInOne (xs ++ ys) k
unfolding IsInOne
in_second [] ys k at = at
in_second (x ∷ xs) ys k at = inr (in_second xs ys k at)

pub in_either : (xs ys : List CellRow) (k : CellKey) → IsInOne (xs ++ ys) k → IsInOne xs k ⊎ IsInOne ys k
unfolding IsInOne
in_either [] ys k at = inr at
in_either (x ∷ xs) ys k at = elim at as (λ _. IsInOne (x ∷ xs) k ⊎ IsInOne ys k) [
  | inl here ↦ inl (inl here)
  | inr there ↦ elim (in_either xs ys k there) as (λ _. IsInOne (x ∷ xs) k ⊎ IsInOne ys k) [
    | inl first ↦ inl (inr first)
    | inr second ↦ inr second
  ]
]

-- ---- walks
module _ {T : Type 0} (searched : List CellRow → T → T → Type 0) where
  pub covers_none : (IsThere : CellKey → Type 0) (s : T) → searched [] s s → ((k : CellKey) → IsThere k → ⊥) → Covers searched IsThere s s
  unfolding IsInOne
  covers_none IsThere s looked nowhere = record { rows = []; all = nowhere; looked = looked }

  pub covers_row : (row : CellRow) (a b : T) → searched (row ∷ []) a b → Covers searched (IsInRow row) a b
  unfolding IsInOne
  covers_row row a b looked = record { rows = row ∷ []; all = λ k at. inl at; looked = looked }

  pub covers_among : (IsMore IsThere : CellKey → Type 0) (a b : T) → ((k : CellKey) → IsThere k → IsMore k) → Covers searched IsMore a b
      → Covers searched IsThere a b
  covers_among IsMore IsThere a b more first = record { rows = first.rows; all = λ k at. first.all k (more k at); looked = first.looked }

  pub covers_both : (IsFirst IsSecond IsThere : CellKey → Type 0) (a b c : T)
      → ((xs ys : List CellRow) → searched xs a b → searched ys b c → searched (xs ++ ys) a c)
      → ((k : CellKey) → IsThere k → IsFirst k ⊎ IsSecond k) → Covers searched IsFirst a b → Covers searched IsSecond b c
      → Covers searched IsThere a c
  covers_both IsFirst IsSecond IsThere a b c joined either first second = record {
    rows = first.rows ++ second.rows;
    all = λ k at. elim (either k at) as (λ _. IsInOne (first.rows ++ second.rows) k) [
      | inl here ↦ in_first first.rows second.rows k (first.all k here)
      | inr there ↦ in_second first.rows second.rows k (second.all k there)
    ];
    looked = joined first.rows second.rows first.looked second.looked;
  }

-- ---- slots that are appended row by row
pub slots_nowhere : (table : FinMap nat_cmp CellKey) (old : List ℕ) → Appends (HasCells table (IsInOne [])) old old
unfolding IsInOne
slots_nowhere table old = none_where table (IsInOne []) old (λ q k e at. at)

-- the table is the same for both looks
pub slots_twice : (table after : FinMap nat_cmp CellKey) (xs ys : List CellRow) (old now new : List ℕ) → after ≡ table
    → Appends (HasCells table (IsInOne xs)) old now → Appends (HasCells after (IsInOne ys)) now new → Appends (HasCells table (IsInOne (xs ++ ys))) old new
slots_twice table after xs ys old now new same first second =
    either_where table (IsInOne xs) (IsInOne ys) (IsInOne (xs ++ ys)) old now new (λ q k e at. in_either xs ys k at)
    first (subst (λ t. Appends (HasCells t (IsInOne ys)) now new) same second)

pub slots_stay : (Has : List ℕ → Type 0) (old now new : List ℕ) → Appends Has old now → Stays now new → Stays old new
slots_stay Has old now new first = stays_on old now new (begins Has old now first)

pub slots_in_row : (table : FinMap nat_cmp CellKey) (row : CellRow) (old new : List ℕ) → Appends (HasCells table (IsInRow row)) old new
    → Appends (HasCells table (IsInOne (row ∷ []))) old new
unfolding IsInOne
slots_in_row table row old new = fewer_where table (IsInRow row) (IsInOne (row ∷ [])) old new
    (λ q k e at. elim at as (λ _. IsInRow row k) [ inl here ↦ here | inr nowhere ↦ absurd nowhere ])
