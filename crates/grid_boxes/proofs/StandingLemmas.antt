-- The cells in which boxes stand above a floor, through changes.
use Rattle.std.proofs.Common.{◌≡◌, ℕ, true, false, cond, Option, None, Some, is_some, refl, sym, ap, ◌∙◌, arith}
use Rattle.std.specs.Prelude.{option_map}
use Rattle.std.proofs.lemmas.Cmp.{nat_cmp_total}
use Rattle.std.specs.Ordering.{nat_cmp, eq_by_cmp}
use Rattle.std.specs.FinMap.{FinMap, get, get-insert, get-remove, insert, remove, contains_key}
use Rattle.fixed_box.specs.Bounds.{Bounds}
use Rattle.slot_lists.specs.SlotMapLaws.{tie_same, tie_other}
use Rattle.cell_table.specs.declared.cell_key.CellKey.{CellKey}
use Rattle.grid_cells.specs.Cells.{cell_of}
use Rattle.grid_boxes.specs.Grid.{AreKeyed}
use Rattle.grid_boxes.specs.Standing.{AreStanding}
use Rattle.grid_cells.specs.Cells.{standing_cell}
use Rattle.grid_cells.specs.CellLaws.{stands_own}

own_map : (o : Option Bounds) → option_map cell_of o ≡ option_map (standing_cell 0) o
own_map None = refl
own_map (Some b) = ap Some (sym (stands_own 0 b (omega arith)))

-- with no floor each box stands in its own cell
pub standing_own : (bodies : FinMap nat_cmp Bounds) (cells : FinMap nat_cmp CellKey) → AreKeyed bodies cells → AreStanding bodies 0 cells
standing_own bodies cells keyed s = keyed s ∙ own_map (get bodies s)

-- ---- a change of one box
pub standing_put : (bodies : FinMap nat_cmp Bounds) (floor : ℕ) (cells : FinMap nat_cmp CellKey) (s : ℕ) (b : Bounds) → AreStanding bodies floor cells
    → AreStanding (insert bodies s b) floor (insert cells s (standing_cell floor b))
standing_put bodies floor cells s b keyed q =
    let f = standing_cell floor in
    get-insert nat_cmp_total cells s (f b) q
    ∙ elim (eq_by_cmp nat_cmp q s) as (λ t. cond t (Some (f b)) (get cells q) ≡ option_map f (cond t (Some b) (get bodies q))) [ true ↦ refl | false ↦ keyed q ]
    ∙ sym (ap (option_map f) (get-insert nat_cmp_total bodies s b q))

pub standing_take : (bodies : FinMap nat_cmp Bounds) (floor : ℕ) (cells : FinMap nat_cmp CellKey) (s : ℕ) → AreStanding bodies floor cells
    → AreStanding (remove bodies s) floor (remove cells s)
standing_take bodies floor cells s keyed q =
    let f = standing_cell floor in
    get-remove nat_cmp_total cells s q
    ∙ elim (eq_by_cmp nat_cmp q s) as (λ t. cond t None (get cells q) ≡ option_map f (cond t None (get bodies q))) [ true ↦ refl | false ↦ keyed q ]
    ∙ sym (ap (option_map f) (get-remove nat_cmp_total bodies s q))

-- ---- one cell after another
pub put_here : (cells : FinMap nat_cmp CellKey) (s : ℕ) (k : CellKey) → get (insert cells s k) s ≡ Some k
put_here cells s k = get-insert nat_cmp_total cells s k s ∙ ap (λ b. cond b (Some k) (get cells s)) (tie_same s s refl)

pub put_other : (cells : FinMap nat_cmp CellKey) (s : ℕ) (k : CellKey) (q : ℕ) → (q ≡ s → ⊥) → get (insert cells s k) q ≡ get cells q
put_other cells s k q ne = get-insert nat_cmp_total cells s k q ∙ ap (λ b. cond b (Some k) (get cells q)) (tie_other q s ne)

pub drop_here : (cells : FinMap nat_cmp CellKey) (s : ℕ) → get (remove cells s) s ≡ None
drop_here cells s = get-remove nat_cmp_total cells s s ∙ ap (λ b. cond b None (get cells s)) (tie_same s s refl)

pub drop_other : (cells : FinMap nat_cmp CellKey) (s q : ℕ) → (q ≡ s → ⊥) → get (remove cells s) q ≡ get cells q
drop_other cells s q ne = get-remove nat_cmp_total cells s q ∙ ap (λ b. cond b None (get cells q)) (tie_other q s ne)

-- ---- which slots have cells
some_map : (floor : ℕ) (o : Option Bounds) → is_some (option_map (standing_cell floor) o) ≡ is_some o
some_map floor None = refl
some_map floor (Some b) = refl

pub same_standing : (bodies : FinMap nat_cmp Bounds) (floor : ℕ) (cells : FinMap nat_cmp CellKey) (s : ℕ) → AreStanding bodies floor cells
    → contains_key cells s ≡ contains_key bodies s
same_standing bodies floor cells s keyed = ap is_some (keyed s) ∙ some_map floor (get bodies s)

pub absent : {X : Type 0} (o : Option X) → ((x : X) → o ≡ Some x → ⊥) → o ≡ None
absent None h = refl
absent (Some x) h = absurd (h x refl)
