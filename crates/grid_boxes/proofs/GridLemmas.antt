-- The cells of the boxes and their hull through changes, levels with no box, and searches of cells and levels.
use Rattle.std.proofs.Common.{◌≡◌, ℕ, ◌+◌, ◌<◌, Bool, true, false, cond, Option, None, Some, is_some, refl, sym, ap, ◌∙◌, arith}
use Rattle.std.proofs.Common.{subst, option_map, ◌⊎◌, inl, inr, List, [], ◌∷◌, ◌||◌, ◌==◌, length, map}
use Rattle.std.specs.List.{filter}
use Rattle.std.proofs.lemmas.Cmp.{nat_cmp_total}
use Rattle.std.proofs.lemmas.Bool.{true≢false, false≢true}
use Rattle.std.proofs.lemmas.Bool.Decides.{nat_tests}
use Rattle.std.specs.Ordering.{nat_cmp, eq_by_cmp}
use Rattle.std.specs.FinMap.{FinMap, get, get-insert, get-remove, insert, remove, contains_key, empty, empty_of_len, get-empty, len, entries, get-entries}
use Rattle.std.specs.FinMap as maps
use Rattle.fixed_box.specs.Bounds.{Bounds, encloses, level_of}
use Rattle.cell_table.specs.declared.cell_key.CellKey.{CellKey}
use Rattle.cell_table.specs.Cells.{has, slots_at}
use Rattle.grid_cells.specs.Appended.{Appends, HasWhere}
use Rattle.grid_cells.specs.AppendLaws.{among, either_where}
use Rattle.grid_cells.specs.Cells.{cell_of}
use Rattle.grid_boxes.specs.Grid.{AreKeyed, IsGrid}
use Rattle.grid_cells.specs.Sized.{IsSized, is_held}
use Rattle.grid_boxes.specs.Candidates.{IsAbove, IsBare}
use Rattle.grid_boxes.specs.LevelLaws.{none_some, some_is, tie_is}
use Rattle.fixed_box.proofs.Numbers.{nat_next}

pub grid_put : (bodies : FinMap nat_cmp Bounds) (cells : FinMap nat_cmp CellKey) (hull : Option Bounds) (s : ℕ) (b : Bounds) (grown : Bounds)
    → IsGrid bodies cells hull → IsSized b → encloses grown b ≡ true → ((x : Bounds) → is_held hull x ≡ true → encloses grown x ≡ true)
    → IsGrid (insert bodies s b) (insert cells s (cell_of b)) (Some grown)
grid_put bodies cells hull s b grown g sized this more = record {
  held = λ q x h. elim (eq_by_cmp nat_cmp q s) as (λ t. cond t (Some b) (get bodies q) ≡ Some x → encloses grown x ≡ true) [
    | true ↦ λ e. subst (λ (y : Bounds). encloses grown y ≡ true) (some_is e) this
    | false ↦ λ e. more x (g.held q x e)
  ] (sym (get-insert nat_cmp_total bodies s b q) ∙ h);
  keyed = λ q. get-insert nat_cmp_total cells s (cell_of b) q
      ∙ elim (eq_by_cmp nat_cmp q s) as
      (λ t. cond t (Some (cell_of b)) (get cells q) ≡ option_map cell_of (cond t (Some b) (get bodies q))) [ true ↦ refl | false ↦ g.keyed q ]
      ∙ sym (ap (option_map cell_of) (get-insert nat_cmp_total bodies s b q));
  sized = λ q x h. elim (eq_by_cmp nat_cmp q s) as (λ t. cond t (Some b) (get bodies q) ≡ Some x → IsSized x) [
    | true ↦ λ e. subst IsSized (some_is e) sized
    | false ↦ g.sized q x
  ] (sym (get-insert nat_cmp_total bodies s b q) ∙ h);
}

pub grid_take : (bodies : FinMap nat_cmp Bounds) (cells : FinMap nat_cmp CellKey) (hull : Option Bounds) (s : ℕ) → IsGrid bodies cells hull
    → IsGrid (remove bodies s) (remove cells s) hull
grid_take bodies cells hull s g = record {
  held = λ q x h. elim (eq_by_cmp nat_cmp q s) as (λ t. cond t None (get bodies q) ≡ Some x → is_held hull x ≡ true) [
    | true ↦ λ e. absurd (none_some x e)
    | false ↦ g.held q x
  ] (sym (get-remove nat_cmp_total bodies s q) ∙ h);
  keyed = λ q. get-remove nat_cmp_total cells s q
      ∙ elim (eq_by_cmp nat_cmp q s) as (λ t. cond t None (get cells q) ≡ option_map cell_of (cond t None (get bodies q))) [ true ↦ refl | false ↦ g.keyed q ]
      ∙ sym (ap (option_map cell_of) (get-remove nat_cmp_total bodies s q));
  sized = λ q x h. elim (eq_by_cmp nat_cmp q s) as (λ t. cond t None (get bodies q) ≡ Some x → IsSized x) [
    | true ↦ λ e. absurd (none_some x e)
    | false ↦ g.sized q x
  ] (sym (get-remove nat_cmp_total bodies s q) ∙ h);
}

pub grid_new : (bodies : FinMap nat_cmp Bounds) (cells : FinMap nat_cmp CellKey) → bodies ≡ empty {R = nat_cmp} → cells ≡ empty {R = nat_cmp}
    → IsGrid bodies cells None
grid_new bodies cells e f = record {
  held = λ s b h. absurd (none_some b (sym (ap (λ m. get m s) e ∙ get-empty nat_cmp s) ∙ h));
  keyed = λ s. ap (λ m. get m s) f ∙ get-empty nat_cmp s ∙ sym (ap (option_map cell_of) (ap (λ m. get m s) e ∙ get-empty nat_cmp s));
  sized = λ s b h. absurd (none_some b (sym (ap (λ m. get m s) e ∙ get-empty nat_cmp s) ∙ h));
}

-- another hull holds all boxes too
pub grid_held : (bodies : FinMap nat_cmp Bounds) (cells : FinMap nat_cmp CellKey) (hull left : Option Bounds) → IsGrid bodies cells hull
    → ((s : ℕ) (b : Bounds) → get bodies s ≡ Some b → is_held hull b ≡ true → is_held left b ≡ true) → IsGrid bodies cells left
grid_held bodies cells hull left g more = record { held = λ s b h. more s b h (g.held s b h); keyed = g.keyed; sized = g.sized }

-- where there are no boxes no slot has one
pub no_box : (bodies : FinMap nat_cmp Bounds) (s : ℕ) (b : Bounds) → len bodies ≡ 0 → get bodies s ≡ Some b → ⊥
no_box bodies s b none h = none_some b (sym (ap (λ m. get m s) (empty_of_len bodies none) ∙ get-empty nat_cmp s) ∙ h)

some_map : (o : Option Bounds) → is_some (option_map cell_of o) ≡ is_some o
some_map None = refl
some_map (Some b) = refl

-- a slot has a cell where it has a box
pub same_slots : (bodies : FinMap nat_cmp Bounds) (cells : FinMap nat_cmp CellKey) (s : ℕ) → AreKeyed bodies cells
    → contains_key cells s ≡ contains_key bodies s
same_slots bodies cells s keyed = ap is_some (keyed s) ∙ some_map (get bodies s)

has_passing : (p : CellKey → Bool) (q : ℕ) (key : CellKey) (es : List (ℕ × CellKey)) → p key ≡ true → maps.find nat_cmp q es ≡ Some key
    → has (map (λ (e : ℕ × CellKey). e.0) (filter (λ e. p e.1) es)) q ≡ true
has_passing p q key [] ok h = absurd (none_some h)
  where
    none_some : ◌≡◌ {A = Option CellKey} None (Some key) → ⊥
    none_some e = true≢false (ap is_some (sym e))
has_passing p q key (e ∷ es) ok h = elim (eq_by_cmp nat_cmp q e.0) as
    (λ b. eq_by_cmp nat_cmp q e.0 ≡ b → cond b (Some e.1) (maps.find nat_cmp q es) ≡ Some key
    → has (map (λ (e : ℕ × CellKey). e.0) (filter (λ e. p e.1) (e ∷ es))) q ≡ true) [
      | true ↦ λ t i.
          let same : e.1 ≡ key = cc in
          let c : p e.1 ≡ true = ap p same ∙ ok in
          let at : q ≡ e.0 = tie_is q e.0 t in
          let x : (e.0 == q) ≡ true = grind (arith, nat_tests) in
          ap (λ b. has (map (λ (e : ℕ × CellKey). e.0) (cond b (e ∷ filter (λ e. p e.1) es) (filter (λ e. p e.1) es))) q) c
          ∙ ap (λ b. b || has (map (λ (e : ℕ × CellKey). e.0) (filter (λ e. p e.1) es)) q) x
      | false ↦ λ _ i.
          let r = has_passing p q key es ok i in
          elim (p e.1) as (λ b. has (map (λ (e : ℕ × CellKey). e.0) (cond b (e ∷ filter (λ e. p e.1) es) (filter (λ e. p e.1) es))) q ≡ true) [
            | true ↦ elim (e.0 == q) as (λ b. (b || has (map (λ (e : ℕ × CellKey). e.0) (filter (λ e. p e.1) es)) q) ≡ true) [ true ↦ refl | false ↦ r ]
            | false ↦ r
          ]
    ] refl h

has_level : (cells : FinMap nat_cmp CellKey) (q : ℕ) (key : CellKey) (level : ℕ) → key.level ≡ level → get cells q ≡ Some key
    → has (slots_at cells level) q ≡ true
has_level cells q key level e h = has_passing (λ k. k.level == level) q key (entries cells) (grind (arith, nat_tests)) (sym (get-entries cells q) ∙ h)

none_in : (xs : List ℕ) (q : ℕ) → length xs ≡ 0 → has xs q ≡ true → ⊥
none_in [] q l h = false≢true h
none_in (x ∷ xs) q l h = absurd (omega arith)

-- A level with no slot has no box.
pub bare : (bodies : FinMap nat_cmp Bounds) (cells : FinMap nat_cmp CellKey) (hull : Option Bounds) (level : ℕ) → IsGrid bodies cells hull
    → length (slots_at cells level) ≡ 0 → IsBare bodies level
bare bodies cells hull level g none q b e l =
    none_in (slots_at cells level) q none (has_level cells q (cell_of b) level l (g.keyed q ∙ ap (option_map cell_of) e))

-- What is above all boxes, where the level below it has none, is above them by one less.
pub above_less : (bodies : FinMap nat_cmp Bounds) (end : ℕ) → IsAbove bodies (end + 1) → IsBare bodies end → IsAbove bodies end
above_less bodies end above none q b e = elim (nat_next (level_of b) end (above q b e)) as (λ _. level_of b < end) [
  | inl below ↦ below
  | inr at ↦ absurd (none q b e at)
]

-- What has the slots of cells has those of the boxes in them.
pub boxes_in_cells : (kept bodies : FinMap nat_cmp Bounds) (cells : FinMap nat_cmp CellKey) (IsThere : CellKey → Type 0) (Meets : Bounds → Type 0)
    (old new : List ℕ) → AreKeyed kept cells → kept ≡ bodies → ((q : ℕ) (b : Bounds) → get bodies q ≡ Some b → Meets b → IsThere (cell_of b))
    → Appends (HasWhere cells IsThere) old new → Appends (HasWhere bodies Meets) old new
boxes_in_cells kept bodies cells IsThere Meets old new keyed same there =
    among (HasWhere cells IsThere) (HasWhere bodies Meets) old new (λ xs has q b e m.
    has q (cell_of b) (keyed q ∙ ap (option_map cell_of) (ap (λ k. get k q) same ∙ e)) (there q b e m))

-- A box below the next level is of this one, or below it.
pub one_more_level : (bodies : FinMap nat_cmp Bounds) (level : ℕ) (Meets Wider : Bounds → Type 0) (old now new : List ℕ)
    → ((b : Bounds) → Meets b → Wider b) → Appends (HasWhere bodies (λ b. (level_of b < level) × Meets b)) old now
    → Appends (HasWhere bodies (λ b. (level_of b ≡ level) × Wider b)) now new → Appends (HasWhere bodies (λ b. (level_of b < level + 1) × Meets b)) old new
one_more_level bodies level Meets Wider old now new wider =
    either_where bodies (λ b. (level_of b < level) × Meets b) (λ b. (level_of b ≡ level) × Wider b) (λ b. (level_of b < level + 1) × Meets b) old now new
    (λ q b e m. elim (nat_next (level_of b) level m.0) as (λ _. ((level_of b < level) × Meets b) ⊎ ((level_of b ≡ level) × Wider b)) [
      | inl below ↦ inl (below, m.1)
      | inr at ↦ inr (at, wider b m.1)
    ])
