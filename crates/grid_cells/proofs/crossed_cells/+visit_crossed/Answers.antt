-- Each cell of the block is in one of its parts, and where the line misses a part there is nothing to find.
use Rattle.std.proofs.Common.{◌≡◌, ◌⊎◌, Bool, true, false, Result, Ok, Err, IfOk, inl, inr, sym, ◌∙◌, subst}
use Rattle.std.proofs.lemmas.Bool.{false≢true}
use Rattle.fixed_box.specs.Bounds.{Bounds}
use Rattle.broad_index.specs.Found.{query_meets}
use Rattle.broad_index.specs.declared.query.Query.{Query}
use Rattle.cell_table.specs.declared.cell_key.CellKey.{CellKey}
use Rattle.grid_cells.specs.declared.cell_block.CellBlock.{CellBlock}
use Rattle.grid_cells.specs.Cells.{cell_of, IsCut, IsInBlock}
use Rattle.grid_cells.specs.Sized.{IsSized}
use Rattle.grid_cells.specs.Appended.{IsCrossed}
use Rattle.grid_cells.specs.AppendLaws.{either_where, fewer_where}
use Rattle.grid_cells.proofs.crossed_cells.+visit_crossed.Goals as goal

if_whole : {E : Type 0} (r : Result Bool E) (Found Whole : Type 0) → IfOk r (λ t. t ≡ true → Found) → (Found → Whole) → IfOk r (λ t. t ≡ true → Whole)
if_whole (Ok t) Found Whole found whole = λ h. whole (found h)
if_whole (Err e) Found Whole found whole = tt

-- what is crossed in a block is crossed in one of its parts
parts : (block a b : CellBlock) (query : Query) → IsCut block a b → (k : CellKey) → IsCrossed block query k → IsCrossed a query k ⊎ IsCrossed b query k
parts block a b query cut k is = elim (cut.whole k is.there) as (λ _. IsCrossed a query k ⊎ IsCrossed b query k) [
  | inl x ↦ inl (record { body = is.body; cell = is.cell; sized = is.sized; there = x; met = is.met })
  | inr y ↦ inr (record { body = is.body; cell = is.cell; sized = is.sized; there = y; met = is.met })
]

-- the line misses a block
abbrev Misses : CellBlock → Query → Type 0
Misses block query = (b : Bounds) → IsSized b → IsInBlock block (cell_of b) → query_meets query b ≡ false

missed : (block : CellBlock) (query : Query) → Misses block query → (k : CellKey) → IsCrossed block query k → ⊥
missed block query out k is = false≢true (sym (out is.body is.sized (subst (IsInBlock block) is.cell is.there)) ∙ is.met)

first_alone : (block a b : CellBlock) (query : Query) → IsCut block a b → Misses b query → (k : CellKey) → IsCrossed block query k → IsCrossed a query k
first_alone block a b query cut out k is =
    elim (parts block a b query cut k is) as (λ _. IsCrossed a query k) [ inl x ↦ x | inr y ↦ absurd (missed b query out k y) ]

rest_alone : (block a b : CellBlock) (query : Query) → IsCut block a b → Misses a query → (k : CellKey) → IsCrossed block query k → IsCrossed b query k
rest_alone block a b query cut out k is =
    elim (parts block a b query cut k is) as (λ _. IsCrossed b query k) [ inl x ↦ absurd (missed a query out k x) | inr y ↦ y ]

pub returns-in_default-clause-found : goal.returns-in_default-clause-found
returns-in_default-clause-found g t c _ = fewer_where _ _ _ _ _ (λ q k e is. is.there) c.in_ok-visit_block.ensures.ok

pub returns-then-not-may_meet-clause-found : goal.returns-then-not-may_meet-clause-found
returns-then-not-may_meet-clause-found g t c =
    if_whole c.visit_crossed.result _ _ c.visit_crossed.ensures.found (fewer_where _ _ _ _ _ (λ q k e.
    rest_alone _ _ _ _ c.parts.ensures (c.may_meet.ensures c.if-not-may_meet.true) k))

pub returns-then-not-may_meet-2-clause-found : goal.returns-then-not-may_meet-2-clause-found
returns-then-not-may_meet-2-clause-found g t c _ = fewer_where _ _ _ _ _
    (λ q k e. first_alone _ _ _ _ c.parts.ensures (c.may_meet-2.ensures c.if-not-may_meet-2.true) k)
    (c.in_ok-visit_crossed.ensures.found c.if-not-branch.false)

pub returns-clause-found : goal.returns-clause-found
returns-clause-found g t c =
    if_whole c.visit_crossed-3.result _ _ c.visit_crossed-3.ensures.found (either_where _ _ _ _ _ _ _
    (λ q k e. parts _ _ _ _ c.parts.ensures k) (c.in_ok-visit_crossed.ensures.found c.if-not-branch.false))
