-- All boxes of later cells and higher levels that meet the body are near.
use Rattle.std.proofs.Common.{◌≡◌, ℕ, true, Some, sym, ◌∙◌, ◌++◌, subst, inl, inr, arith}
use Rattle.std.specs.FinMap.{get}
use Rattle.fixed_box.specs.Bounds.{Bounds, meets}
use Rattle.broad_index.specs.Members.{has_slot}
use Rattle.grid_cells.specs.Cells.{cell_of, cell_on, IsAfter}
use Rattle.hier_grid.specs.Search.{Finds, IsOther}
use Rattle.grid_cells.specs.AppendLaws.{both, from_none}
use Rattle.grid_cells.specs.SlotLaws.{more_left, more_right}
use Rattle.hier_grid.proofs.ring_search.ring_pairs_elsewhere.Goals as goal

pub returns : goal.returns
returns c =
    let kept = c.args.kept.now in
    let own = c.args.own.now in
    let level = c.requires.level in
    let old = c.args.found.now.pairs.items in
    let new = c.pairs_among.new.self.pairs.items in
    let slots = c.push_from.new.slots.items in
    let among : Finds kept own true (λ q _. has_slot slots q ≡ true) old new =
    subst (λ m. Finds m own true (λ q _. has_slot slots q ≡ true) old new) c.boxes.ensures c.in_ok-pairs_among.ensures in
    let has = from_none
    (λ xs. (q : ℕ) (b : Bounds) → get kept q ≡ Some b → IsOther cell_of own.body b → meets own.body b ≡ true → has_slot xs q ≡ true)
    _ slots c.clear.ensures.items
    (both _ _ _ _ _ _ (λ xs ys after above q b e o m. elim o as (λ _. has_slot (xs ++ ys) q ≡ true) [
      | inl higher ↦ more_right xs ys q (above q b e (c.requires.end.above q b e, (omega (arith, level, higher), m)))
      | inr later ↦ more_left xs ys q (after q b e (
        later.0 ∙ sym level,
        (subst (λ n. IsAfter (cell_of b) (cell_on n own.body.lo)) (sym level) later.1, m),
      ))
    ]) c.in_ok-push_after.ensures c.in_ok-push_from.ensures.ok) in
    record {
      sound = among.sound;
      more = among.more;
      found = λ q b here o m other any. among.found q b here (has q b here o m) m other any;
    }
