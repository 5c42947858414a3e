use Rattle.std.proofs.Common.{◌≡◌, ℕ, ◌||◌, true, false, map, get_or, length}
use Rattle.fixed_box.specs.Bounds.{Bounds}
use Rattle.broad_index.specs.Members.{has_slot}
use Rattle.tree_search.proofs.box_search.set_done.Given as goal

abbrev pub invariant-group : goal.invariant-group
invariant-group l = record {
  marked : (k : ℕ) → get_or l.done k false ≡ true
      → (get_or l.fn.done k false || has_slot (map (λ (e : ℕ × Bounds). e.0) l.group) k) ≡ true;
  left : (k : ℕ) → has_slot (map (λ (e : ℕ × Bounds). e.0) l.rest) k ≡ true → has_slot (map (λ (e : ℕ × Bounds). e.0) l.group) k ≡ true;
}

abbrev pub decreases-group : goal.decreases-group
decreases-group l = length l.rest
