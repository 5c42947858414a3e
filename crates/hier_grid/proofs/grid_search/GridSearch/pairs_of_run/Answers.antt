-- The slot at hand is done, and those that were done stay so.
use Rattle.std.proofs.Common.{◌≡◌, ◌⊎◌, true, inl, inr, subst, sym}
use Rattle.broad_index.specs.Members.{has_slot}
use Rattle.grid_cells.specs.Cells.{cell_of}
use Rattle.hier_grid.specs.Search.{FindsFor}
use Rattle.hier_grid.proofs.RunLemmas.{finds_more, first_or_rest, no_slots, rest_of}
use Rattle.hier_grid.proofs.grid_search.GridSearch.pairs_of_run.Goals as goal

pub slots-preserved : goal.slots-preserved
slots-preserved c =
    let kept = c.args.self.now in
    let new = c.pairs_of_slot.new.found.pairs.items in
    record {
      sound = c.in_ok-pairs_of_slot.ensures.sound c.slots.invariant.sound;
      whole = λ s h. elim (c.slots.invariant.whole s h) as (λ _. (has_slot (rest_of c.slots.rest.now) s ≡ true) ⊎ FindsFor cell_of kept s new) [
        | inl r ↦ elim (first_or_rest c.slots.rest.now c.in-len1-up.len_at_least s r) as
            (λ _. (has_slot (rest_of c.slots.rest.now) s ≡ true) ⊎ FindsFor cell_of kept s new) [
              | inl e ↦ inr (subst (λ n. FindsFor cell_of kept n new) (sym e) c.in_ok-pairs_of_slot.ensures.found)
              | inr t ↦ inl t
            ]
        | inr f ↦ inr (finds_more cell_of kept s c.slots.found.pairs.items new c.in_ok-pairs_of_slot.ensures.more f)
      ];
    }

pub returns : goal.returns
returns c = record {
  sound = c.slots.invariant.sound;
  whole = λ s h. elim (c.slots.invariant.whole s h) as (λ _. FindsFor cell_of c.args.self.now s c.slots.found.pairs.items) [
    | inl r ↦ absurd (no_slots c.slots.rest.now s c.in_default.len_below r)
    | inr f ↦ f
  ];
}
