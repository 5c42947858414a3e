-- The box at hand is done, and those that were done stay so.
use Rattle.std.proofs.Common.{◌≡◌, ◌⊎◌, ◌+◌, ◌<◌, ◌==◌, ℕ, List, get_or, length, take, not}
use Rattle.std.proofs.Common.{true, false, Some, option_map, refl, ap, sym, ◌∙◌, inl, inr, subst, arith}
use Rattle.std.proofs.lemmas.Bool.{false≢true}
use Rattle.std.proofs.lemmas.List.{take_all}
use Rattle.std.specs.FinMap.{get}
use Rattle.fixed_box.specs.Bounds.{Bounds, meets}
use Rattle.fixed_box.proofs.BoxLaws.{meets_either_way}
use Rattle.broad_index.specs.Members.{has_pair, has_slot}
use Rattle.broad_index.specs.Touched.{ordered}
use Rattle.grid_boxes.specs.declared.slot_box.SlotBox.{SlotBox}
use Rattle.grid_boxes.specs.Buckets.{AreOf}
use Rattle.grid_boxes.specs.Copies.{slots_of}
use Rattle.hier_grid.specs.Search.{Finds, FindsAround, HasPairs, IsOther, IsSound}
use Rattle.grid_cells.specs.Cells.{standing_cell}
use Rattle.hier_grid.proofs.BucketLemmas.{next_or_before, not_back, not_itself, turned_pair}
use Rattle.grid_boxes.specs.LevelLaws.{some_is}
use Rattle.hier_grid.proofs.PairLemmas.{all_found}
use Rattle.grid_cells.specs.SlotLaws.{has_at}
use Rattle.hier_grid.proofs.pair_search.pairs_of_all.Goals as goal

pub boxes-init : goal.boxes-init
boxes-init c = record {
  within = omega arith;
  sound = subst (IsSound c.args.boxes.now.bodies) (sym c.clear.ensures) (λ p h. absurd (false≢true h));
  done = λ s h. absurd (false≢true h);
}

pub boxes-preserved : goal.boxes-preserved
boxes-preserved c =
    let bodies = c.args.boxes.now.bodies in
    let cell = standing_cell c.args.boxes.now.floor in
    let es = c.copies-copies.result.now in
    let place = c.boxes.place in
    let own = c.index-entries-place.result in
    let own_is : own ≡ get_or es place own = c.index-entries-place.is ∙ ap (λ l. get_or l place own) c.entries.ensures in
    let copied = c.copied-copied.result.now in
    let filled = c.copied-copied.ensures.filled in
    let old = c.boxes.found.pairs.items in
    let mid = c.pairs_in_own_cell.new.found.pairs.items in
    let new = c.pairs_elsewhere.new.found.pairs.items in
    let right : AreOf bodies es =
    subst (AreOf bodies) (sym c.copies-copies.ensures) filled.right in
    let below : place < length es = omega arith in
    let here : get bodies own.slot ≡ Some own.body = subst (λ (e : SlotBox). get bodies e.slot ≡ Some e.body) (sym own_is) (right place own below) in
    let Sooner : List SlotBox → ℕ → Type 0 = λ l q. has_slot (slots_of (take (place + 1) l)) q ≡ false in
    let behind : Finds bodies own true (λ q b. (cell b ≡ cell own.body) × Sooner es q) old mid =
    subst (λ l. Finds bodies own true (λ q b. (cell b ≡ cell own.body) × Sooner l q) old mid) (sym c.copies-copies.ensures)
    (subst (λ floor. Finds bodies own true (λ q b. (standing_cell floor b ≡ standing_cell floor own.body) × Sooner copied.copies q) old mid)
    c.copied-copied.ensures.floor (c.in_ok-pairs_in_own_cell.ensures bodies filled)) in
    let other = c.in_ok-pairs_elsewhere.ensures in
    let kept : HasPairs old new = λ p h. other.more p (behind.more p h) in
    let done = c.boxes.invariant.done in
    let beside : (q : ℕ) (b : Bounds) → get bodies q ≡ Some b → meets own.body b ≡ true → not (q == own.slot) ≡ true → cell b ≡ cell own.body
    → has_pair new (ordered own.slot q) ≡ true = λ q b f m o same.
    elim (has_slot (slots_of (take (place + 1) es)) q) as
    (λ t. has_slot (slots_of (take (place + 1) es)) q ≡ t → has_pair new (ordered own.slot q) ≡ true) [
      | false ↦ λ away. other.more (ordered own.slot q) (behind.found q b f (same, away) m o refl)
      | true ↦ λ sooner. elim (next_or_before es place own below q sooner) as (λ _. has_pair new (ordered own.slot q) ≡ true) [
        | inl before ↦ kept (ordered own.slot q) (ap (has_pair old) (sym (turned_pair own.slot q o))
            ∙ done q before b f own.slot own.body here (meets_either_way b own.body ∙ m) (not_back own.slot q o) (inl (sym same)))
        | inr is ↦ absurd (not_itself own.slot q o (is ∙ ap (λ (e : SlotBox). e.slot) (sym own_is)))
      ]
    ] refl
    in
    let mine : FindsAround cell bodies own.slot new = λ body e q b f m o due.
    elim due as (λ _. has_pair new (ordered own.slot q) ≡ true) [
      | inl same ↦ beside q b f (subst (λ (x : Bounds). meets x b ≡ true) (some_is (sym e ∙ here)) m) o
          (subst (λ (x : Bounds). cell b ≡ cell x) (some_is (sym e ∙ here)) same)
      | inr later ↦ other.found q b f (subst (λ (x : Bounds). IsOther cell x b) (some_is (sym e ∙ here)) later)
          (subst (λ (x : Bounds). meets x b ≡ true) (some_is (sym e ∙ here)) m) o refl
    ]
    in
    record {
      within = omega arith;
      sound = other.sound here (behind.sound here c.boxes.invariant.sound);
      done = λ s h. elim (next_or_before es place own below s h) as (λ _. FindsAround cell bodies s new) [
        | inl before ↦ λ body e q b f m o due. kept (ordered s q) (done s before body e q b f m o due)
        | inr is ↦ subst (λ n. FindsAround cell bodies n new) (sym (is ∙ ap (λ (e : SlotBox). e.slot) (sym own_is))) mine
      ];
    }

pub returns : goal.returns
returns c =
    let bodies = c.args.boxes.now.bodies in
    let cell = standing_cell c.args.boxes.now.floor in
    let es = c.copies-copies.result.now in
    let found = c.boxes.found.pairs.items in
    let copied = c.copied-copied.result.now in
    let filled = c.copied-copied.ensures.filled in
    let stood = standing_cell copied.floor in
    let slots = copied.list.slots in
    let all : take c.boxes.place es ≡ es = take_all c.boxes.place es (omega arith) in
    all_found cell bodies found c.boxes.invariant.sound (λ s body own q b f m o due.
    let stands = filled.listed.whole s (stood body) (filled.keyed s ∙ ap (option_map stood) own) in
    let there : has_slot (slots_of (take c.boxes.place es)) s ≡ true =
    ap (λ l. has_slot (slots_of l) s) (all ∙ c.copies-copies.ensures) ∙ ap (λ l. has_slot l s) filled.same
    ∙ ap (has_slot slots) (sym stands.is) ∙ has_at slots stands.place stands.inside
    in
    c.boxes.invariant.done s there body own q b f m o
    (elim due as (λ _. (cell b ≡ cell body) ⊎ IsOther cell body b) [ inl same ↦ inl same.0 | inr later ↦ inr later ]))
