-- Slots in order with their boxes beside them, as the map that they are.
use Rattle.std.proofs.Common.{◌≡◌, ℕ, suc, ◌+◌, ◌<◌, ◌≤◌, pos, Bool, true, false, T, List, ◌∷◌, ◌++◌, length, map, filter, take, drop, zip}
use Rattle.std.proofs.Common.{insert, remove, set, get_or, sym, ap, ap₂, subst, ◌∙◌, arith, nat_lt, is_some, Some, None}
use Rattle.std.proofs.Common.{length-append, length-take, length-drop, length-set}
use Rattle.std.specs.List.{AllWithin}
use Rattle.std.specs.List.Sorted.{IsPartitionedBy}
use Rattle.std.specs.Ordering.{nat_cmp}
use Rattle.std.specs.FinMap.{FinMap, entries, contains_key, find, get, get-from_sorted, is_sorted, insert as insert_key, len, len-entries, remove as remove_key}
use Rattle.std.specs.FinMap.Entries.{put}
use Rattle.std.proofs.lemmas.List.{drop_at, drop_more, take_at}
use Rattle.std.proofs.lemmas.Simd.{map-map}
use Rattle.std.proofs.lemmas.List.Elements.{All-append, All-cons, All-drop, All-set, All-take}
use Rattle.std.proofs.lemmas.Slice.Zip.{get_or-zip, length-zip}
use Rattle.fixed_box.specs.Bounds.{Bounds, meets}
use Rattle.fixed_box.specs.declared.TheConstants.{SLOTS}
use Rattle.lane_boxes.specs.Places.{places}
use Rattle.broad_index.specs.declared.pair.Pair.{Pair}
use Rattle.broad_index.specs.Entries.{AreEntries, Placed, pairs_at}
use Rattle.broad_index.specs.Index.{bodies_of}
use Rattle.broad_index.specs.Near.{near_of, partners}
use Rattle.fixed_box.specs.Space.{space}
use Rattle.broad_index.proofs.SortedEntries.{absent_from, entries_of_sorted, find_at, find_none, from_sorted-put, from_sorted-remove, insert_is_put, key_there}
use Rattle.broad_index.proofs.SortedEntries.{partitioned, present_from, present_within, rising_few, set_is_put, sorted_put, sorted_removed}

origin : Bounds
origin = record { lo = record { x = pos 0; y = pos 0; z = pos 0 }; hi = record { x = pos 0; y = pos 0; z = pos 0 } }

module _ (slots : List ℕ) (boxes : List Bounds) (a : AreEntries slots boxes) where
  pub zip_long : length (zip slots boxes) ≡ length slots
  zip_long = omega (arith, length-zip slots boxes, a.same)

  pub zip_at : (i : ℕ) (d : ℕ × Bounds) → i < length slots → get_or (zip slots boxes) i d ≡ (get_or slots i d.0, get_or boxes i d.1)
  zip_at i d l = get_or-zip slots boxes i d l (omega (arith, a.same))

  -- the slots are parted by each slot
  pub slots_parted : (k : ℕ) → IsPartitionedBy (λ s. nat_lt s k) slots
  slots_parted k i j d le l below =
      let parted = partitioned (zip slots boxes) k a.sorted i j (d, origin) le (omega (arith, zip_long)) in
      sym (ap (λ e. nat_lt e.0 k) (zip_at i (d, origin) (omega arith))) ∙ parted (ap (λ e. nat_lt e.0 k) (zip_at j (d, origin) l) ∙ below)

  -- what holds of slots within bounds holds of their entries
  pub within_zip : (P : ℕ → Type 0) (lo hi : ℕ) → hi ≤ length slots → AllWithin P slots lo hi → AllWithin (λ e. P e.0) (zip slots boxes) lo hi
  within_zip P lo hi le h j d l u = subst P (sym (ap (λ e. e.0) (zip_at j d (omega arith)))) (h j d.0 l u)

  pub few_slots : length slots ≤ SLOTS
  few_slots =
      let few = rising_few (zip slots boxes) 0 SLOTS a.sorted (λ j d l. omega arith)
      (λ j d l. subst (λ s. s < SLOTS) (sym (ap (λ e. e.0) (zip_at j d (omega (arith, zip_long))))) (a.small j d.0 (omega (arith, zip_long)))) (omega arith) in
      omega (arith, few, zip_long)

  pub entries_are : entries (bodies_of (zip slots boxes)) ≡ zip slots boxes
  entries_are = entries_of_sorted (zip slots boxes) a.sorted

  pub placed : (bodies : FinMap nat_cmp Bounds) (slot at : ℕ) → bodies_of (zip slots boxes) ≡ bodies → Placed (entries bodies) slot at → Placed
      (zip slots boxes) slot at
  placed bodies slot at e p = subst (λ es. Placed es slot at) (ap entries (sym e) ∙ entries_are) p

  -- as many slots as the map has
  pub slots_counted : len (bodies_of (zip slots boxes)) ≡ length slots
  slots_counted = len-entries (bodies_of (zip slots boxes)) ∙ ap length entries_are ∙ zip_long

  module _ (slot at : ℕ) (p : Placed (zip slots boxes) slot at) where
    -- what a slot has is the box at its place, where the slot stands there
    pub held_there : (s : ℕ) (body : Bounds) → at < length slots → s ≡ get_or slots at s → body ≡ get_or boxes at body → s ≡ slot
        → Some body ≡ get (bodies_of (zip slots boxes)) slot
    held_there s body l es eb same =
        let here : get_or (zip slots boxes) at (s, body) ≡ (s, body) = zip_at at (s, body) l ∙ sym
        (ap (λ x. (x, body)) es ∙ ap (λ b. (get_or slots at s, b)) eb) in
        sym
        (get-from_sorted nat_cmp (zip slots boxes) slot a.sorted
        ∙ find_at (zip slots boxes) slot at (s, body) a.sorted (omega (arith, zip_long, l)) (ap (λ e. e.0) here ∙ same)
        ∙ ap (λ e. Some e.1) here)

    pub held_nowhere : (at < length slots → get_or slots at 0 ≡ slot → ⊥) → None ≡ get (bodies_of (zip slots boxes)) slot
    held_nowhere other =
        sym
        (get-from_sorted nat_cmp (zip slots boxes) slot a.sorted
        ∙ find_none (zip slots boxes) slot at (0, origin) a.sorted p.bound p.below p.above
        (λ l same. let within : at < length slots = omega (arith, zip_long, l) in
        other within (sym (ap (λ e. e.0) (zip_at at (0, origin) within)) ∙ same)))

    pub inserted_map : (body : Bounds) → contains_key (bodies_of (zip slots boxes)) slot ≡ false
        → zip (insert slots at slot) (insert boxes at body) ≡ insert (zip slots boxes) at (slot, body)
        → bodies_of (zip (insert slots at slot) (insert boxes at body)) ≡ insert_key (bodies_of (zip slots boxes)) slot body
    inserted_map body absent law =
        ap bodies_of (law ∙ insert_is_put (zip slots boxes) slot body at (absent_from (zip slots boxes) slot a.sorted absent) p.bound p.below p.above)
        ∙ from_sorted-put (zip slots boxes) slot body a.sorted

    pub inserted_are : (body : Bounds) → slot < SLOTS → meets space body ≡ true → contains_key (bodies_of (zip slots boxes)) slot ≡ false
        → zip (insert slots at slot) (insert boxes at body) ≡ insert (zip slots boxes) at (slot, body) → AreEntries (insert slots at slot)
        (insert boxes at body)
    inserted_are body small near absent law = record {
      same =
          omega (
            arith,
            length-append (take at slots) (slot ∷ drop at slots),
            length-append (take at boxes) (body ∷ drop at boxes),
            length-take at slots,
            length-take at boxes,
            length-drop at slots,
            length-drop at boxes,
            a.same,
          );
      sorted =
          subst (λ es. T (is_sorted nat_cmp es))
          (sym (law ∙ insert_is_put (zip slots boxes) slot body at (absent_from (zip slots boxes) slot a.sorted absent) p.bound p.below p.above))
          (sorted_put (zip slots boxes) slot body a.sorted);
      small =
          All-append (λ s. s < SLOTS) (take at slots) (slot ∷ drop at slots) (All-take (λ s. s < SLOTS) at slots a.small)
          (All-cons (λ s. s < SLOTS) slot (drop at slots) small (All-drop (λ s. s < SLOTS) at slots a.small));
      in_space =
          All-append (λ b. meets space b ≡ true) (take at boxes) (body ∷ drop at boxes) (All-take (λ b. meets space b ≡ true) at boxes a.in_space)
          (All-cons (λ b. meets space b ≡ true) body (drop at boxes) near (All-drop (λ b. meets space b ≡ true) at boxes a.in_space));
    }

    module _ (present : contains_key (bodies_of (zip slots boxes)) slot ≡ true) where
      there : is_some (find nat_cmp slot (zip slots boxes)) ≡ true
      there = present_from (zip slots boxes) slot a.sorted present

      pub at_within : at < length slots
      at_within = omega (arith, present_within (zip slots boxes) slot at there p.bound p.below, zip_long)

      own_slot : get_or slots at 0 ≡ slot
      own_slot = ap (λ e. e.0) (sym (zip_at at (0, origin) at_within)) ∙ key_there (zip slots boxes) slot at (0, origin) a.sorted there p.bound p.below p.above

      set_put : (body : Bounds) → zip slots (set boxes at body) ≡ set (zip slots boxes) at (get_or slots at 0, body)
          → zip slots (set boxes at body) ≡ put nat_cmp slot body (zip slots boxes)
      set_put body law =
          law ∙ ap (λ s. set (zip slots boxes) at (s, body)) own_slot ∙ set_is_put (zip slots boxes) slot body at a.sorted there p.bound p.below p.above

      pub set_map : (body : Bounds) → zip slots (set boxes at body) ≡ set (zip slots boxes) at (get_or slots at 0, body)
          → bodies_of (zip slots (set boxes at body)) ≡ insert_key (bodies_of (zip slots boxes)) slot body
      set_map body law = ap bodies_of (set_put body law) ∙ from_sorted-put (zip slots boxes) slot body a.sorted

      pub set_are : (body : Bounds) → meets space body ≡ true → zip slots (set boxes at body) ≡ set (zip slots boxes) at (get_or slots at 0, body)
          → AreEntries slots (set boxes at body)
      set_are body near law = record {
        same = omega (arith, length-set boxes at body, a.same);
        sorted = subst (λ es. T (is_sorted nat_cmp es)) (sym (set_put body law)) (sorted_put (zip slots boxes) slot body a.sorted);
        small = a.small;
        in_space = All-set (λ b. meets space b ≡ true) boxes at body near a.in_space;
      }

      pub removed_map : zip (remove slots at) (remove boxes at) ≡ remove (zip slots boxes) at
          → bodies_of (zip (remove slots at) (remove boxes at)) ≡ remove_key (bodies_of (zip slots boxes)) slot
      removed_map law = ap bodies_of law ∙ from_sorted-remove (zip slots boxes) slot at a.sorted there p.bound p.below p.above

      pub removed_are : zip (remove slots at) (remove boxes at) ≡ remove (zip slots boxes) at → AreEntries (remove slots at) (remove boxes at)
      removed_are law = record {
        same =
            omega (
              arith,
              length-append (take at slots) (drop (suc at) slots),
              length-append (take at boxes) (drop (suc at) boxes),
              length-take at slots,
              length-take at boxes,
              length-drop (suc at) slots,
              length-drop (suc at) boxes,
              a.same,
            );
        sorted = subst (λ es. T (is_sorted nat_cmp es)) (sym law) (sorted_removed (zip slots boxes) slot at a.sorted there p.bound p.below p.above);
        small =
            All-append (λ s. s < SLOTS) (take at slots) (drop (suc at) slots) (All-take (λ s. s < SLOTS) at slots a.small)
            (All-drop (λ s. s < SLOTS) (suc at) slots a.small);
        in_space =
            All-append (λ b. meets space b ≡ true) (take at boxes) (drop (suc at) boxes) (All-take (λ b. meets space b ≡ true) at boxes a.in_space)
            (All-drop (λ b. meets space b ≡ true) (suc at) boxes a.in_space);
      }

  -- the places of the later boxes that meet one name its partners
  pub partners_named : (slot : ℕ) (body : Bounds) (from : ℕ)
      → map (λ k. get_or slots k 0) (places (meets body) from (drop from boxes)) ≡ map (λ e. e.0) (filter (λ e. meets body e.1) (drop from (zip slots boxes)))
      → pairs_at slot slots (places (meets body) from (drop from boxes)) ≡ partners slot body (drop from (zip slots boxes))
  partners_named slot body from law =
      let pair : ℕ → Pair = λ s. record { a = slot; b = s } in
      sym (map-map pair (λ k. get_or slots k 0) (places (meets body) from (drop from boxes)))
      ∙ ap (map pair) law
      ∙ map-map pair (λ e. e.0) (filter (λ e. meets body e.1) (drop from (zip slots boxes)))

  -- the entry at a place, and those behind it
  entry_step : (at s : ℕ) (body : Bounds) → at < length slots → s ≡ get_or slots at s → body ≡ get_or boxes at body
      → drop at (zip slots boxes) ≡ (s, body) ∷ drop (at + 1) (zip slots boxes)
  entry_step at s body l es eb =
      let here : get_or (zip slots boxes) at (s, body) ≡ (s, body) = zip_at at (s, body) l ∙ sym
      (ap (λ x. (x, body)) es ∙ ap (λ b. (get_or slots at s, b)) eb) in
      drop_more (zip slots boxes) at (s, body) (omega (arith, zip_long)) ∙ ap (λ e. e ∷ drop (at + 1) (zip slots boxes)) here

  -- the pairs from a place on
  pub near_step : (at s : ℕ) (body : Bounds) → at < length slots → s ≡ get_or slots at s → body ≡ get_or boxes at body
      → near_of (drop at (zip slots boxes)) ≡ partners s body (drop (at + 1) (zip slots boxes)) ++ near_of (drop (at + 1) (zip slots boxes))
  near_step at s body l es eb = ap near_of (entry_step at s body l es eb)

  -- the places of all boxes that pass a test name the slots that are found
  pub found_named : (test : Bounds → Bool) (old : List ℕ) (before : ℕ) → length old ≡ before
      → map (λ k. get_or slots k 0) (places test 0 boxes) ≡ map (λ e. e.0) (filter (λ e. test e.1) (zip slots boxes))
      → take before (old ++ places test 0 boxes) ++ map (λ k. get_or slots k 0) (drop before (old ++ places test 0 boxes))
      ≡ old ++ map (λ e. e.0) (filter (λ e. test e.1) (zip slots boxes))
  found_named test old before long law =
      ap₂ (λ xs ys. xs ++ map (λ k. get_or slots k 0) ys) (take_at old (places test 0 boxes) before long) (drop_at old (places test 0 boxes) before long)
      ∙ ap (λ xs. old ++ xs) law
