-- The slots that threads share are the touched ones, in whichever order, and what their pieces find renews the pairs.
use Rattle.std.proofs.Common.{◌≡◌, ℕ, suc, ◌+◌, ◌≤◌, Bool, true, false, cond, ◌&&◌, ◌||◌, ◌==◌, Option, None, Some, is_some, List, [], ◌∷◌, ◌++◌}
use Rattle.std.proofs.Common.{length, map, get_or, refl, sym, ap, ◌∙◌, subst, arith}
use Rattle.std.specs.Prelude.{IfSome}
use denote.Ref.{Bor}
use Rattle.std.specs.List.{All, Contains, sum}
use Rattle.std.specs.Ordering.{nat_cmp}
use Rattle.std.specs.FinMap.{FinMap, contains_key}
use Rattle.std.proofs.lemmas.List.{map-append}
use Rattle.std.proofs.lemmas.List.Elements.{All-cons, All-nil}
use Rattle.std.proofs.lemmas.List.Folds.{list_any-append}
use Rattle.std.proofs.lemmas.List.Sums.{sum_by-cons, sum_by-append}
use Rattle.fixed_box.specs.declared.TheConstants.{SLOTS}
use Rattle.fixed_box.specs.Bounds.{Bounds}
use Rattle.slot_lists.specs.SlotMap.{map_of}
use Rattle.slot_lists.specs.SlotMapLaws.{get_map}
use Rattle.broad_index.specs.declared.pair.Pair.{Pair}
use Rattle.broad_index.specs.Members.{has_pair, same_pair, has_slot, is_near}
use Rattle.broad_index.specs.Searched.{AreReached}
use Rattle.broad_index.specs.Touched.{gathered_with, AreKept, AreMarked, Renewed}
use Rattle.work_pieces.specs.Each.{Each}
use Rattle.work_pieces.specs.Runs.{InRuns, put_together}
use Rattle.tree_nodes.specs.Tree.{Tree, Leaf, leaves, leaves_in, IsTreeIn}
use Rattle.tree_search.specs.declared.preorder.ListedNode.{ListedNode}
use Rattle.box_tree.specs.Boxes.{Boxes, visits_for, cost, marked_slots, shared_slots, sought, Finds}
use Rattle.tree_search.specs.Looked.{raised}
use Rattle.tree_search.specs.Exact.{entry_of, exact, exact_in}
use Rattle.tree_search.specs.Crossed.{touched_of, crossed, all_visits_in, Adds, AreOf}
use Rattle.box_tree.specs.Searches.{looked_for, searches, sought_from}
use Rattle.box_tree.specs.Ties.{HaveLeaves}
use Rattle.box_tree.proofs.LeafTies.{some_there}
use Rattle.box_tree.proofs.Searching.{ReachLaw, RenewingLaw, seen, exact_in_is, all_reached, searched_slots, marked_is, are_marked, same_costs}
use Rattle.box_tree.proofs.TouchedPairs.{exact_in_own, touched_own, touched_marked, renewed_of, own_boxed, crossed_boxed}
use Rattle.box_tree.proofs.TouchedSums.{touched_total}

abbrev pub TouchedLaw : Type 0
TouchedLaw = (m : FinMap nat_cmp Bounds) (rs : List (ℕ × List ℕ)) → AreReached m rs → (p : Pair) → has_pair (gathered_with rs) p
    ≡ (is_near m p && (has_slot (map (λ (r : ℕ × List ℕ). r.0) rs) p.a || has_slot (map (λ (r : ℕ × List ℕ). r.0) rs) p.b))

pub marked_few : (marks : List Bool) (xs : List Leaf) → length (marked_slots marks xs) ≤ length xs
marked_few marks [] = omega arith
marked_few marks (x ∷ xs) =
    let rest = marked_few marks xs in
    elim (get_or marks x.slot false) as (λ m. length (cond m (x.slot ∷ marked_slots marks xs) (marked_slots marks xs)) ≤ suc (length xs)) [
      | true ↦ omega arith
      | false ↦ omega arith
    ]

-- the nodes that are said to be listed are
pub list_there : (r : Option (Bor (List ListedNode))) (nodes : Bor (List ListedNode)) (listed : Bool) (held list : List ListedNode)
    → IfSome r (λ b. (listed ≡ true) × (b.now ≡ held)) → (listed ≡ true → held ≡ list) → r ≡ Some nodes → nodes.now ≡ list
list_there r nodes listed held list h is e =
    let there : (listed ≡ true) × (nodes.now ≡ held) = subst (λ o. IfSome o (λ b. (listed ≡ true) × (b.now ≡ held))) e h in
    there.1 ∙ is there.0

-- no more slots are marked than there are leaves
pub shared_few : (o : Option Tree) → IsTreeIn o → (marks : List Bool) → length (marked_slots marks (leaves_in o)) ≤ SLOTS
shared_few None tree marks = omega arith
shared_few (Some t) tree marks =
    let few : length (leaves t) ≤ SLOTS = tree.few in
    let less = marked_few marks (leaves t) in
    omega arith

module _ (bodies : List (Option Bounds)) (marks : List Bool) where
  abbrev AreThere : List Leaf → Type 0
  AreThere xs = (x : Leaf) → Contains xs x → is_some (get_or bodies x.slot None) ≡ true

  marked_entries : (xs : List Leaf) → AreThere xs → marked_slots marks xs ≡ map (λ (e : ℕ × Bounds). e.0) (touched_of marks (exact bodies xs))
  marked_entries [] there = refl
  marked_entries (x ∷ xs) there =
      let b = some_there (get_or bodies x.slot None) (there x (0, omega arith, refl)) in
      let rest = marked_entries xs (λ y c. there y (suc c.0, omega arith, c.2)) in
      let more : List (ℕ × Bounds) = touched_of marks (exact bodies xs) in
      elim (get_or marks x.slot false) as
      (λ m. cond m (x.slot ∷ marked_slots marks xs) (marked_slots marks xs) ≡ map (λ (e : ℕ × Bounds). e.0) (cond m ((x.slot, b.0) ∷ more) more)) [
        | true ↦ ap (λ l. x.slot ∷ l) rest
        | false ↦ rest
      ] ∙ sym (ap (λ p. map (λ (e : ℕ × Bounds). e.0) (touched_of marks (entry_of x.slot p ++ exact bodies xs))) b.1)

  leaves_present : (xs : List Leaf) → AreThere xs → All (λ slot. contains_key (map_of bodies) slot ≡ true) (marked_slots marks xs)
  leaves_present [] there = All-nil (λ slot. contains_key (map_of bodies) slot ≡ true)
  leaves_present (x ∷ xs) there =
      let here : contains_key (map_of bodies) x.slot ≡ true = ap is_some (get_map bodies x.slot) ∙ there x (0, omega arith, refl) in
      let rest = leaves_present xs (λ y c. there y (suc c.0, omega arith, c.2)) in
      elim (get_or marks x.slot false) as
      (λ m. All (λ slot. contains_key (map_of bodies) slot ≡ true) (cond m (x.slot ∷ marked_slots marks xs) (marked_slots marks xs))) [
        | true ↦ All-cons (λ slot. contains_key (map_of bodies) slot ≡ true) x.slot (marked_slots marks xs) here rest
        | false ↦ rest
      ]

module _ (o : Option Tree) (bodies : List (Option Bounds)) where
  -- what a descent for a slot looks at
  abbrev seeks : ℕ → ℕ
  seeks k = visits_for o (get_or bodies k None)

  entries_sum : (es : List (ℕ × Bounds)) → AreOf bodies es → sum (map seeks (map (λ (e : ℕ × Bounds). e.0) es)) ≡ all_visits_in o es
  entries_sum [] own = refl
  entries_sum (e ∷ es) own =
      sum_by-cons (λ (y : ℕ). y) (seeks e.0) (map seeks (map (λ (x : ℕ × Bounds). x.0) es))
      ∙ ap (λ n. n + sum (map seeks (map (λ (x : ℕ × Bounds). x.0) es))) (ap (visits_for o) own.0)
      ∙ ap (λ n. visits_for o (Some e.1) + n) (entries_sum es own.1)

module _ (o : Option Tree) (bodies fats : List (Option Bounds)) (s : HaveLeaves o bodies fats) (marks : List Bool) where
  leaves_there : AreThere bodies marks (leaves_in o)
  leaves_there x c = sym (s.fat.same x.slot) ∙ ap is_some (s.leafed.fat_is x c)

  abbrev entries : List (ℕ × Bounds)
  entries = touched_of marks (exact_in bodies o)

  pub along_is : marked_slots marks (leaves_in o) ≡ map (λ (e : ℕ × Bounds). e.0) entries
  along_is =
      marked_entries bodies marks (leaves_in o) leaves_there
      ∙ sym (ap (λ es. map (λ (e : ℕ × Bounds). e.0) (touched_of marks es)) (exact_in_is o bodies fats s o))

  -- the shared slots are the touched ones
  pub shared_marked : AreMarked (map_of bodies) marks (marked_slots marks (leaves_in o))
  shared_marked = subst (AreMarked (map_of bodies) marks) (sym along_is) (touched_marked o bodies fats s marks)

  pub shared_present : All (λ slot. contains_key (map_of bodies) slot ≡ true) (marked_slots marks (leaves_in o))
  shared_present = leaves_present bodies marks (leaves_in o) leaves_there

  -- and cost as much
  pub shared_sum : sum (map (seeks o bodies) (marked_slots marks (leaves_in o))) ≡ sum (map (seeks o bodies) (sought_from marks 0 bodies))
  shared_sum =
      ap (λ l. sum (map (seeks o bodies) l)) along_is
      ∙ entries_sum o bodies entries (touched_own bodies marks (exact_in bodies o) (exact_in_own bodies o))
      ∙ touched_total o bodies fats s marks

  -- a search of the touched slots renews the pairs, in whichever order they come
  pub renewed_run : ReachLaw → RenewingLaw → (slots : List ℕ) (before found : List Pair) → AreMarked (map_of bodies) marks slots → before ≡ []
      → Adds before found (gathered_with (searches bodies o slots)) → (old : List Pair) → AreKept (map_of bodies) marks old
      → Renewed (map_of bodies) marks old found
  renewed_run law renewing slots before found marked en adds old are =
      let r = renewed_of o bodies fats s marks law renewing slots marked old are in
      record {
        kept_is = r.kept_is;
        found_is = λ p. adds p ∙ ap (λ ps. has_pair ps p || has_pair (gathered_with (searches bodies o slots)) p) en ∙ r.found_is p;
      }

  -- the marked entries, in the order of the leaves
  abbrev slots_along : List ℕ
  slots_along = map (λ (e : ℕ × Bounds). e.0) entries

  entries_own : AreOf bodies entries
  entries_own = touched_own bodies marks (exact_in bodies o) (exact_in_own bodies o)

  -- so does a search of their entries
  pub renewed_along : ReachLaw → RenewingLaw → (touched : List (ℕ × Bounds)) (before found : List Pair) → touched ≡ entries → before ≡ []
      → Adds before found (crossed (exact_in bodies o) touched) → (old : List Pair) → AreKept (map_of bodies) marks old
      → Renewed (map_of bodies) marks old found
  renewed_along law renewing touched before found et en adds =
      renewed_run law renewing slots_along before found (touched_marked o bodies fats s marks) en
      (subst (Adds before found)
      (ap (crossed (exact_in bodies o)) (et ∙ sym (own_boxed bodies entries entries_own)) ∙ crossed_boxed bodies o slots_along) adds)

  pub along_own : (touched : List (ℕ × Bounds)) → touched ≡ entries → AreOf bodies touched
  along_own touched et = subst (AreOf bodies) (sym et) entries_own

  -- few are sought slot by slot
  pub sought_marked : AreMarked (map_of bodies) marks (sought_from marks 0 bodies)
  sought_marked = subst (AreMarked (map_of bodies) marks) (sym (marked_is marks bodies)) (are_marked marks (map_of bodies))

  module _ (v : Boxes) (looked : ℕ) (view : seen o bodies fats marks looked ≡ v) where
    pub shared_viewed : marked_slots marks (leaves_in o) ≡ shared_slots v
    shared_viewed = ap shared_slots view

    pub present_viewed : All (λ slot. contains_key v.bodies slot ≡ true) (shared_slots v)
    present_viewed = subst (λ (b : Boxes). All (λ slot. contains_key b.bodies slot ≡ true) (shared_slots b)) view shared_present

    pub cost_shared : sum (map (cost v) (shared_slots v)) ≡ sum (map (cost v) (sought v))
    cost_shared =
        ap (λ (b : Boxes). sum (map (cost b) (shared_slots b))) (sym view)
        ∙ sym (ap sum (same_costs o bodies (marked_slots marks (leaves_in o))))
        ∙ shared_sum
        ∙ ap sum (same_costs o bodies (sought_from marks 0 bodies))
        ∙ ap (λ l. sum (map (cost (seen o bodies fats marks looked)) l)) (marked_is marks bodies)
        ∙ ap (λ (b : Boxes). sum (map (cost b) (sought b))) view

    -- what a search of some slots finds
    pub finds_viewed : ReachLaw → TouchedLaw → (slots : List ℕ) (before found : List Pair) (n : ℕ) → before ≡ []
        → Adds before found (gathered_with (searches bodies o slots)) → n ≡ looked_for o bodies slots 0
        → Finds v slots found n
    finds_viewed law touched slots before found n en adds e = record {
      pairs_are = λ p. adds p
          ∙ ap (λ ps. has_pair ps p || has_pair (gathered_with (searches bodies o slots)) p) en
          ∙ touched (map_of bodies) (searches bodies o slots) (all_reached o bodies fats s law slots) p
          ∙ ap (λ l. is_near (map_of bodies) p && (has_slot l p.a || has_slot l p.b)) (searched_slots bodies o slots)
          ∙ ap (λ (b : Boxes). is_near b.bodies p && (has_slot slots p.a || has_slot slots p.b)) view;
      number_is = e
          ∙ ap (λ l. raised 0 (sum l)) (same_costs o bodies slots)
          ∙ ap (λ (b : Boxes). raised 0 (sum (map (cost b) slots))) view;
    }

-- what was found in another order is as good
pub finds_settled : (v : Boxes) (slots : List ℕ) (found settled : List Pair) (n : ℕ) → ((p : Pair) → has_pair settled p ≡ has_pair found p)
    → Finds v slots found n → Finds v slots settled n
finds_settled v slots found settled n same f = record { pairs_are = λ p. same p ∙ f.pairs_are p; number_is = f.number_is }

no_near : (n : Bool) → false ≡ (n && false)
no_near true = refl
no_near false = refl

both_near : (n a b c d : Bool) → ((n && (a || b)) || (n && (c || d))) ≡ (n && ((a || c) || (b || d)))
both_near false a b c d = refl
both_near true true b c d = refl
both_near true false true true d = refl
both_near true false true false d = refl
both_near true false false c d = refl

raised_again : (a c s : ℕ) → raised (raised a c) s ≡ raised a (c + s)
raised_again a c s = grind (arith)

raised_zero : (a m t : ℕ) → raised a (raised 0 m + t) ≡ raised a (m + t)
raised_zero a m t = grind (arith)

module _ {Y : Type 0} (pairs : Y → List Pair) (number : Y → ℕ) (v : Boxes) where
  pieces_found : (runs : List (List ℕ)) (ys : List Y) → Each (λ run y. Finds v run (pairs y) (number y)) runs ys → (p : Pair)
      → has_pair (put_together (map pairs ys)) p ≡ (is_near v.bodies p && (has_slot (put_together runs) p.a || has_slot (put_together runs) p.b))
  pieces_found [] [] each p = no_near (is_near v.bodies p)
  pieces_found [] (y ∷ ys) each p = absurd each
  pieces_found (run ∷ runs) [] each p = absurd each
  pieces_found (run ∷ runs) (y ∷ ys) each p =
      let n = is_near v.bodies p in
      let rest = put_together runs in
      list_any-append (same_pair p) (pairs y) (put_together (map pairs ys))
      ∙ ap (λ b. b || has_pair (put_together (map pairs ys)) p) (each.0.pairs_are p)
      ∙ ap (λ b. (n && (has_slot run p.a || has_slot run p.b)) || b) (pieces_found runs ys each.1 p)
      ∙ both_near n (has_slot run p.a) (has_slot run p.b) (has_slot rest p.a) (has_slot rest p.b)
      ∙ ap (λ b. n && (b || (has_slot run p.b || has_slot rest p.b))) (sym (list_any-append (λ x. p.a == x) run rest))
      ∙ ap (λ b. n && (has_slot (run ++ rest) p.a || b)) (sym (list_any-append (λ x. p.b == x) run rest))

  pieces_cost : (runs : List (List ℕ)) (ys : List Y) → Each (λ run y. Finds v run (pairs y) (number y)) runs ys → (a : ℕ)
      → raised a (sum (map number ys)) ≡ raised a (sum (map (cost v) (put_together runs)))
  pieces_cost [] [] each a = refl
  pieces_cost [] (y ∷ ys) each a = absurd each
  pieces_cost (run ∷ runs) [] each a = absurd each
  pieces_cost (run ∷ runs) (y ∷ ys) each a =
      let here = sum (map (cost v) run) in
      let rest = sum (map (cost v) (put_together runs)) in
      ap (raised a) (sum_by-cons (λ (k : ℕ). k) (number y) (map number ys))
      ∙ sym (raised_again a (number y) (sum (map number ys)))
      ∙ pieces_cost runs ys each.1 (raised a (number y))
      ∙ raised_again a (number y) rest
      ∙ ap (λ k. raised a (k + rest)) each.0.number_is
      ∙ raised_zero a here rest
      ∙ ap (raised a) (sym (ap sum (map-append (cost v) run (put_together runs))
      ∙ sum_by-append (λ (k : ℕ). k) (map (cost v) run) (map (cost v) (put_together runs))))

module _ {Y : Type 0} (pairs : Y → List Pair) (number : Y → ℕ) (o : Option Tree) (bodies fats : List (Option Bounds))
    (s : HaveLeaves o bodies fats) (marks : List Bool) (v : Boxes) (looked : ℕ) (view : seen o bodies fats marks looked ≡ v) where
  -- what the pieces of the shared slots find renews the pairs
  pub pieces_renewed : (kept : List Pair) → AreKept (map_of bodies) marks kept → ReachLaw → RenewingLaw → TouchedLaw → (ys : List Y)
      → InRuns (λ run y. Finds v run (pairs y) (number y)) (shared_slots v) ys
      → (found : List Pair) → ((p : Pair) → has_pair found p ≡ has_pair (put_together (map pairs ys)) p) → Renewed (map_of bodies) marks kept found
  pieces_renewed kept are law renewing touched ys runs found same =
      let slots = marked_slots marks (leaves_in o) in
      let m = map_of bodies in
      let r = renewed_of o bodies fats s marks law renewing slots (shared_marked o bodies fats s marks) kept are in
      record {
        kept_is = r.kept_is;
        found_is = λ p. same p
            ∙ pieces_found pairs number v runs.runs ys runs.each p
            ∙ ap (λ l. is_near v.bodies p && (has_slot l p.a || has_slot l p.b))
            (runs.whole ∙ sym (shared_viewed o bodies fats s marks v looked view) ∙ sym (searched_slots bodies o slots))
            ∙ sym (ap (λ (b : Boxes). is_near b.bodies p && (has_slot (map (λ (r : ℕ × List ℕ). r.0) (searches bodies o slots)) p.a
            || has_slot (map (λ (r : ℕ × List ℕ). r.0) (searches bodies o slots)) p.b)) view)
            ∙ sym (touched m (searches bodies o slots) (all_reached o bodies fats s law slots) p)
            ∙ r.found_is p;
      }

  -- and they cost what all searches cost
  pub pieces_counted : (ys : List Y) → InRuns (λ run y. Finds v run (pairs y) (number y)) (shared_slots v) ys → (n : ℕ)
      → n ≡ raised looked (sum (map number ys))
      → n ≡ raised v.looked (sum (map (cost v) (sought v)))
  pieces_counted ys runs n e =
      e ∙ pieces_cost pairs number v runs.runs ys runs.each looked
      ∙ ap (λ l. raised looked (sum (map (cost v) l))) runs.whole
      ∙ ap (raised looked) (cost_shared o bodies fats s marks v looked view)
      ∙ ap (λ (b : Boxes). raised b.looked (sum (map (cost v) (sought v)))) view
