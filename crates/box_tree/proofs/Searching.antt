-- What descents find is what the map has, and which slots are sought.
use Rattle.std.proofs.Common.{◌≡◌, ℕ, zero, suc, ◌<◌, Bool, true, false, not, cond, ◌&&◌, ◌||◌, ◌==◌, Option, None, Some, is_some, List, [], ◌∷◌, ◌++◌}
use Rattle.std.proofs.Common.{length, map, filter, get_or, refl, sym, ap, ◌∙◌, subst, arith, inl, inr, ⊎_elim}
use Rattle.std.proofs.Common.{drop}
use Rattle.std.proofs.Math.Seq.{drop-append_seam}
use Rattle.std.specs.List.{Contains, list_any, sum}
use Rattle.std.specs.Ordering.{nat_cmp, eq_by_cmp}
use Rattle.std.specs.FinMap.{FinMap, contains_key, get, entries, keys, contains_key-keys}
use Rattle.std.proofs.lemmas.Bool.{cases_eq, cases_Bool, eq-eqb}
use Rattle.std.proofs.lemmas.List.Elements.{Contains-append_left, Contains-append_right, Contains-append_cases}
use Rattle.fixed_box.specs.Bounds.{Bounds, meets}
use Rattle.broad_index.specs.Reach.{reach_of}
use Rattle.broad_index.specs.declared.pair.Pair.{Pair}
use Rattle.broad_index.specs.declared.query.Query.{Query}
use Rattle.broad_index.specs.declared.query.Query.TheVariants.{Region}
use Rattle.broad_index.specs.Found.{found_of}
use Rattle.broad_index.specs.Held.{Holds}
use Rattle.broad_index.specs.Members.{has_slot, both_meet, is_found, is_reached}
use Rattle.broad_index.specs.Near.{near}
use Rattle.broad_index.specs.Searched.{AreReached}
use Rattle.broad_index.specs.Touched.{gathered_with, AreKept, AreMarked, Renewed}
use Rattle.tree_nodes.specs.Tree.{Tree, Leaf, tip, fork, leaves, leaves_in}
use Rattle.box_tree.specs.Boxes.{Boxes, visits_for, cost, sought, searched, untouched}
use Rattle.tree_search.specs.Looked.{raised}
use Rattle.tree_search.specs.Exact.{entry_of, exact, exact_in, IsLeafInside, IsInside, IsInsideIn}
use Rattle.box_tree.specs.Searches.{looked_for, sought_from, reached_by, reached_in, searches}
use Rattle.slot_lists.specs.SlotMap.{map_of}
use Rattle.box_tree.specs.Ties.{HaveLeaves}
use Rattle.slot_lists.specs.SlotMapLaws.{get_map, entries_of_map, tie_same, tie_other}
use Rattle.box_tree.proofs.LeafTies.{some_there}
use Rattle.box_tree.proofs.Fats.{within}
use Rattle.fixed_box.proofs.Numbers.{eqb_other}

abbrev pub ReachLaw : Type 0
ReachLaw = (m : FinMap nat_cmp Bounds) (es : List (ℕ × Bounds)) → Holds m es → (slot : ℕ) (body : Bounds) → get m slot ≡ Some body
    → (k : ℕ) → has_slot (reach_of slot (Some body) es) k ≡ is_reached m slot k

module _ (o : Option Tree) (bodies fats : List (Option Bounds)) (s : HaveLeaves o bodies fats) where
  leaf_inside : (x : Leaf) → Contains (leaves_in o) x → IsLeafInside bodies x.slot x.fat
  leaf_inside x c =
      let e = s.leafed.fat_is x c in
      record {
        small = within bodies x.slot (sym (s.fat.same x.slot) ∙ ap is_some e);
        inside = λ b h. s.fat.inside x.slot x.fat b e h;
      }

  tree_inside : (t : Tree) → ((x : Leaf) → Contains (leaves t) x → IsLeafInside bodies x.slot x.fat) → IsInside bodies t
  tree_inside (tip n sl f) h = h (record { node = n; slot = sl; fat = f }) (0, omega arith, refl)
  tree_inside (fork n hu k l r) h = (
    tree_inside l (λ x c. h x (Contains-append_left (leaves l) (leaves r) x c)),
    tree_inside r (λ x c. h x (Contains-append_right (leaves l) (leaves r) x c)),
  )

  -- the fat boxes of the leaves enclose their boxes
  pub all_inside : IsInsideIn bodies o
  all_inside = at o leaf_inside
    where
      at : (u : Option Tree) → ((x : Leaf) → Contains (leaves_in u) x → IsLeafInside bodies x.slot x.fat) → IsInsideIn bodies u
      at None h = tt
      at (Some t) h = tree_inside t h

  one_entry : (y z : ℕ × Bounds) → Contains (z ∷ []) y → y ≡ z
  one_entry y z (zero, lt, e) = sym e
  one_entry y z (suc k, lt, e) = absurd (omega arith)

  entry_there : (sl : ℕ) (p : Option Bounds) (k : ℕ) (b : Bounds) → get_or bodies sl None ≡ p → Contains (entry_of sl p) (k, b) → get_or bodies k None ≡ Some b
  entry_there sl None k b e c = let lt : c.0 < 0 = c.1 in absurd (omega arith)
  entry_there sl (Some d) k b e c =
      let same = one_entry (k, b) (sl, d) c in
      subst (λ (y : ℕ × Bounds). get_or bodies y.0 None ≡ Some y.1) (sym same) e

  exact_there : (xs : List Leaf) (k : ℕ) (b : Bounds) → Contains (exact bodies xs) (k, b) → get_or bodies k None ≡ Some b
  exact_there [] k b c = let lt : c.0 < 0 = c.1 in absurd (omega arith)
  exact_there (x ∷ xs) k b c =
      ⊎_elim (λ h. entry_there x.slot (get_or bodies x.slot None) k b refl h) (λ h. exact_there xs k b h)
      (Contains-append_cases (entry_of x.slot (get_or bodies x.slot None)) (exact bodies xs) (k, b) c)

  there_exact : (xs : List Leaf) (x : Leaf) (b : Bounds) (i : ℕ) → i < length xs → get_or xs i x ≡ x → get_or bodies x.slot None ≡ Some b
      → Contains (exact bodies xs) (x.slot, b)
  there_exact [] x b i lt e h = absurd (omega arith)
  there_exact (y ∷ ys) x b zero lt e h =
      let own : Contains (entry_of x.slot (Some b)) (x.slot, b) = (0, omega arith, refl) in
      let at_x : Contains (entry_of x.slot (get_or bodies x.slot None)) (x.slot, b) =
      subst (λ p. Contains (entry_of x.slot p) (x.slot, b)) (sym h) own in
      let at_y : Contains (entry_of y.slot (get_or bodies y.slot None)) (x.slot, b) =
      subst (λ (z : Leaf). Contains (entry_of z.slot (get_or bodies z.slot None)) (x.slot, b)) (sym e) at_x in
      Contains-append_left (entry_of y.slot (get_or bodies y.slot None)) (exact bodies ys) (x.slot, b) at_y
  there_exact (y ∷ ys) x b (suc i) lt e h =
      Contains-append_right (entry_of y.slot (get_or bodies y.slot None)) (exact bodies ys) (x.slot, b) (there_exact ys x b i (omega arith) e h)

  pub exact_in_is : (u : Option Tree) → exact_in bodies u ≡ exact bodies (leaves_in u)
  exact_in_is None = refl
  exact_in_is (Some t) = refl

  -- the exact boxes of the leaves are those of the map
  pub exact_held : Holds (map_of bodies) (exact_in bodies o)
  exact_held = subst (Holds (map_of bodies)) (sym (exact_in_is o)) (record {
    present = λ k b c. get_map bodies k ∙ exact_there (leaves_in o) k b c;
    whole = λ k b e.
        let h : get_or bodies k None ≡ Some b = sym (get_map bodies k) ∙ e in
        let f = some_there (get_or fats k None) (s.fat.same k ∙ ap is_some h) in
        let c = s.leafed.whole k f.0 f.1 in
        there_exact (leaves_in o) (record { node = c.0; slot = k; fat = f.0 }) b (c.1).0 (c.1).1 (c.1).2 h;
  })

  others_of : (slot : ℕ) (body : Bounds) (es : List (ℕ × Bounds))
      → filter (λ k. not (k == slot)) (found_of es (Region body)) ≡ reach_of slot (Some body) es
  others_of slot body [] = refl
  others_of slot body (e ∷ es) =
      let rest = others_of slot body es in
      let more : List (ℕ × Bounds) = filter (λ (x : ℕ × Bounds). meets body x.1) es in
      let others : List (ℕ × Bounds) = filter (λ (x : ℕ × Bounds). not (x.0 == slot) && meets body x.1) es in
      elim (meets body e.1) as
      (λ m. filter (λ k. not (k == slot)) (map (λ (x : ℕ × Bounds). x.0) (cond m (e ∷ more) more))
      ≡ map (λ (x : ℕ × Bounds). x.0) (cond (not (e.0 == slot) && m) (e ∷ others) others)) [
        | true ↦ elim (e.0 == slot) as
            (λ b. cond (not b) (e.0 ∷ filter (λ k. not (k == slot)) (map (λ (x : ℕ × Bounds). x.0) more))
            (filter (λ k. not (k == slot)) (map (λ (x : ℕ × Bounds). x.0) more))
            ≡ map (λ (x : ℕ × Bounds). x.0) (cond (not b && true) (e ∷ others) others)) [ true ↦ rest | false ↦ ap (λ l. e.0 ∷ l) rest ]
        | false ↦ elim (e.0 == slot) as
            (λ b. filter (λ k. not (k == slot)) (map (λ (x : ℕ × Bounds). x.0) more)
            ≡ map (λ (x : ℕ × Bounds). x.0) (cond (not b && false) (e ∷ others) others)) [ true ↦ rest | false ↦ rest ]
      ]

  -- what is reached of a slot
  pub reached : ReachLaw → (slot k : ℕ) → has_slot (reached_in bodies o slot) k ≡ is_reached (map_of bodies) slot k
  reached law slot k = at (get_or bodies slot None) refl
    where
      and_no : (b : Bool) → (b && false) ≡ false
      and_no true = refl
      and_no false = refl

      at : (p : Option Bounds) → get_or bodies slot None ≡ p → has_slot (reached_by bodies o slot p) k ≡ is_reached (map_of bodies) slot k
      at None e =
          sym (ap (λ b. not (k == slot) && both_meet b (get (map_of bodies) k)) (get_map bodies slot ∙ e) ∙ and_no (not (k == slot)))
      at (Some body) e =
          ap (λ ks. has_slot ks k) (others_of slot body (exact_in bodies o))
          ∙ law (map_of bodies) (exact_in bodies o) exact_held slot body (get_map bodies slot ∙ e) k

  -- and of each of some slots
  pub all_reached : ReachLaw → (slots : List ℕ) → AreReached (map_of bodies) (searches bodies o slots)
  all_reached law slots = λ i d lt. at slots i d lt
    where
      at : (slots : List ℕ) (i : ℕ) (d : ℕ × List ℕ) → i < length (searches bodies o slots)
          → (k : ℕ) → has_slot (get_or (searches bodies o slots) i d).1 k ≡ is_reached (map_of bodies) (get_or (searches bodies o slots) i d).0 k
      at [] i d lt = absurd (omega arith)
      at (x ∷ xs) zero d lt = λ k. reached law x k
      at (x ∷ xs) (suc i) d lt = at xs i d (omega arith)

-- the slots that were searched
pub searched_slots : (bodies : List (Option Bounds)) (o : Option Tree) (slots : List ℕ) → map (λ (r : ℕ × List ℕ). r.0) (searches bodies o slots) ≡ slots
searched_slots bodies o [] = refl
searched_slots bodies o (x ∷ xs) = ap (λ ys. x ∷ ys) (searched_slots bodies o xs)

pub has_marked : (mark : ℕ → Bool) (es : List (ℕ × Bounds)) (k : ℕ)
    → has_slot (map (λ (e : ℕ × Bounds). e.0) (filter (λ (e : ℕ × Bounds). mark e.0) es)) k ≡ (mark k && has_slot (map (λ (e : ℕ × Bounds). e.0) es) k)
has_marked mark [] k = and_no (mark k)
  where
    and_no : (b : Bool) → false ≡ (b && false)
    and_no true = refl
    and_no false = refl
has_marked mark (e ∷ es) k =
    let rest = has_marked mark es k in
    let more : List (ℕ × Bounds) = filter (λ (e : ℕ × Bounds). mark e.0) es in
    let h : Bool = has_slot (map (λ (e : ℕ × Bounds). e.0) es) k in
    ⊎_elim
    (λ same.
    let yes : (k == e.0) ≡ true = eq-eqb k e.0 same in
    elim (cases_Bool (mark k)) as
    (λ _. has_slot (map (λ (e : ℕ × Bounds). e.0) (cond (mark e.0) (e ∷ more) more)) k ≡ (mark k && ((k == e.0) || h))) [
      | inl t ↦
          let at : mark e.0 ≡ true = subst (λ j. mark j ≡ true) same t in
          ap (λ b. has_slot (map (λ (e : ℕ × Bounds). e.0) (cond b (e ∷ more) more)) k) at
          ∙ ap (λ b. b || has_slot (map (λ (e : ℕ × Bounds). e.0) more) k) yes
          ∙ sym (ap (λ b. b && ((k == e.0) || h)) t ∙ ap (λ b. b || h) yes)
      | inr f ↦
          let at : mark e.0 ≡ false = subst (λ j. mark j ≡ false) same f in
          ap (λ b. has_slot (map (λ (e : ℕ × Bounds). e.0) (cond b (e ∷ more) more)) k) at
          ∙ rest ∙ ap (λ b. b && h) f
          ∙ sym (ap (λ b. b && ((k == e.0) || h)) f)
    ])
    (λ ne.
    let no : (k == e.0) ≡ false = eqb_other k e.0 ne in
    elim (mark e.0) as
    (λ b. has_slot (map (λ (e : ℕ × Bounds). e.0) (cond b (e ∷ more) more)) k ≡ (mark k && ((k == e.0) || h))) [
      | true ↦ ap (λ b. b || has_slot (map (λ (e : ℕ × Bounds). e.0) more) k) no ∙ rest ∙ sym (ap (λ b. mark k && (b || h)) no)
      | false ↦ rest ∙ sym (ap (λ b. mark k && (b || h)) no)
    ])
    (cases_eq k e.0)

tied : (k : ℕ) (xs : List ℕ) → list_any (eq_by_cmp nat_cmp k) xs ≡ list_any (λ x. k == x) xs
tied k [] = refl
tied k (x ∷ xs) =
    let first : eq_by_cmp nat_cmp k x ≡ (k == x) =
    ⊎_elim (λ s. tie_same k x s ∙ sym (eq-eqb k x s)) (λ ne. tie_other k x ne ∙ sym (eqb_other k x ne)) (cases_eq k x) in
    ap (λ b. b || list_any (eq_by_cmp nat_cmp k) xs) first ∙ ap (λ b. (k == x) || b) (tied k xs)

has_keys : (m : FinMap nat_cmp Bounds) (k : ℕ) → has_slot (map (λ (e : ℕ × Bounds). e.0) (entries m)) k ≡ contains_key m k
has_keys m k = sym (contains_key-keys m k ∙ tied k (keys m))

-- the touched slots that are present, of a map
abbrev pub marked_of : List Bool → FinMap nat_cmp Bounds → List ℕ
marked_of marks m = map (λ (e : ℕ × Bounds). e.0) (filter (λ (e : ℕ × Bounds). get_or marks e.0 false) (entries m))

pub marked_is : (marks : List Bool) (bodies : List (Option Bounds)) → sought_from marks 0 bodies ≡ marked_of marks (map_of bodies)
marked_is marks bodies =
    ap (λ (es : List (ℕ × Bounds)). map (λ (e : ℕ × Bounds). e.0) (filter (λ (e : ℕ × Bounds). get_or marks e.0 false) es)) (sym (entries_of_map bodies))

pub are_marked : (marks : List Bool) (m : FinMap nat_cmp Bounds) → AreMarked m marks (marked_of marks m)
are_marked marks m k h =
    sym (has_marked (λ j. get_or marks j false) (entries m) k ∙ ap (λ b. get_or marks k false && b) (has_keys m k ∙ h) ∙ and_yes (get_or marks k false))
  where
    and_yes : (b : Bool) → (b && true) ≡ b
    and_yes true = refl
    and_yes false = refl

pub same_costs : (o : Option Tree) (bodies : List (Option Bounds)) (slots : List ℕ)
    → map (λ k. visits_for o (get_or bodies k None)) slots ≡ map (λ k. visits_for o (get (map_of bodies) k)) slots
same_costs o bodies [] = refl
same_costs o bodies (x ∷ xs) =
    ap (λ p. visits_for o p ∷ map (λ k. visits_for o (get_or bodies k None)) xs) (sym (get_map bodies x))
    ∙ ap (λ l. visits_for o (get (map_of bodies) x) ∷ l) (same_costs o bodies xs)

abbrev pub seen : Option Tree → List (Option Bounds) → List (Option Bounds) → List Bool → ℕ → Boxes
seen o bodies fats marks looked = record { bodies = map_of bodies; fats = map_of fats; tree = o; touched = marks; looked = looked }

-- what a call of `pairs` leaves
pub same_searched : (o : Option Tree) (bodies fats : List (Option Bounds)) (marks touched : List Bool) (looked n : ℕ) (v : Boxes)
    → seen o bodies fats marks looked ≡ v
    → touched ≡ untouched → n ≡ raised v.looked (sum (map (cost v) (sought v)))
    → seen o bodies fats touched n ≡ searched v
same_searched o bodies fats marks touched looked n v view et en =
    ap (λ x. seen o bodies fats x n) et ∙ ap (λ x. seen o bodies fats untouched x) en
    ∙ ap (λ (b : Boxes). record {
      bodies = b.bodies;
      fats = b.fats;
      tree = b.tree;
      touched = untouched;
      looked = raised v.looked (sum (map (cost v) (sought v)));
    }) view

pub costs_viewed : (o : Option Tree) (bodies fats : List (Option Bounds)) (marks : List Bool) (looked n : ℕ) (v : Boxes) → seen o bodies fats marks looked ≡ v
    → n ≡ looked_for o bodies (sought_from marks 0 bodies) looked
    → n ≡ raised v.looked (sum (map (cost v) (sought v)))
costs_viewed o bodies fats marks looked n v view e =
    e ∙ ap (λ l. raised looked (sum l))
    (ap (map (λ k. visits_for o (get_or bodies k None))) (marked_is marks bodies) ∙ same_costs o bodies (marked_of marks (map_of bodies)))
    ∙ ap (λ (b : Boxes). raised b.looked (sum (map (cost b) (sought b)))) view

abbrev pub FoundLaw : Type 0
FoundLaw = (m : FinMap nat_cmp Bounds) (es : List (ℕ × Bounds)) → Holds m es → (query : Query) (k : ℕ) → has_slot (found_of es query) k ≡ is_found m query k

abbrev pub RenewingLaw : Type 0
RenewingLaw = (m : FinMap nat_cmp Bounds) (marks : List Bool) (kept : List Pair) (rs : List (ℕ × List ℕ)) → AreReached m rs
    → AreMarked m marks (map (λ (r : ℕ × List ℕ). r.0) rs) → AreKept m marks kept → Renewed m marks kept (gathered_with rs)

module _ (o : Option Tree) (bodies fats : List (Option Bounds)) (s : HaveLeaves o bodies fats) (marks : List Bool) (v : Boxes) (looked : ℕ)
    (view : seen o bodies fats marks looked ≡ v) where
  -- what a descent finds is what the map has
  pub found_viewed : FoundLaw → (q : Query) (before found : List ℕ) (from : ℕ) → from ≡ length before → found ≡ before ++ found_of (exact_in bodies o) q
      → (k : ℕ) → has_slot (drop from found) k ≡ is_found v.bodies q k
  found_viewed law q before found from at e k =
      ap (λ ks. has_slot ks k) (ap (λ n. drop n found) at ∙ ap (drop (length before)) e ∙ drop-append_seam before (found_of (exact_in bodies o) q))
      ∙ law (map_of bodies) (exact_in bodies o) (exact_held o bodies fats s) q k
      ∙ ap (λ (b : Boxes). is_found b.bodies q k) view

  pub reached_viewed : ReachLaw → (slot : ℕ) (found : List ℕ) → found ≡ reached_in bodies o slot → (k : ℕ) → has_slot found k ≡ is_reached v.bodies slot k
  reached_viewed law slot found e k =
      ap (λ ks. has_slot ks k) e
      ∙ reached o bodies fats s law slot k
      ∙ ap (λ (b : Boxes). is_reached b.bodies slot k) view

  pub cost_viewed : (slot n : ℕ) → n ≡ visits_for o (get_or bodies slot None) → n ≡ cost v slot
  cost_viewed slot n e = e ∙ ap (visits_for o) (sym (get_map bodies slot)) ∙ ap (λ (b : Boxes). cost b slot) view

-- what is appended is what the map has
pub near_viewed : (o : Option Tree) (bodies fats : List (Option Bounds)) (marks : List Bool) (v : Boxes) (looked : ℕ) → seen o bodies fats marks looked ≡ v
    → (old new : List Pair) → new ≡ old ++ near (map_of bodies) → new ≡ old ++ near v.bodies
near_viewed o bodies fats marks v looked view old new e = e ∙ ap (λ (b : Boxes). old ++ near b.bodies) view
