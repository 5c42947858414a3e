-- How leaves stay tied to slots while one of them comes, goes or has another box.
use Rattle.std.proofs.Common.{◌≡◌, ◌≢◌, ℕ, zero, suc, ◌<◌, ◌≤◌, true, false, cond, eqb, Option, None, Some, is_some, List, [], ◌∷◌}
use Rattle.std.proofs.Common.{length, map, get_or, set, refl, sym, ap, ◌∙◌, subst, arith, inl, inr, ⊎_elim, ◌⊎◌}
use Rattle.std.specs.List.{All, Contains}
use Rattle.std.specs.List.Sorted.{IsPermutation}
use Rattle.std.proofs.lemmas.Bool.Decides.{nat_tests}
use Rattle.std.proofs.lemmas.List.{get_or-set_same, get_or-set_other, get_or_read, length-set}
use Rattle.std.proofs.lemmas.List.Elements.{All-weaker, All-contains_itself, Contains-append_right, Contains-append_cases}
use Rattle.std.proofs.lemmas.List.Sorted.{Contains-permutation, IsPermutation-sym}
use Rattle.std.proofs.lemmas.List.Sums.{count_by-le-length}
use Rattle.fixed_box.specs.declared.TheConstants.{SLOTS}
use Rattle.fixed_box.specs.Bounds.{Bounds}
use Rattle.tree_nodes.specs.Shown.{shown_as}
use Rattle.tree_nodes.specs.declared.node.Role.{Role}
use Rattle.tree_nodes.specs.declared.node.Role.TheVariants.{Leaf as LeafRole, Inner as InnerRole}
use Rattle.tree_nodes.specs.declared.node_view.NodeView.TheVariants.{Leaf as LeafNode}
use Rattle.tree_nodes.specs.Moved.{leaf_moved}
use Rattle.tree_nodes.specs.Tree.{Tree, Leaf, leaves, leaves_in, count_of, view_at, view_in, IsTreeIn}
use Rattle.box_tree.specs.Ties.{fat_under, fats_by, Leafed, Ties}
use Rattle.box_tree.proofs.Fats.{contains_map, mapped_from}
use Rattle.box_tree.proofs.FatLists.{count_set, fats_len, fats_set, leafed_by, own_under, same_under, slots_apart}

only_one : (y x : Leaf) → Contains (x ∷ []) y → y ≡ x
only_one y x (zero, lt, e) = sym e
only_one y x (suc k, lt, e) = absurd (omega arith)

-- of leaves that one came to, or that are there in another order
before : (x y : Leaf) (xs ys : List Leaf) → IsPermutation (x ∷ xs) ys → Contains ys y → (y ≡ x) ⊎ Contains xs y
before x y xs ys perm c =
    ⊎_elim (λ a. inl (only_one y x a)) (λ b. inr b)
    (Contains-append_cases (x ∷ []) xs y (Contains-permutation ys (x ∷ xs) y (IsPermutation-sym (x ∷ xs) ys perm) c))

later : (x y : Leaf) (xs ys : List Leaf) → IsPermutation (x ∷ xs) ys → Contains xs y → Contains ys y
later x y xs ys perm c = Contains-permutation (x ∷ xs) ys y perm (Contains-append_right (x ∷ []) xs y c)

abbrev pub LeafLaw : Type 0
LeafLaw = (t : Tree) (x : Leaf) → Contains (leaves t) x → ((k : ℕ) → count_of t k ≤ 1) → view_at t x.node ≡ Some (LeafNode x.slot x.fat)

pub viewed : LeafLaw → (o : Option Tree) (x : Leaf) → IsTreeIn o → Contains (leaves_in o) x → view_in o x.node ≡ Some (LeafNode x.slot x.fat)
viewed law None x t h = let lt : h.0 < 0 = h.1 in absurd (omega arith)
viewed law (Some t) x is h = law t x h is.apart

-- a slot that has a value
pub some_there : (o : Option Bounds) → is_some o ≡ true → (f : Bounds) × (o ≡ Some f)
some_there None e = cc
some_there (Some f) e = (f, refl)

-- A node that shows a leaf has its box.
pub shown_bounds : (b : Bounds) (r : Role) (slot : ℕ) (fat : Bounds) → Some (shown_as b r) ≡ Some (LeafNode slot fat) → b ≡ fat
shown_bounds b (LeafRole s) slot fat e = cc
shown_bounds b (InnerRole l r h) slot fat e = cc

module _ (o : Option Tree) (numbers : List ℕ) (ties : Ties o numbers) where
  pub leafed : Leafed o (fats_by (leaves_in o))
  leafed = leafed_by o ties.is_tree ties.small

  in_numbers : (slot : ℕ) → slot < SLOTS → slot < length numbers
  in_numbers slot small = subst (λ n. slot < n) (sym ties.numbers_len) small

  -- the same leaves in a tree of another form
  pub tied_rebuilt : (p : Option Tree) → IsTreeIn p → IsPermutation (leaves_in o) (leaves_in p) → Ties p numbers
  tied_rebuilt p tree perm =
      let was : (x : Leaf) → Contains (leaves_in p) x → Contains (leaves_in o) x =
      λ x c. Contains-permutation (leaves_in p) (leaves_in o) x (IsPermutation-sym (leaves_in o) (leaves_in p) perm) c
      in
      record { is_tree = tree; numbers_len = ties.numbers_len; small = λ x c. ties.small x (was x c); number_is = λ x c. ties.number_is x (was x c) }

  module _ (slot : ℕ) (small : slot < SLOTS) (absent : get_or (fats_by (leaves_in o)) slot None ≡ None) where
    -- where a fat box is missing, not all are there
    pub few : (v : Bounds) → length (leaves_in o) < SLOTS
    few v =
        let fats = fats_by (leaves_in o) in
        let in_fats : slot < length fats = subst (λ n. slot < n) (sym (fats_len (leaves_in o))) small in
        let a = count_set fats slot (Some v) in_fats in
        let b = count_by-le-length is_some (set fats slot (Some v)) in
        let l = length-set fats slot (Some v) in
        let z : ◌≡◌ {A = ℕ} (cond (is_some (get_or fats slot None)) 1 0) 0 = ap (λ (v : Option Bounds). cond (is_some v) 1 0) absent in
        let c = leafed.counted in
        let d = fats_len (leaves_in o) in
        omega (arith, a, b, l, z, c, d)

    other : (x : Leaf) → Contains (leaves_in o) x → x.slot ≢ slot
    other x c same =
        let e : get_or (fats_by (leaves_in o)) slot None ≡ Some x.fat =
        subst (λ k. get_or (fats_by (leaves_in o)) k None ≡ Some x.fat) same (leafed.fat_is x c) in
        let f : None ≡ Some x.fat = sym absent ∙ e in
        cc

    pub none_has : All (λ (x : Leaf). x.slot ≢ slot) (leaves_in o)
    none_has = All-weaker (Contains (leaves_in o)) (λ (x : Leaf). x.slot ≢ slot) other (leaves_in o) (All-contains_itself (leaves_in o))

    -- a leaf that came
    pub tied_added : (p : Option Tree) (n : ℕ) (fat : Bounds) → IsTreeIn p
        → IsPermutation (record { node = n; slot = slot; fat = fat } ∷ leaves_in o) (leaves_in p) → Ties p (set numbers slot n)
    tied_added p n fat tree perm =
        let x : Leaf = record { node = n; slot = slot; fat = fat } in
        record {
          is_tree = tree;
          numbers_len = length-set numbers slot n ∙ ties.numbers_len;
          small = λ y c. ⊎_elim
              (λ e. subst (λ (z : Leaf). z.slot < SLOTS) (sym e) small) (λ h. ties.small y h) (before x y (leaves_in o) (leaves_in p) perm c);
          number_is = λ y c. ⊎_elim
              (λ e. subst (λ (z : Leaf). get_or (set numbers slot n) z.slot 0 ≡ z.node) (sym e)
              (get_or-set_same numbers slot n 0 (in_numbers slot small)))
              (λ h. get_or-set_other numbers slot y.slot n 0 (other y h) ∙ ties.number_is y h) (before x y (leaves_in o) (leaves_in p) perm c);
        }

  module _ (slot : ℕ) (f0 : Bounds) (present : get_or (fats_by (leaves_in o)) slot None ≡ Some f0) where
    abbrev own : Leaf
    own = record { node = get_or numbers slot 0; slot = slot; fat = f0 }

    -- a slot with a fat box has its leaf under its number
    pub own_there : Contains (leaves_in o) own
    own_there =
        let c = leafed.whole slot f0 present in
        subst (λ n. Contains (leaves_in o) (record { node = n; slot = slot; fat = f0 }))
        (sym (ties.number_is (record { node = c.0; slot = slot; fat = f0 }) c.1)) c.1

    own_viewed : LeafLaw → view_in o (get_or numbers slot 0) ≡ Some (LeafNode slot f0)
    own_viewed law = viewed law o own ties.is_tree own_there

    own_small : slot < SLOTS
    own_small = ties.small own own_there

    -- a leaf that went
    pub tied_dropped : (p : Option Tree) → IsTreeIn p → IsPermutation (own ∷ leaves_in p) (leaves_in o) → Ties p numbers
    tied_dropped p tree perm = record {
      is_tree = tree;
      numbers_len = ties.numbers_len;
      small = λ y c. ties.small y (later own y (leaves_in p) (leaves_in o) perm c);
      number_is = λ y c. ties.number_is y (later own y (leaves_in p) (leaves_in o) perm c);
    }

    module _ (law : LeafLaw) (fat : Bounds) where
      abbrev g : Leaf → Leaf
      g = leaf_moved (get_or numbers slot 0) fat

      own_moved : g own ≡ record { node = get_or numbers slot 0; slot = slot; fat = fat }
      own_moved =
          let e : eqb (get_or numbers slot 0) (get_or numbers slot 0) ≡ true = grind (arith, nat_tests) in
          ap (λ b. record { node = get_or numbers slot 0; slot = slot; fat = cond b fat f0 }) e

      other_node : (z : Leaf) → Contains (leaves_in o) z → z.slot ≢ slot → z.node ≢ get_or numbers slot 0
      other_node z c ne same =
          let a : view_in o z.node ≡ Some (LeafNode z.slot z.fat) = viewed law o z ties.is_tree c in
          let b : view_in o z.node ≡ Some (LeafNode slot f0) = subst (λ n. view_in o n ≡ Some (LeafNode slot f0)) (sym same) (own_viewed law) in
          let e : Some (LeafNode z.slot z.fat) ≡ Some (LeafNode slot f0) = sym a ∙ b in
          let s : z.slot ≡ slot = cc in
          ne s

      other_stays : (z : Leaf) → Contains (leaves_in o) z → z.slot ≢ slot → g z ≡ z
      other_stays z c ne =
          let n = other_node z c ne in
          let e : eqb z.node (get_or numbers slot 0) ≡ false = grind (arith, nat_tests) in
          ap (λ b. record { node = z.node; slot = z.slot; fat = cond b fat z.fat }) e

      -- a leaf that has another box
      pub tied_moved : (p : Option Tree) → IsTreeIn p → leaves_in p ≡ map g (leaves_in o) → Ties p numbers
      tied_moved p tree e =
          let was : (y : Leaf) → Contains (leaves_in p) y → (z : Leaf) × Contains (leaves_in o) z × (g z ≡ y) =
          λ y c. let d = subst (λ xs. Contains xs y) e c in mapped_from g (leaves_in o) y d.0 d.1 d.2
          in
          record {
            is_tree = tree;
            numbers_len = ties.numbers_len;
            small = λ y c. let r = was y c in subst (λ (x : Leaf). x.slot < SLOTS) r.2 (ties.small r.0 r.1);
            number_is = λ y c. let r = was y c in subst (λ (x : Leaf). get_or numbers x.slot 0 ≡ x.node) r.2 (ties.number_is r.0 r.1);
          }

      pub fats_moved : (p : Option Tree) → IsTreeIn p → leaves_in p ≡ map g (leaves_in o)
          → fats_by (leaves_in p) ≡ set (fats_by (leaves_in o)) slot (Some fat)
      fats_moved p tree e =
          let xs = leaves_in o in
          let ys = leaves_in p in
          let ax = slots_apart o ties.is_tree in
          let ay = slots_apart p tree in
          let after : (z : Leaf) → Contains xs z → Contains ys (g z) = λ z c. subst (λ l. Contains l (g z)) (sym e) (contains_map g xs z c) in
          let here : fat_under ys slot ≡ Some fat =
          subst (λ (x : Leaf). fat_under ys x.slot ≡ Some x.fat) own_moved (own_under ys ay (g own) (after own own_there)) in
          fats_set xs ys slot (Some fat) own_small here (λ k ne.
          same_under ys xs ay ax k
          (λ y c s.
          let d = subst (λ l. Contains l y) e c in
          let r = mapped_from g xs y d.0 d.1 d.2 in
          let at : (r.0).slot ≡ y.slot = ap (λ (z : Leaf). z.slot) r.2 in
          let stays : g r.0 ≡ r.0 = other_stays r.0 r.1 (λ same. ne (sym s ∙ (sym at ∙ same))) in
          (r.0, r.1, at, ap (λ (z : Leaf). z.fat) (sym stays ∙ r.2)))
          (λ x c s. (g x, after x c, refl, ap (λ (z : Leaf). z.fat) (other_stays x c (λ same. ne (sym s ∙ same))))))

-- no leaf
pub tied_none : (o : Option Tree) (numbers : List ℕ) → o ≡ None → length numbers ≡ SLOTS → Ties o numbers
tied_none o numbers is ln = subst (λ t. Ties t numbers) (sym is) (record {
  is_tree = tt;
  numbers_len = ln;
  small = λ x h. let lt : h.0 < 0 = h.1 in absurd (omega arith);
  number_is = λ x h. let lt : h.0 < 0 = h.1 in absurd (omega arith);
})

-- the list of numbers reaches to a slot with a fat box
pub numbered : (o : Option Tree) (numbers : List ℕ) → Ties o numbers → (slot : ℕ) → is_some (get_or (fats_by (leaves_in o)) slot None) ≡ true
    → slot < length numbers
numbered o numbers ties slot present =
    let f = some_there (get_or (fats_by (leaves_in o)) slot None) present in
    in_numbers o numbers ties slot (own_small o numbers ties slot f.0 f.1)

-- what is known of a slot with a fat box: the slot is small, and its leaf stands under its number
pub record Own (o : Option Tree) (numbers : List ℕ) (slot node : ℕ) : Type 0 where
  pub small : slot < SLOTS
  pub fat : Bounds
  pub is : get_or (fats_by (leaves_in o)) slot None ≡ Some fat
  pub node_is : node ≡ get_or numbers slot 0
  pub viewed : view_in o node ≡ Some (LeafNode slot fat)

pub own_of : (o : Option Tree) (numbers : List ℕ) → Ties o numbers → (slot node : ℕ)
    → is_some (get_or (fats_by (leaves_in o)) slot None) ≡ true → node ≡ get_or numbers slot node → LeafLaw → Own o numbers slot node
own_of o numbers ties slot node present reads law =
    let f = some_there (get_or (fats_by (leaves_in o)) slot None) present in
    let small : slot < SLOTS = own_small o numbers ties slot f.0 f.1 in
    let is : node ≡ get_or numbers slot 0 = get_or_read numbers slot node (in_numbers o numbers ties slot small) reads 0 in
    record {
      small = small;
      fat = f.0;
      is = f.1;
      node_is = is;
      viewed = subst (λ n. view_in o n ≡ Some (LeafNode slot f.0)) (sym is) (own_viewed o numbers ties slot f.0 f.1 law);
    }
