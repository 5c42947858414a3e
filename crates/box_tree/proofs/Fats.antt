-- Fat boxes beside the boxes that they enclose.
use Rattle.std.proofs.Common.{◌≡◌, ℕ, zero, suc, ◌<◌, true, false, Option, None, Some, is_some, List, [], ◌∷◌, length, map}
use Rattle.std.proofs.Common.{cond, get_or, set, refl, sym, ap, ◌∙◌, subst, arith, ⊎_elim, ◌⊎◌}
use Rattle.std.specs.FinMap.{contains_key}
use Rattle.std.specs.List.{Contains, count_by}
use Rattle.std.proofs.lemmas.Bool.{cases_eq, false≢true}
use Rattle.std.proofs.lemmas.List.{get_or-set_same, get_or-set_other}
use Rattle.std.proofs.lemmas.List.Elements.{Contains-append_right}
use Rattle.std.proofs.lemmas.List.Sums.{sum_by-cons}
use Rattle.fixed_box.specs.declared.TheConstants.{SLOTS}
use Rattle.fixed_box.specs.Bounds.{Bounds, encloses}
use Rattle.broad_index.specs.Held.{Holds}
use Rattle.tree_nodes.specs.Tree.{Tree, leaves_in}
use Rattle.box_tree.specs.Boxes.{fat_entry}
use Rattle.slot_lists.specs.SlotMap.{map_of}
use Rattle.slot_lists.specs.SlotMapLaws.{get_map}
use Rattle.box_tree.specs.Ties.{AreFat, Leafed}

module _ {X : Type 0} where
  -- a slot that has a value is one of the list
  pub within : (xs : List (Option X)) (k : ℕ) → is_some (get_or xs k None) ≡ true → k < length xs
  within [] k e = absurd (false≢true e)
  within (x ∷ xs) zero e = omega arith
  within (x ∷ xs) (suc k) e = let l = within xs k e in omega arith

  pub none_there : (o : Option X) → is_some o ≡ false → o ≡ None
  none_there None e = refl
  none_there (Some x) e = absurd (false≢true (sym e))

module _ (fats bodies : List (Option Bounds)) (fat : AreFat fats bodies) (slot : ℕ) (in_bodies : slot < length bodies) where
  fat_cases : (k : ℕ) → (k ≡ slot) ⊎ (k ≡ slot → ⊥)
  fat_cases k = cases_eq k slot

  some_eq : (a b : Bounds) → ◌≡◌ {A = Option Bounds} (Some a) (Some b) → a ≡ b
  some_eq a b e = cc

  -- a box inside the fat box that stays
  pub fat_inside : (f b : Bounds) → get_or fats slot None ≡ Some f → encloses f b ≡ true → AreFat fats (set bodies slot (Some b))
  fat_inside f b is e = record {
    same = λ k. ⊎_elim
        (λ s. subst (λ j. is_some (get_or fats j None) ≡ is_some (get_or (set bodies slot (Some b)) j None)) (sym s)
        (ap is_some is ∙ sym (ap is_some (get_or-set_same bodies slot (Some b) None in_bodies))))
        (λ ne. fat.same k ∙ sym (ap is_some (get_or-set_other bodies slot k (Some b) None ne))) (fat_cases k);
    inside = λ k g c eg ec. ⊎_elim
        (λ s.
        let g_is : f ≡ g = some_eq f g (sym is ∙ subst (λ j. get_or fats j None ≡ Some g) s eg) in
        let c_is : b ≡ c = some_eq b c (sym (get_or-set_same bodies slot (Some b) None in_bodies)
        ∙ subst (λ j. get_or (set bodies slot (Some b)) j None ≡ Some c) s ec) in
        subst (λ x. encloses x c ≡ true) g_is (subst (λ x. encloses f x ≡ true) c_is e))
        (λ ne. fat.inside k g c eg (sym (get_or-set_other bodies slot k (Some b) None ne) ∙ ec)) (fat_cases k);
  }

  module _ (in_fats : slot < length fats) where
    -- both are written
    pub fat_put : (f b : Bounds) → encloses f b ≡ true → AreFat (set fats slot (Some f)) (set bodies slot (Some b))
    fat_put f b e = record {
      same = λ k. ⊎_elim
          (λ s. subst (λ j. is_some (get_or (set fats slot (Some f)) j None) ≡ is_some (get_or (set bodies slot (Some b)) j None)) (sym s)
          (ap is_some (get_or-set_same fats slot (Some f) None in_fats) ∙ sym (ap is_some (get_or-set_same bodies slot (Some b) None in_bodies))))
          (λ ne. ap is_some (get_or-set_other fats slot k (Some f) None ne) ∙ fat.same k
          ∙ sym (ap is_some (get_or-set_other bodies slot k (Some b) None ne))) (fat_cases k);
      inside = λ k g c eg ec. ⊎_elim
          (λ s.
          let g_is : f ≡ g = some_eq f g (sym (get_or-set_same fats slot (Some f) None in_fats)
          ∙ subst (λ j. get_or (set fats slot (Some f)) j None ≡ Some g) s eg) in
          let c_is : b ≡ c = some_eq b c (sym (get_or-set_same bodies slot (Some b) None in_bodies)
          ∙ subst (λ j. get_or (set bodies slot (Some b)) j None ≡ Some c) s ec) in
          subst (λ x. encloses x c ≡ true) g_is (subst (λ x. encloses f x ≡ true) c_is e))
          (λ ne. fat.inside k g c (sym (get_or-set_other fats slot k (Some f) None ne) ∙ eg)
          (sym (get_or-set_other bodies slot k (Some b) None ne) ∙ ec)) (fat_cases k);
    }

    -- both are wiped
    pub fat_taken : AreFat (set fats slot None) (set bodies slot None)
    fat_taken = record {
      same = λ k. ⊎_elim
          (λ s. subst (λ j. is_some (get_or (set fats slot None) j None) ≡ is_some (get_or (set bodies slot None) j None)) (sym s)
          (ap is_some (get_or-set_same fats slot None None in_fats) ∙ sym (ap is_some (get_or-set_same bodies slot None None in_bodies))))
          (λ ne. ap is_some (get_or-set_other fats slot k None None ne) ∙ fat.same k
          ∙ sym (ap is_some (get_or-set_other bodies slot k None None ne))) (fat_cases k);
      inside = λ k g c eg ec. ⊎_elim
          (λ s.
          let none : ◌≡◌ {A = Option Bounds} None (Some g) = sym (get_or-set_same fats slot None None in_fats)
          ∙ subst (λ j. get_or (set fats slot None) j None ≡ Some g) s eg in
          cc)
          (λ ne. fat.inside k g c (sym (get_or-set_other fats slot k None None ne) ∙ eg)
          (sym (get_or-set_other bodies slot k None None ne) ∙ ec)) (fat_cases k);
    }

module _ (fats bodies : List (Option Bounds)) (fat : AreFat fats bodies) (slot : ℕ) where
  pub has_map : (xs : List (Option Bounds)) → contains_key (map_of xs) slot ≡ is_some (get_or xs slot None)
  has_map xs = ap is_some (get_map xs slot)

  -- a present slot has a fat box, and an absent one has none
  pub present_fat : contains_key (map_of bodies) slot ≡ true → is_some (get_or fats slot None) ≡ true
  present_fat h = fat.same slot ∙ (sym (has_map bodies) ∙ h)

  pub present_small : length bodies ≡ SLOTS → contains_key (map_of bodies) slot ≡ true → slot < SLOTS
  present_small l h = subst (λ n. slot < n) l (within bodies slot (sym (has_map bodies) ∙ h))

  pub absent_fat : contains_key (map_of bodies) slot ≡ false → get_or fats slot None ≡ None
  absent_fat h = none_there (get_or fats slot None) (fat.same slot ∙ (sym (has_map bodies) ∙ h))

  pub both_present : contains_key (map_of fats) slot ≡ contains_key (map_of bodies) slot
  both_present = has_map fats ∙ fat.same slot ∙ sym (has_map bodies)

-- what a list of images has is the image of something, and the image of what the list has is there
module _ {X Y : Type 0} (f : X → Y) where
  pub mapped_from : (xs : List X) (y : Y) (k : ℕ) → k < length (map f xs) → get_or (map f xs) k y ≡ y → (z : X) × Contains xs z × (f z ≡ y)
  mapped_from [] y k lt e = absurd (omega arith)
  mapped_from (x ∷ xs) y zero lt e = (x, (0, omega arith, refl), e)
  mapped_from (x ∷ xs) y (suc k) lt e =
      let r = mapped_from xs y k (omega arith) e in
      (r.0, Contains-append_right (x ∷ []) xs r.0 r.1, r.2)

  pub contains_map : (xs : List X) (x : X) → Contains xs x → Contains (map f xs) (f x)
  contains_map xs x h = at xs h.0 h.1 h.2
    where
      at : (xs : List X) (k : ℕ) → k < length xs → get_or xs k x ≡ x → Contains (map f xs) (f x)
      at [] k lt e = absurd (omega arith)
      at (y ∷ ys) zero lt e = (0, omega arith, ap f e)
      at (y ∷ ys) (suc k) lt e = Contains-append_right (f y ∷ []) (map f ys) (f x) (at ys k (omega arith) e)

-- the leaves have exactly the slots with fat boxes
pub fats_held : (o : Option Tree) (fats : List (Option Bounds)) → Leafed o fats → Holds (map_of fats) (map fat_entry (leaves_in o))
fats_held o fats leafed = record {
  present = λ k b c.
      let r = mapped_from fat_entry (leaves_in o) (k, b) c.0 c.1 c.2 in
      let e : get_or fats (fat_entry r.0).0 None ≡ Some (fat_entry r.0).1 = leafed.fat_is r.0 r.1 in
      get_map fats k ∙ subst (λ (x : ℕ × Bounds). get_or fats x.0 None ≡ Some x.1) r.2 e;
  whole = λ k b e.
      let c = leafed.whole k b (sym (get_map fats k) ∙ e) in
      contains_map fat_entry (leaves_in o) (record { node = c.0; slot = k; fat = b }) c.1;
}

-- no value is counted where there is none
pub none_counted : (xs : List (Option Bounds)) → ((k : ℕ) → get_or xs k None ≡ None) → count_by is_some xs ≡ 0
none_counted [] none = refl
none_counted (x ∷ xs) none =
    let a = sum_by-cons (λ (y : Option Bounds). cond (is_some y) 1 0) x xs in
    let b : ◌≡◌ {A = ℕ} (cond (is_some x) 1 0) 0 = ap (λ (y : Option Bounds). cond (is_some y) 1 0) (none 0) in
    let rest = none_counted xs (λ k. none (suc k)) in
    omega (arith, a, b, rest)

pub fat_none : (fats bodies : List (Option Bounds)) → ((k : ℕ) → get_or fats k None ≡ None) → ((k : ℕ) → get_or bodies k None ≡ None) → AreFat fats bodies
fat_none fats bodies nf nb = record {
  same = λ k. ap is_some (nf k) ∙ sym (ap is_some (nb k));
  inside = λ k f b ef eb. let n : ◌≡◌ {A = Option Bounds} None (Some f) = sym (nf k) ∙ ef in cc;
}
