-- Serves proofs alone: skins that are shown to a visitor of exact boxes.
use Rattle.std.proofs.Common.{◌≡◌, ℕ, ◌+◌, ◌-◌, ◌<◌, ◌≤◌, ◌^◌, ◌||◌, ◌==◌, nat_lt, Bool, true, false, cond, not, List, [], ◌∷◌, ◌++◌, map, Option, None, Some}
use Rattle.std.proofs.Common.{refl, sym, ap, subst, ◌∙◌, arith}
use Rattle.std.specs.List.{All, AllByRecursion, sum, list_any}
use Rattle.std.specs.Ordering.{nat_cmp, eq_by_cmp}
use Rattle.std.specs.FinMap.{FinMap, get, entries, contains_key, contains_key-keys}
use Rattle.std.proofs.lemmas.Bool.{true≢false, false≢true}
use Rattle.std.proofs.lemmas.Bool.Decides.{nat_tests}
use Rattle.std.proofs.lemmas.List.{map-append}
use Rattle.std.proofs.lemmas.List.Sums.{sum_by-cons}
use Rattle.std.proofs.lemmas.List.Elements.{All-from_recursion, recursion_from_All}
use Rattle.fixed_box.specs.Bounds.{Bounds, encloses}
use Rattle.fixed_box.proofs.Numbers.{eq_cmp}
use Rattle.slot_lists.specs.Present.{present}
use Rattle.broad_index.specs.Members.{has_slot, slots_rise}
use Rattle.broad_index.specs.MapEntries.{Looked, looked_in, slots_up}
use Rattle.skin_index.specs.Skins.{is_inside, AreSkins}
use Rattle.skin_index.specs.ExactShown.{limit, box_or, exact_of, lies_inside, is_skin, SawExact}

-- ---- slots and the limit

low : (m n : ℕ) → m < n → nat_lt m n ≡ true
low m n l = grind (arith, nat_tests)

high : (m n : ℕ) → n ≤ m → nat_lt m n ≡ false
high m n l = grind (arith, nat_tests)

-- each of a list is at most the sum
at_most : (n : ℕ) (xs : List ℕ) → sum xs ≤ n → AllByRecursion (λ x. x ≤ n) xs
at_most n [] l = tt
at_most n (x ∷ xs) l =
    let all : sum (x ∷ xs) ≡ x + sum xs = sum_by-cons (λ y. y) x xs in
    (omega arith, at_most n xs (omega arith))

any_same : (p q : ℕ → Bool) → ((x : ℕ) → p x ≡ q x) → (xs : List ℕ) → list_any p xs ≡ list_any q xs
any_same p q h [] = refl
any_same p q h (x ∷ xs) = ap (λ b. b || list_any p xs) (h x) ∙ ap (λ b. q x || b) (any_same p q h xs)

-- the slots of a map are those under which it has something
has_present : (m : FinMap nat_cmp Bounds) (k : ℕ) → has_slot (present m) k ≡ contains_key m k
has_present m k = sym (any_same (eq_by_cmp nat_cmp k) (λ x. k == x) (eq_cmp k) (present m)) ∙ sym (contains_key-keys m k)

module _ (bodies : FinMap nat_cmp Bounds) where
  low_word : (slot : ℕ) → slot < 2 ^ 32 → nat_lt slot (limit bodies) ≡ true
  low_word slot l = low slot (limit bodies) (omega arith)

  split : (P : ℕ × Bounds → Type 0) (xs ys : List (ℕ × Bounds)) → AllByRecursion P (xs ++ ys) → AllByRecursion P xs × AllByRecursion P ys
  split P [] ys h = (tt, h)
  split P (x ∷ xs) ys h = let r = split P xs ys h.1 in ((h.0, r.0), r.1)

  both : (P : ℕ × Bounds → Type 0) (xs ys : List (ℕ × Bounds)) → AllByRecursion P xs → AllByRecursion P ys → AllByRecursion P (xs ++ ys)
  both P [] ys h k = k
  both P (x ∷ xs) ys h k = (h.0, both P xs ys h.1 k)

  -- ---- what is not shown

  module _ (itself : (a : Bounds) → encloses a a ≡ true) (P : Bounds → Type 0)
      (down : (outer inner : Bounds) → encloses outer inner ≡ true → P outer → P inner) where
    inside : (e : ℕ × Bounds) (t : Bool) (o : Option Bounds) → (not t || lies_inside o e.1) ≡ true
        → encloses e.1 (cond {A = ℕ × Bounds} t (e.0, box_or o e.1) (e.0 - limit bodies, e.1)).1 ≡ true
    inside e true None h = absurd (false≢true h)
    inside e true (Some b) h = h
    inside e false o h = itself e.1

    exact_all : (es : List (ℕ × Bounds)) → AllByRecursion (λ e. is_skin bodies e ≡ true) es → AllByRecursion (λ e. P e.1) es
        → AllByRecursion (λ e. P e.1) (map (exact_of bodies) es)
    exact_all [] s h = tt
    exact_all (e ∷ es) s h = (
      down e.1 (exact_of bodies e).1 (inside e (nat_lt e.0 (limit bodies)) (get bodies e.0) s.0) h.0,
      exact_all es s.1 h.1,
    )

    -- What needn't be shown of boxes needn't be shown of their skins.
    pub passed_by : (saw : List (ℕ × Bounds) → Type 0)
        → ((seen more : List (ℕ × Bounds)) → saw seen → All (λ e. P e.1) more → saw (seen ++ more))
        → (seen more : List (ℕ × Bounds)) → SawExact bodies saw seen → All (λ e. P e.1) more → SawExact bodies saw (seen ++ more)
    passed_by saw outer seen more has all skins =
        let Skin : ℕ × Bounds → Type 0 = λ e. is_skin bodies e ≡ true in
        let s = split Skin seen more (recursion_from_All Skin (seen ++ more) skins) in
        let f = exact_of bodies in
        subst saw (sym (map-append f seen more))
        (outer (map f seen) (map f more) (has (All-from_recursion Skin seen s.0))
        (All-from_recursion (λ e. P e.1) (map f more) (exact_all more s.1 (recursion_from_All (λ e. P e.1) more all))))

  -- ---- one that is shown

  module _ (saw now : List (ℕ × Bounds) → Type 0) (slot : ℕ) (skin : Bounds) (word : slot < 2 ^ 32) where
    pub one_shown : (b : Bounds) → get bodies slot ≡ Some b → ((seen : List (ℕ × Bounds)) → saw seen → now (seen ++ (slot, b) ∷ []))
        → (seen : List (ℕ × Bounds)) → SawExact bodies saw seen → SawExact bodies now (seen ++ (slot, skin) ∷ [])
    one_shown b there step seen has skins =
        let Skin : ℕ × Bounds → Type 0 = λ e. is_skin bodies e ≡ true in
        let s = split Skin seen ((slot, skin) ∷ []) (recursion_from_All Skin (seen ++ (slot, skin) ∷ []) skins) in
        let f = exact_of bodies in
        let exact : f (slot, skin) ≡ (slot, b) =
        ap (λ t. cond t (slot, box_or (get bodies slot) skin) (slot - limit bodies, skin)) (low_word slot word) ∙ ap (λ o. (slot, box_or o skin)) there in
        subst now (sym (map-append f seen ((slot, skin) ∷ []) ∙ ap (λ e. map f seen ++ e ∷ []) exact))
        (step (map f seen) (has (All-from_recursion Skin seen s.0)))

    pub none_shown : get bodies slot ≡ None → (seen : List (ℕ × Bounds)) → SawExact bodies saw seen → SawExact bodies now (seen ++ (slot, skin) ∷ [])
    none_shown gone seen has skins =
        let Skin : ℕ × Bounds → Type 0 = λ e. is_skin bodies e ≡ true in
        let s = split Skin seen ((slot, skin) ∷ []) (recursion_from_All Skin (seen ++ (slot, skin) ∷ []) skins) in
        let none : is_skin bodies (slot, skin) ≡ false =
        ap (λ t. not t || lies_inside (get bodies slot) skin) (low_word slot word) ∙ ap (λ o. lies_inside o skin) gone in
        absurd (true≢false (sym s.1.0 ∙ none))

  -- ---- all were shown

  -- what was seen before
  abbrev before : ℕ × Bounds → ℕ × Bounds
  before e = (e.0 + limit bodies, e.1)

  above : (e : ℕ × Bounds) → nat_lt (e.0 + limit bodies) (limit bodies) ≡ false
  above e = high (e.0 + limit bodies) (limit bodies) (omega arith)

  before_skins : (seen : List (ℕ × Bounds)) → AllByRecursion (λ e. is_skin bodies e ≡ true) (map before seen)
  before_skins [] = tt
  before_skins (e ∷ es) = (ap (λ t. not t || lies_inside (get bodies (e.0 + limit bodies)) e.1) (above e), before_skins es)

  before_seen : (seen : List (ℕ × Bounds)) → map (exact_of bodies) (map before seen) ≡ seen
  before_seen [] = refl
  before_seen (e ∷ es) =
      let back : e.0 + limit bodies - limit bodies ≡ e.0 = omega arith in
      let one : exact_of bodies (before e) ≡ e =
      ap (λ t. cond t (e.0 + limit bodies, box_or (get bodies (e.0 + limit bodies)) e.1) (e.0 + limit bodies - limit bodies, e.1)) (above e)
      ∙ ap (λ k. (k, e.1)) back in
      λ i. one i ∷ before_seen es i

  module _ (skins : FinMap nat_cmp Bounds) (are : AreSkins bodies skins)
      (one_list : (xs ys : List ℕ) → slots_rise xs ≡ true → slots_rise ys ≡ true → ((k : ℕ) → has_slot xs k ≡ has_slot ys k) → xs ≡ ys) where
    same_slots : present skins ≡ present bodies
    same_slots = one_list (present skins) (present bodies) (slots_up skins) (slots_up bodies) (λ k. has_present skins k ∙ are.same k ∙ sym (has_present bodies k))

    skin_is : (e : ℕ × Bounds) (t : Bool) (o : Option Bounds) (b : Bounds) → t ≡ true → o ≡ Some b → encloses e.1 b ≡ true
        → (not t || lies_inside o e.1) ≡ true
    skin_is e t o b ht ho h = ap (λ x. not x || lies_inside o e.1) ht ∙ ap (λ x. lies_inside x e.1) ho ∙ h

    exact_is : (e : ℕ × Bounds) (t : Bool) (o : Option Bounds) (f : ℕ × Bounds) → t ≡ true → o ≡ Some f.1 → e.0 ≡ f.0
        → cond {A = ℕ × Bounds} t (e.0, box_or o e.1) (e.0 - limit bodies, e.1) ≡ f
    exact_is e t o f ht ho slot =
        ap (λ x. cond {A = ℕ × Bounds} x (e.0, box_or o e.1) (e.0 - limit bodies, e.1)) ht ∙ ap (λ x. (e.0, box_or x e.1)) ho ∙ ap (λ k. (k, f.1)) slot

    pair_up : (es fs : List (ℕ × Bounds)) → map (λ e. e.0) es ≡ map (λ e. e.0) fs → Looked (get skins) es → Looked (get bodies) fs
        → AllByRecursion (λ k. k ≤ sum (present bodies)) (map (λ e. e.0) fs)
        → AllByRecursion (λ e. is_skin bodies e ≡ true) es × (map (exact_of bodies) es ≡ fs)
    pair_up [] [] same l m h = (tt, refl)
    pair_up [] (f ∷ fs) same l m h = let no : ⊥ = cc in absurd no
    pair_up (e ∷ es) [] same l m h = let no : ⊥ = cc in absurd no
    pair_up (e ∷ es) (f ∷ fs) same l m h =
        let slot : e.0 ≡ f.0 = cc in
        let slots : map (λ e. e.0) es ≡ map (λ e. e.0) fs = cc in
        let rest = pair_up es fs slots l.1 m.1 h.1 in
        let there : get bodies e.0 ≡ Some f.1 = ap (get bodies) slot ∙ m.0 in
        let small : f.0 ≤ sum (present bodies) = h.0 in
        let is_low : nat_lt e.0 (limit bodies) ≡ true = low e.0 (limit bodies) (omega arith) in
        let within : encloses e.1 f.1 ≡ true = sym (ap (λ o. is_inside o f.1) l.0) ∙ are.inside e.0 f.1 there in
        let skin : is_skin bodies e ≡ true = skin_is e (nat_lt e.0 (limit bodies)) (get bodies e.0) f.1 is_low there within in
        let exact : exact_of bodies e ≡ f = exact_is e (nat_lt e.0 (limit bodies)) (get bodies e.0) f is_low there slot in
        ((skin, rest.0), (λ i. exact i ∷ rest.1 i))

    -- The boxes were shown after all that was seen before.
    pub all_shown : (saw now : List (ℕ × Bounds) → Type 0)
        → ((seen : List (ℕ × Bounds)) → SawExact bodies saw seen → SawExact bodies now (seen ++ entries skins))
        → (seen : List (ℕ × Bounds)) → saw seen → now (seen ++ entries bodies)
    all_shown saw now shown seen s =
        let Skin : ℕ × Bounds → Type 0 = λ e. is_skin bodies e ≡ true in
        let f = exact_of bodies in
        let first = map before seen in
        let pairs = pair_up (entries skins) (entries bodies) same_slots (looked_in skins) (looked_in bodies)
        (at_most (sum (present bodies)) (present bodies) (omega arith)) in
        let start : SawExact bodies saw first = λ _. subst saw (sym (before_seen seen)) s in
        let all = All-from_recursion Skin (first ++ entries skins) (both Skin first (entries skins) (before_skins seen) pairs.0) in
        subst now (map-append f first (entries skins) ∙ (λ i. before_seen seen i ++ pairs.1 i)) (shown first start all)
