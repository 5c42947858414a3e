-- A search for the nearest: each box that is shown takes its place, and what is farther than all that it has changes nothing.
use Rattle.std.proofs.Common.{◌≡◌, ℕ, zero, suc, ◌<◌, ◌≤◌, true, false, cond, ◌&&◌, ◌||◌, nat_lt, ◌-◌, List, [], ◌∷◌, ◌++◌, map, take, drop, length}
use Rattle.std.proofs.Common.{get_or, append-nil, length-append, refl, sym, ap, subst, ◌∙◌, arith, inl, inr}
use Rattle.std.specs.Prelude.{insert, Option, None, Some, is_some, nat_le, slice_index_or}
use Rattle.std.specs.List.{filter, filter_map, cons_option, list_all, AllByRecursion, All, Contains}
use Rattle.std.specs.Ordering.{nat_cmp, is_lt}
use Rattle.std.specs.FinMap.{FinMap, contains_key, entries, get}
use Rattle.std.proofs.lemmas.List.{take-append-drop, map-append, get_or_read}
use Rattle.std.proofs.lemmas.Bool.{and_parts, cases_Bool, cases_lt, true≢false, false≢true}
use Rattle.std.proofs.lemmas.Bool.Decides.{nat_tests}
use Rattle.std.proofs.lemmas.List.Elements.{filter-append, recursion_from_All, All-contains_itself, Contains-append_left, Contains-append_right}
use Rattle.std.proofs.lemmas.List.Sorted.{IsPermutation-sym, IsPermutation-to_front}
use Rattle.fixed_box.proofs.Bools.{or_true}
use Rattle.fixed_box.specs.Bounds.{Bounds, meets, encloses, fattened}
use Rattle.fixed_box.specs.Space.{space}
use Rattle.ordered_lists.specs.Ordered.{placed, ordered_by}
use Rattle.ordered_lists.specs.Ascending.{Ascends, chain}
use Rattle.ordered_lists.specs.OrderedLaws.{filter_ordered, length_ordered, ordered_ascends}
use Rattle.ordered_lists.specs.SortedLists.{only_members}
use Rattle.ordered_lists.specs.FrontLaws.{cut_front}
use Rattle.near_boxes.specs.declared.near.Near.{Near}
use Rattle.near_boxes.specs.Nearest.{near_cmp, seen_about, square_apart, nearest_about}
use Rattle.near_boxes.specs.Bodies.{AreInSpace, AreAmong}
use Rattle.near_boxes.specs.Within.{within, within_of, Reaches}
use Rattle.near_boxes.specs.NearOrder.{near_total, ties_one, no_farther}
use Rattle.slot_lists.specs.Present.{present}
use Rattle.broad_index.specs.Members.{has_slot}
use Rattle.broad_index.specs.MapEntries.{Looked, looked_in, slots_up, has_slots}
use Rattle.near_boxes.proofs.Reached.{all_near, near_meets}
use Rattle.near_boxes.proofs.Gathered.{all_pass, gathered, there, all_gathered}
use Rattle.near_boxes.proofs.NearestPoint.{hull_square}
use Rattle.near_boxes.specs.Search.{is_asked, is_nearer, is_last_nearer, is_passed, seen_of, LieInSpace, HasNearest}

-- ---- the place of one among those in order

pub whole : (x : Near) (xs : List Near) → placed near_cmp x xs ≡ placed near_cmp x (take (length xs) xs) ++ drop (length xs) xs
whole x xs =
    ap (placed near_cmp x) (sym (all_taken xs)) ∙ sym (append-nil (placed near_cmp x (take (length xs) xs)))
    ∙ ap (λ l. placed near_cmp x (take (length xs) xs) ++ l) (sym (none_left xs))
  where
    all_taken : (ys : List Near) → take (length ys) ys ≡ ys
    all_taken [] = refl
    all_taken (y ∷ ys) = ap (λ zs. y ∷ zs) (all_taken ys)

    none_left : (ys : List Near) → drop (length ys) ys ≡ []
    none_left [] = refl
    none_left (y ∷ ys) = none_left ys

earlier : (x : Near) (xs : List Near) (k : ℕ) (d : Near) → k < length xs → is_lt (near_cmp (get_or xs k d) x) ≡ false
    → placed near_cmp x (take (suc k) xs) ++ drop (suc k) xs ≡ placed near_cmp x (take k xs) ++ drop k xs
earlier x [] k d l h = absurd (omega arith)
earlier x (y ∷ ys) zero d l h = ap (λ b. cond b (y ∷ x ∷ []) (x ∷ y ∷ []) ++ ys) h
earlier x (y ∷ ys) (suc k) d l h =
    elim (is_lt (near_cmp y x)) as
    (λ b. cond b (y ∷ placed near_cmp x (take (suc k) ys)) (x ∷ y ∷ take (suc k) ys) ++ drop (suc k) ys
    ≡ cond b (y ∷ placed near_cmp x (take k ys)) (x ∷ y ∷ take k ys) ++ drop k ys) [
      | true ↦ ap (λ zs. y ∷ zs) (earlier x ys k d (omega arith) h)
      | false ↦ ap (λ zs. x ∷ y ∷ zs) (take-append-drop (suc k) ys ∙ sym (take-append-drop k ys))
    ]

pub earlier_at : (x : Near) (xs : List Near) (at : ℕ) (d : Near) → 0 < at → at ≤ length xs → is_lt (near_cmp (get_or xs (at - 1) d) x) ≡ false
    → placed near_cmp x xs ≡ placed near_cmp x (take at xs) ++ drop at xs → placed near_cmp x xs ≡ placed near_cmp x (take (at - 1) xs) ++ drop (at - 1) xs
earlier_at x xs zero d some l h is = absurd (omega arith)
earlier_at x xs (suc k) d some l h is =
    let down : suc k - 1 ≡ k = omega arith in
    is ∙ subst (λ j. placed near_cmp x (take (suc k) xs) ++ drop (suc k) xs ≡ placed near_cmp x (take j xs) ++ drop j xs) (sym down)
    (earlier x xs k d (omega arith) (subst (λ j. is_lt (near_cmp (get_or xs j d) x) ≡ false) down h))

pub at_front : (x : Near) (xs : List Near) → placed near_cmp x (take 0 xs) ++ drop 0 xs ≡ insert xs 0 x
at_front x [] = refl
at_front x (y ∷ ys) = refl

-- those before one that comes before it do so too
before : (x d y : Near) (ys : List Near) (j : ℕ) → j < length (y ∷ ys) → Ascends near_cmp (y ∷ ys) → is_lt (near_cmp (get_or (y ∷ ys) j d) x) ≡ true
    → (is_lt (near_cmp y x) ≡ true) × (placed near_cmp x (take (suc j) (y ∷ ys)) ++ drop (suc j) (y ∷ ys) ≡ insert (y ∷ ys) (suc j) x)
before x d y ys zero l up h = (h, ap (λ b. cond b (y ∷ x ∷ []) (x ∷ y ∷ []) ++ ys) h ∙ ap (λ zs. y ∷ zs) (at_front x ys))
before x d y [] (suc j) l up h = absurd (omega arith)
before x d y (z ∷ zs) (suc j) l up h =
    let rest = before x d z zs j (omega arith) up.1 h in
    let first : is_lt (near_cmp y x) ≡ true =
    elim (cases_Bool (is_lt (near_cmp y x))) as (λ _. is_lt (near_cmp y x) ≡ true) [
      | inl t ↦ t
      | inr f ↦ absurd (true≢false (sym rest.0 ∙ chain near_cmp near_total x y z f up.0.0))
    ] in (
      first,
      ap (λ b. cond b (y ∷ placed near_cmp x (take (suc j) (z ∷ zs))) (x ∷ y ∷ take (suc j) (z ∷ zs)) ++ drop (suc j) (z ∷ zs)) first
          ∙ ap (λ l. y ∷ l) rest.1,
    )

in_place : (x : Near) (xs : List Near) (k : ℕ) (d : Near) → k < length xs → Ascends near_cmp xs → is_lt (near_cmp (get_or xs k d) x) ≡ true
    → placed near_cmp x (take (suc k) xs) ++ drop (suc k) xs ≡ insert xs (suc k) x
in_place x [] k d l up h = absurd (omega arith)
in_place x (y ∷ ys) k d l up h = (before x d y ys k l up h).1

pub in_place_at : (x : Near) (xs : List Near) (at : ℕ) (d : Near) → 0 < at → at ≤ length xs → is_lt (near_cmp (get_or xs (at - 1) d) x) ≡ true
    → placed near_cmp x xs ≡ placed near_cmp x (take at xs) ++ drop at xs → Ascends near_cmp xs → placed near_cmp x xs ≡ insert xs at x
in_place_at x xs zero d some l h is up = absurd (omega arith)
in_place_at x xs (suc k) d some l h is up =
    let down : suc k - 1 ≡ k = omega arith in
    is ∙ in_place x xs k d (omega arith) up (subst (λ j. is_lt (near_cmp (get_or xs j d) x) ≡ true) down h)

-- the first so many after one takes its place are those of the first so many before
take_take : (m n : ℕ) (xs : List Near) → m ≤ n → take m xs ≡ take m (take n xs)
take_take zero n xs l = refl
take_take (suc m) zero xs l = absurd (omega arith)
take_take (suc m) (suc n) [] l = refl
take_take (suc m) (suc n) (x ∷ xs) l = ap (λ zs. x ∷ zs) (take_take m n xs (omega arith))

take_placed : (w : ℕ) (x : Near) (ys : List Near) → take w (placed near_cmp x (take w ys)) ≡ take w (placed near_cmp x ys)
take_placed zero x ys = refl
take_placed (suc w) x [] = refl
take_placed (suc w) x (y ∷ ys) =
    elim (is_lt (near_cmp y x)) as
    (λ b. take (suc w) (cond b (y ∷ placed near_cmp x (take w ys)) (x ∷ y ∷ take w ys)) ≡ take (suc w) (cond b (y ∷ placed near_cmp x ys) (x ∷ y ∷ ys))) [
      | true ↦ ap (λ zs. y ∷ zs) (take_placed w x ys)
      | false ↦ ap (λ zs. x ∷ zs) (sym (head w))
    ]
  where
    head : (w : ℕ) → take w (y ∷ ys) ≡ take w (y ∷ take w ys)
    head zero = refl
    head (suc v) = ap (λ zs. y ∷ zs) (take_take v (suc v) ys (omega arith))

-- the last is nearer than what is farther
pub last_nearer : (ns : List Near) (at : ℕ) (last : Near) → at ≡ length ns - 1 → at < length ns → last ≡ slice_index_or ns at last
    → is_last_nearer (suc last.square) ns ≡ true
last_nearer ns at last is lt read =
    let none : Near = record { slot = 0; square = 0 } in
    let same : get_or ns (length ns - 1) none ≡ last = subst (λ k. get_or ns k none ≡ last) is (sym (get_or_read ns at last lt read none)) in
    ap (λ m. nat_le (length ns) 0 || is_nearer (suc last.square) m) same ∙ ap (λ b. nat_le (length ns) 0 || b) (below last.square)
    ∙ or_true (nat_le (length ns) 0)
  where
    below : (n : ℕ) → nat_lt n (suc n) ≡ true
    below n = grind (arith, nat_tests)

-- ---- boxes that are shown

module _ (bodies : FinMap nat_cmp Bounds) (to : Bounds) where
  seen_more : (seen more : List (ℕ × Bounds)) → seen_of bodies to (seen ++ more) ≡ seen_of bodies to seen ++ seen_of bodies to more
  seen_more seen more =
      ap (filter (is_asked bodies)) (map-append (seen_about to) seen more) ∙ filter-append (is_asked bodies) (map (seen_about to) seen) (map (seen_about to) more)

  -- none of those that aren't asked for
  none_asked : (es : List (ℕ × Bounds)) → AllByRecursion (λ e. contains_key bodies e.0 ≡ false) es → seen_of bodies to es ≡ []
  none_asked [] h = refl
  none_asked (e ∷ es) h =
      ap (λ b. cond b (seen_about to e ∷ seen_of bodies to es) (seen_of bodies to es)) h.0 ∙ none_asked es h.1

  -- what isn't in space isn't asked for
  out_of_space : (all more : List (ℕ × Bounds)) → LieInSpace bodies all → AllByRecursion (λ e. Contains all e × (meets space e.1 ≡ false)) more
      → AllByRecursion (λ e. contains_key bodies e.0 ≡ false) more
  out_of_space all [] h out = tt
  out_of_space all (e ∷ es) h out = (
    (elim (cases_Bool (contains_key bodies e.0)) as (λ _. contains_key bodies e.0 ≡ false) [
      | inl t ↦ absurd (true≢false (sym (h e out.0.0 t) ∙ out.0.1))
      | inr f ↦ f
    ]),
    out_of_space all es h out.1,
  )

  with_members : (P : ℕ × Bounds → Type 0) (all more : List (ℕ × Bounds)) → AllByRecursion (Contains all) more → AllByRecursion P more
      → AllByRecursion (λ e. Contains all e × P e) more
  with_members P all [] c h = tt
  with_members P all (e ∷ es) c h = ((c.0, h.0), with_members P all es c.1 h.1)

  lifted : (seen more es : List (ℕ × Bounds)) → AllByRecursion (Contains more) es → AllByRecursion (Contains (seen ++ more)) es
  lifted seen more [] h = tt
  lifted seen more (e ∷ es) h = (Contains-append_right seen more e h.0, lifted seen more es h.1)

  -- what holds of more boxes holds of members of all
  of_more : (P : ℕ × Bounds → Type 0) (seen more : List (ℕ × Bounds)) → All P more → AllByRecursion (λ e. Contains (seen ++ more) e × P e) more
  of_more P seen more h =
      with_members P (seen ++ more) more (lifted seen more more (recursion_from_All (Contains more) more (All-contains_itself more)))
      (recursion_from_All P more h)

  module _ (want : ℕ) (nears : List Near) where
    pub missed : (seen more : List (ℕ × Bounds)) → HasNearest bodies to want nears seen → All (λ e. meets space e.1 ≡ false) more
        → HasNearest bodies to want nears (seen ++ more)
    missed seen more has out in_space =
        let none : seen_of bodies to more ≡ [] =
        none_asked more (out_of_space (seen ++ more) more in_space (of_more (λ e. meets space e.1 ≡ false) seen more out)) in
        has (λ e c a. in_space e (Contains-append_left seen more e c) a)
        ∙ ap (λ l. take want (ordered_by near_cmp l))
        (sym (append-nil (seen_of bodies to seen)) ∙ ap (λ l. seen_of bodies to seen ++ l) (sym none) ∙ sym (seen_more seen more))

    -- none of those that are asked for is nearer than a square
    abbrev AreFar : ℕ → List (ℕ × Bounds) → Type 0
    AreFar than es = AllByRecursion (λ e. contains_key bodies e.0 ≡ true → than ≤ square_apart to e.1) es

    far_off : (than : ℕ) (es : List (ℕ × Bounds)) → AreFar than es → filter (is_nearer than) (seen_of bodies to es) ≡ []
    far_off than [] h = refl
    far_off than (e ∷ es) h =
        let rest = far_off than es h.1 in
        elim (cases_Bool (contains_key bodies e.0)) as (λ _. filter (is_nearer than) (seen_of bodies to (e ∷ es)) ≡ []) [
          | inl t ↦
              ap (λ b. filter (is_nearer than) (cond b (seen_about to e ∷ seen_of bodies to es) (seen_of bodies to es))) t
              ∙ ap (λ b. cond b (seen_about to e ∷ filter (is_nearer than) (seen_of bodies to es)) (filter (is_nearer than) (seen_of bodies to es)))
              (not_below (square_apart to e.1) than (h.0 t))
              ∙ rest
          | inr f ↦ ap (λ b. filter (is_nearer than) (cond b (seen_about to e ∷ seen_of bodies to es) (seen_of bodies to es))) f ∙ rest
        ]
      where
        not_below : (n than : ℕ) → than ≤ n → nat_lt n than ≡ false
        not_below n than le = grind (arith, nat_tests)

    -- what lies in a hull is as far as the hull, or farther
    far_within : (hull : Bounds) (than : ℕ) → than ≡ square_apart to hull → (es : List (ℕ × Bounds)) → AllByRecursion (λ e. encloses hull e.1 ≡ true) es
        → AreFar than es
    far_within hull than is [] h = tt
    far_within hull than is (e ∷ es) h =
        let le : square_apart to hull ≤ square_apart to e.1 = hull_square to hull e.1 h.0 in (λ _. omega (arith, le, is), far_within hull than is es h.1)

    -- what doesn't meet the fattened box is farther than it reaches
    far_around : meets space to ≡ true → (margin last : ℕ) → Reaches margin last → (all es : List (ℕ × Bounds)) → LieInSpace bodies all
        → AllByRecursion (λ e. Contains all e × (meets (fattened to margin) e.1 ≡ false)) es → AreFar (suc last) es
    far_around here margin last r all [] h out = tt
    far_around here margin last r all (e ∷ es) h out = (
      (λ asked. elim (cases_lt last (square_apart to e.1)) as (λ _. suc last ≤ square_apart to e.1) [
        | inl lt ↦ omega (arith, lt)
        | inr le ↦ absurd (true≢false (sym (near_meets to here e.1 (h e out.0.0 asked) margin last r le) ∙ out.0.1))
      ]),
      far_around here margin last r all es h out.1,
    )

    nearer_bound : (than : ℕ) (m n : Near) → is_lt (near_cmp n m) ≡ false → is_nearer than n ≡ true → is_nearer than m ≡ true
    nearer_bound than m n h g = still m.square n.square than (no_farther m n h) g
      where
        still : (a b than : ℕ) → a ≤ b → nat_lt b than ≡ true → nat_lt a than ≡ true
        still a b than le h = grind (arith, nat_tests)

    take_all : (P : Near → Type 0) (k : ℕ) (zs : List Near) → AllByRecursion P zs → AllByRecursion P (take k zs)
    take_all P zero zs h = tt
    take_all P (suc k) [] h = tt
    take_all P (suc k) (z ∷ zs) h = (h.0, take_all P k zs h.1)

    take_ascends : (k : ℕ) (zs : List Near) → Ascends near_cmp zs → Ascends near_cmp (take k zs)
    take_ascends zero zs up = tt
    take_ascends (suc k) [] up = tt
    take_ascends (suc k) (z ∷ zs) up = (take_all (λ w. is_lt (near_cmp w z) ≡ false) k zs up.0, take_ascends k zs up.1)

    rising_front : (known : List Near) → nears ≡ take want (ordered_by near_cmp known) → Ascends near_cmp nears
    rising_front known is =
        subst (Ascends near_cmp) (sym is) (take_ascends want (ordered_by near_cmp known) (ordered_ascends near_cmp near_total known))

    -- Where members rise and the last is nearer, all are.
    each_nearer : (than : ℕ) (d n : Near) (ns : List Near) → Ascends near_cmp (n ∷ ns) → is_nearer than (get_or (n ∷ ns) (length ns) d) ≡ true
        → (is_nearer than n ≡ true) × (list_all (is_nearer than) (n ∷ ns) ≡ true)
    each_nearer than d n [] up h = (h, ap (λ b. b && true) h)
    each_nearer than d n (m ∷ ms) up h =
        let rest = each_nearer than d m ms up.1 h in
        let first : is_nearer than n ≡ true = nearer_bound than n m up.0.0 rest.0 in
        (first, ap (λ b. b && list_all (is_nearer than) (m ∷ ms)) first ∙ rest.1)

    all_nearer : (than : ℕ) (ns : List Near) → Ascends near_cmp ns → is_last_nearer than ns ≡ true → list_all (is_nearer than) ns ≡ true
    all_nearer than [] up h = refl
    all_nearer than (n ∷ ns) up h =
        let none : Near = record { slot = 0; square = 0 } in
        let at : length (n ∷ ns) - 1 ≡ length ns = omega arith in
        let last : is_nearer than (get_or (n ∷ ns) (length (n ∷ ns) - 1) none) ≡ true =
        subst (λ b. (b || is_nearer than (get_or (n ∷ ns) (length (n ∷ ns) - 1) none)) ≡ true) (some (length ns)) h in
        (each_nearer than none n ns up (subst (λ k. is_nearer than (get_or (n ∷ ns) k none) ≡ true) at last)).1
      where
        some : (k : ℕ) → nat_le (suc k) 0 ≡ false
        some k = grind (arith, nat_tests)

    -- Where there are enough, and the last is nearer than all others, these change nothing.
    others_far : (than : ℕ) → want ≤ length nears → is_last_nearer than nears ≡ true → (seen more : List (ℕ × Bounds))
        → nears ≡ take want (ordered_by near_cmp (seen_of bodies to seen)) → AreFar than more
        → nears ≡ take want (ordered_by near_cmp (seen_of bodies to (seen ++ more)))
    others_far than full last seen more nears_are far =
        let p = is_nearer than in
        let known = seen_of bodies to seen in
        let others = seen_of bodies to more in
        let none : filter p others ≡ [] = far_off than more far in
        let both : filter p (known ++ others) ≡ filter p known =
        filter-append p known others ∙ ap (λ l. filter p known ++ l) none ∙ append-nil (filter p known) in
        let order = ordered_by near_cmp known in
        let nearer : list_all p nears ≡ true = all_nearer than nears (rising_front known nears_are) last in
        let split : filter p order ≡ nears ++ filter p (drop want order) =
        sym (ap (filter p) (take-append-drop want order)) ∙ filter-append p (take want order) (drop want order)
        ∙ ap (λ l. filter p l ++ filter p (drop want order)) (sym nears_are) ∙ ap (λ l. l ++ filter p (drop want order)) (all_pass p nears nearer) in
        let count = ap length (filter_ordered near_cmp near_total p known) in
        let size = length_ordered near_cmp (filter p known) in
        let parts = ap length split ∙ length-append nears (filter p (drop want order)) in
        let enough : want ≤ length (filter p known) = omega arith in
        let enough_both : want ≤ length (filter p (known ++ others)) = subst (λ l. want ≤ length l) (sym both) enough in
        nears_are
        ∙ cut_front near_cmp near_total p (nearer_bound than) want known enough
        ∙ ap (λ l. take want (ordered_by near_cmp l)) (sym both)
        ∙ sym (cut_front near_cmp near_total p (nearer_bound than) want (known ++ others) enough_both)
        ∙ ap (λ l. take want (ordered_by near_cmp l)) (sym (seen_more seen more))

    farther : (hull : Bounds) (than : ℕ) → than ≡ square_apart to hull → is_passed want than nears ≡ true
        → (seen more : List (ℕ × Bounds)) → HasNearest bodies to want nears seen → AllByRecursion (λ e. encloses hull e.1 ≡ true) more
        → HasNearest bodies to want nears (seen ++ more)
    farther hull than is p seen more has far in_space =
        let parts = and_parts (nat_le want (length nears)) (is_last_nearer than nears) p in
        let full : want ≤ length nears = grind (arith, nat_tests, parts.0) in
        others_far than full parts.1 seen more (has (λ e c a. in_space e (Contains-append_left seen more e c) a))
        (far_within hull than is more far)

    pub passed : (hull : Bounds) (than : ℕ) → than ≡ square_apart to hull → is_passed want than nears ≡ true
        → (seen more : List (ℕ × Bounds)) → HasNearest bodies to want nears seen → All (λ e. encloses hull e.1 ≡ true) more
        → HasNearest bodies to want nears (seen ++ more)
    passed hull than is p seen more has far =
        farther hull than is p seen more has (recursion_from_All (λ e. encloses hull e.1 ≡ true) more far)

    -- the same of one box that was shown
    pub passed_itself : (e : ℕ × Bounds) (than : ℕ) → than ≡ square_apart to e.1 → is_passed want than nears ≡ true → encloses e.1 e.1 ≡ true
        → (seen : List (ℕ × Bounds)) → HasNearest bodies to want nears seen → HasNearest bodies to want nears (seen ++ e ∷ [])
    passed_itself e than is p itself seen has = farther e.1 than is p seen (e ∷ []) has (itself, tt)

    pub out_of_reach : meets space to ≡ true → (margin last : ℕ) → Reaches margin last → want ≤ length nears → is_last_nearer (suc last) nears ≡ true
        → (seen more : List (ℕ × Bounds)) → HasNearest bodies to want nears seen → All (λ e. meets (fattened to margin) e.1 ≡ false) more
        → HasNearest bodies to want nears (seen ++ more)
    out_of_reach here margin last r full nearer seen more has out in_space =
        others_far (suc last) full nearer seen more (has (λ e c a. in_space e (Contains-append_left seen more e c) a))
        (far_around here margin last r (seen ++ more) more in_space
        (of_more (λ e. meets (fattened to margin) e.1 ≡ false) seen more out))

    pub not_asked : (e : ℕ × Bounds) → contains_key bodies e.0 ≡ false → (seen : List (ℕ × Bounds)) → HasNearest bodies to want nears seen
        → HasNearest bodies to want nears (seen ++ e ∷ [])
    not_asked e out seen has in_space =
        has (λ f c a. in_space f (Contains-append_left seen (e ∷ []) f c) a)
        ∙ ap (λ l. take want (ordered_by near_cmp l))
        (sym (append-nil (seen_of bodies to seen)) ∙ ap (λ l. seen_of bodies to seen ++ l) (sym (none_asked (e ∷ []) (out, tt))) ∙ sym (seen_more seen (e ∷ [])))

    pub took_place : (now : List Near) (e : ℕ × Bounds) → contains_key bodies e.0 ≡ true → (Ascends near_cmp nears → now ≡ take want (placed near_cmp (seen_about to e) nears))
        → (seen : List (ℕ × Bounds)) → HasNearest bodies to want nears seen → HasNearest bodies to want now (seen ++ e ∷ [])
    took_place now e asked is seen has in_space =
        let near = seen_about to e in
        let known = seen_of bodies to seen in
        let one : seen_of bodies to (e ∷ []) ≡ near ∷ [] = ap (λ b. cond b (near ∷ []) []) asked in
        let nears_are : nears ≡ take want (ordered_by near_cmp known) = has (λ f c a. in_space f (Contains-append_left seen (e ∷ []) f c) a) in
        is (rising_front known nears_are)
        ∙ ap (λ l. take want (placed near_cmp near l)) nears_are
        ∙ take_placed want near (ordered_by near_cmp known)
        ∙ ap (take want) (sym (only_members near_cmp near_total (near ∷ known) (known ++ near ∷ []) (ties_one (near ∷ known))
        (IsPermutation-sym (known ++ near ∷ []) (near ∷ known) (IsPermutation-to_front known near))))
        ∙ ap (λ l. take want (ordered_by near_cmp l)) (ap (λ l. known ++ l) (sym one) ∙ sym (seen_more seen (e ∷ [])))

-- ---- all were shown

-- the greatest number of 128 bits
abbrev most : ℕ
most = 340282366920938463463374607431768211455

looked_at : (look : ℕ → Option Bounds) (es : List (ℕ × Bounds)) → Looked look es → (e : ℕ × Bounds) → Contains es e → look e.0 ≡ Some e.1
looked_at look [] l e (k, c, is) = absurd (omega arith)
looked_at look (x ∷ es) l e (zero, c, is) = subst (λ y. look y.0 ≡ Some y.1) is l.0
looked_at look (x ∷ es) l e (suc k, c, is) = looked_at look es l.1 e (k, omega arith, is)

module _ (to : Bounds) (bodies index : FinMap nat_cmp Bounds) (here : meets space to ≡ true) (in_space : AreInSpace bodies) (among : AreAmong bodies index) where
  -- the box of a slot that is asked for is the index's
  one_box : (e : ℕ × Bounds) → get index e.0 ≡ Some e.1 → (b : Bounds) → get bodies e.0 ≡ Some b → b ≡ e.1
  one_box e l b h = let same : Some b ≡ Some e.1 = sym (among e.0 b h) ∙ l in cc

  all_in_space : LieInSpace bodies (entries index)
  all_in_space e c a = by_box (get bodies e.0) refl a
    where
      by_box : (o : Option Bounds) → get bodies e.0 ≡ o → is_some o ≡ true → meets space e.1 ≡ true
      by_box None h a = absurd (false≢true a)
      by_box (Some b) h a =
          subst (λ x. meets space x ≡ true) (one_box e (looked_at (get index) (entries index) (looked_in index) e c) b h) (in_space e.0 b h)

  le_most : (a : ℕ) → a ≤ most → nat_le a most ≡ true
  le_most a h = grind (arith, nat_tests)

  one_slot : (e : ℕ × Bounds) → get index e.0 ≡ Some e.1 → (known : List Near) (others : List Near) → known ≡ others → (o : Option Bounds) → get bodies e.0 ≡ o
      → cond (is_some (get bodies e.0)) (seen_about to e ∷ known) known ≡ cons_option (within_of to most e.0 (get bodies e.0)) others
  one_slot e l known others rest None h = rw h rest
  one_slot e l known others rest (Some b) h =
      let near : nat_le (square_apart to b) most ≡ true = le_most (square_apart to b) (all_near to here b (in_space e.0 b h)) in
      let same : square_apart to e.1 ≡ square_apart to b = ap (square_apart to) (sym (one_box e l b h)) in
      rw h (rw near (λ i. record { slot = e.0; square = same i } ∷ rest i))

  by_slots : (es : List (ℕ × Bounds)) → Looked (get index) es → seen_of bodies to es ≡ filter_map (within bodies to most) (map (λ e. e.0) es)
  by_slots [] l = refl
  by_slots (e ∷ es) l =
      one_slot e l.0 (seen_of bodies to es) (filter_map (within bodies to most) (map (λ e. e.0) es)) (by_slots es l.1) (get bodies e.0) refl

  have : (k : ℕ) → is_some (within bodies to most k) ≡ true → has_slot (present index) k ≡ true
  have k h = has_slots index k (by_box (get bodies k) refl (there to most k (get bodies k) h))
    where
      by_box : (o : Option Bounds) → get bodies k ≡ o → is_some o ≡ true → is_some (get index k) ≡ true
      by_box None e a = absurd (false≢true a)
      by_box (Some b) e a = ap is_some (among k b e)

  pub all_seen : (want : ℕ) (nears : List Near) → HasNearest bodies to want nears (entries index) → nears ≡ nearest_about bodies to want
  all_seen want nears has =
      has all_in_space
      ∙ ap (λ l. take want (ordered_by near_cmp l))
      (by_slots (entries index) (looked_in index) ∙ gathered to most bodies (present index) (slots_up index) have ∙ all_gathered to bodies here in_space)

pub none_seen : (want : ℕ) → take want (ordered_by near_cmp []) ≡ []
none_seen zero = refl
none_seen (suc n) = refl
