-- What is shown to a visitor area by area is all, in some order.
use Rattle.std.proofs.Common.{◌≡◌, ℕ, Bool, true, false, cond, not, ◌&&◌, List, [], ◌∷◌, ◌++◌, Option, Some, append_assoc, append-nil, refl, sym, ap, subst, ◌∙◌, inl, inr}
use Rattle.std.specs.List.{All, AllByRecursion, filter}
use Rattle.std.specs.List.Sorted.{IsPermutation}
use Rattle.std.specs.Ordering.{nat_cmp}
use Rattle.std.specs.FinMap.{FinMap, entries, get}
use Rattle.std.proofs.lemmas.Bool.{cases_Bool, false≢true, true≢false, and_parts, and_from}
use Rattle.std.proofs.lemmas.List.Elements.{All-from_recursion}
use Rattle.std.proofs.lemmas.List.Sorted.{IsPermutation-sym, IsPermutation-trans, IsPermutation-refl, IsPermutation-append, IsPermutation-append_comm, IsPermutation-filter_both}
use Rattle.fixed_box.specs.Bounds.{Bounds, encloses, meets}
use Rattle.fixed_box.specs.Point.{is_at_most}
use Rattle.fixed_box.proofs.Corners.{at_most_chain}
use Rattle.broad_index.specs.MapEntries.{Looked, looked_in}
use Rattle.hier_grid.specs.Visits.{entries_in}

-- ---- filters
module _ {X : Type 0} where
  pub filter_and : (p q : X → Bool) (xs : List X) → filter q (filter p xs) ≡ filter (λ x. p x && q x) xs
  filter_and p q [] = refl
  filter_and p q (x ∷ xs) = elim (p x) as (λ b. filter q (cond b (x ∷ filter p xs) (filter p xs)) ≡ cond (b && q x) (x ∷ filter (λ x. p x && q x) xs) (filter (λ x. p x && q x) xs)) [
    | true ↦ ap (λ l. cond (q x) (x ∷ l) l) (filter_and p q xs)
    | false ↦ filter_and p q xs
  ]

  -- the same test on each element
  pub filter_same : (p q : X → Bool) → ((x : X) → p x ≡ q x) → (xs : List X) → filter p xs ≡ filter q xs
  filter_same p q same xs = ap (λ f. filter f xs) (λ i x. same x i)

  pub filter_all : (p : X → Bool) → ((x : X) → p x ≡ true) → (xs : List X) → filter p xs ≡ xs
  filter_all p all [] = refl
  filter_all p all (x ∷ xs) = ap (λ b. cond b (x ∷ filter p xs) (filter p xs)) (all x) ∙ ap (λ l. x ∷ l) (filter_all p all xs)

  -- those that fail a test, then those that pass it
  pub parted : (p : X → Bool) (seen xs : List X) → IsPermutation ((seen ++ filter (λ x. not (p x)) xs) ++ filter p xs) (seen ++ xs)
  parted p seen xs =
      let out = filter (λ x. not (p x)) xs in
      let kept = filter p xs in
      subst (λ l. IsPermutation l (seen ++ xs)) (sym (append_assoc seen out kept))
      (IsPermutation-append seen seen (out ++ kept) xs (IsPermutation-refl seen)
      (IsPermutation-trans (out ++ kept) (kept ++ out) xs (IsPermutation-append_comm out kept)
      (IsPermutation-sym xs (kept ++ out) (IsPermutation-filter_both p (λ x. not (p x)) (λ _. refl) xs))))

-- ---- entries of a map
all_left : (look : ℕ → Option Bounds) (p has : ℕ × Bounds → Bool) (F : ℕ × Bounds → Type 0)
    → ((e : ℕ × Bounds) → look e.0 ≡ Some e.1 → p e ≡ true → has e ≡ false → F e) → (es : List (ℕ × Bounds)) → Looked look es
    → AllByRecursion F (filter (λ e. not (has e)) (filter p es))
all_left look p has F h [] l = tt
all_left look p has F h (e ∷ es) l =
    let left : List (ℕ × Bounds) → List (ℕ × Bounds) = λ xs. filter (λ e. not (has e)) xs in
    let rest : AllByRecursion F (left (filter p es)) = all_left look p has F h es l.1 in
    elim (cases_Bool (p e)) as (λ _. AllByRecursion F (left (cond (p e) (e ∷ filter p es) (filter p es)))) [
      | inl t ↦ subst (λ b. AllByRecursion F (left (cond b (e ∷ filter p es) (filter p es)))) (sym t)
          (elim (cases_Bool (has e)) as (λ _. AllByRecursion F (cond (not (has e)) (e ∷ left (filter p es)) (left (filter p es)))) [
            | inl u ↦ subst (λ b. AllByRecursion F (cond (not b) (e ∷ left (filter p es)) (left (filter p es)))) (sym u) rest
            | inr f ↦ subst (λ b. AllByRecursion F (cond (not b) (e ∷ left (filter p es)) (left (filter p es)))) (sym f) (h e l.0 t f, rest)
          ])
      | inr f ↦ subst (λ b. AllByRecursion F (left (cond b (e ∷ filter p es) (filter p es)))) (sym f) rest
    ]

-- those of an area that weren't found
pub left_in : (bodies : FinMap nat_cmp Bounds) (p : Bounds → Bool) (has : ℕ × Bounds → Bool) (F : ℕ × Bounds → Type 0)
    → ((e : ℕ × Bounds) → get bodies e.0 ≡ Some e.1 → p e.1 ≡ true → has e ≡ false → F e) → All F (filter (λ e. not (has e)) (entries_in p bodies))
left_in bodies p has F h = All-from_recursion F (filter (λ e. not (has e)) (entries_in p bodies))
    (all_left (get bodies) (λ e. p e.1) has F h (entries bodies) (looked_in bodies))

all_pass : (p : ℕ × Bounds → Bool) (es : List (ℕ × Bounds)) → AllByRecursion (λ e. p e ≡ true) (filter p es)
all_pass p [] = tt
all_pass p (e ∷ es) = elim (cases_Bool (p e)) as (λ _. AllByRecursion (λ e. p e ≡ true) (cond (p e) (e ∷ filter p es) (filter p es))) [
  | inl t ↦ subst (λ b. AllByRecursion (λ e. p e ≡ true) (cond b (e ∷ filter p es) (filter p es))) (sym t) (t, all_pass p es)
  | inr f ↦ subst (λ b. AllByRecursion (λ e. p e ≡ true) (cond b (e ∷ filter p es) (filter p es))) (sym f) (all_pass p es)
]

pub pass_all : (p : Bounds → Bool) (bodies : FinMap nat_cmp Bounds) → All (λ (e : ℕ × Bounds). p e.1 ≡ true) (entries_in p bodies)
pass_all p bodies = All-from_recursion (λ (e : ℕ × Bounds). p e.1 ≡ true) (entries_in p bodies) (all_pass (λ e. p e.1) (entries bodies))

none_passes : (look : ℕ → Option Bounds) (p : Bounds → Bool) → ((k : ℕ) (b : Bounds) → look k ≡ Some b → p b ≡ false) → (es : List (ℕ × Bounds))
    → Looked look es → filter (λ (e : ℕ × Bounds). p e.1) es ≡ []
none_passes look p h [] l = refl
none_passes look p h (e ∷ es) l =
    ap (λ b. cond b (e ∷ filter (λ (e : ℕ × Bounds). p e.1) es) (filter (λ (e : ℕ × Bounds). p e.1) es)) (h e.0 e.1 l.0) ∙ none_passes look p h es l.1

pub none_in : (p : Bounds → Bool) (bodies : FinMap nat_cmp Bounds) → ((k : ℕ) (b : Bounds) → get bodies k ≡ Some b → p b ≡ false) → entries_in p bodies ≡ []
none_in p bodies h = none_passes (get bodies) p h (entries bodies) (looked_in bodies)

pub all_in : (bodies : FinMap nat_cmp Bounds) → entries_in (λ _. true) bodies ≡ entries bodies
all_in bodies = filter_all (λ _. true) (λ _. refl) (entries bodies)

-- ---- what was seen of one area, then of the next
module _ (bodies : FinMap nat_cmp Bounds) (before now : List (ℕ × Bounds) → Type 0) where
  abbrev pub Saw : (Bounds → Bool) → Type 0
  Saw p = (seen : List (ℕ × Bounds)) → before seen → now (seen ++ entries_in p bodies)

pub saw_more : (bodies : FinMap nat_cmp Bounds) (before now then : List (ℕ × Bounds) → Type 0) (p area q : Bounds → Bool)
    → ((seen other : List (ℕ × Bounds)) → IsPermutation seen other → then seen → then other)
    → ((b : Bounds) → (q b && not (not (p b))) ≡ p b) → ((b : Bounds) → (q b && not (p b)) ≡ area b)
    → Saw bodies before now p → Saw bodies now then area → Saw bodies before then q
saw_more bodies before now then p area q order old new first second seen b =
    let es = entries bodies in
    let qs = entries_in q bodies in
    let out : filter (λ e. not (not (p e.1))) qs ≡ entries_in p bodies =
    filter_and (λ e. q e.1) (λ e. not (not (p e.1))) es ∙ filter_same (λ e. q e.1 && not (not (p e.1))) (λ e. p e.1) (λ e. old e.1) es in
    let more : filter (λ e. not (p e.1)) qs ≡ entries_in area bodies =
    filter_and (λ e. q e.1) (λ e. not (p e.1)) es ∙ filter_same (λ e. q e.1 && not (p e.1)) (λ e. area e.1) (λ e. new e.1) es in
    order ((seen ++ entries_in p bodies) ++ entries_in area bodies) (seen ++ qs)
    (subst (λ l. IsPermutation ((seen ++ l) ++ entries_in area bodies) (seen ++ qs)) out
    (subst (λ l. IsPermutation ((seen ++ filter (λ e. not (not (p e.1))) qs) ++ l) (seen ++ qs)) more (parted (λ e. not (p e.1)) seen qs)))
    (second (seen ++ entries_in p bodies) (first seen b))

-- ---- tests of boxes
pub twice_not : (a : Bool) → (true && not (not a)) ≡ a
twice_not true = refl
twice_not false = refl

-- what lies inside was seen before
pub inner_left : (outer inner : Bool) → (inner ≡ true → outer ≡ true) → (outer && not (not inner)) ≡ inner
inner_left outer true h = ap (λ b. b && true) (h refl)
inner_left true false h = refl
inner_left false false h = refl

-- what doesn't lie in what was left, where what is left now lies in that
pub left_before : (body left : Bool) → (left ≡ true → body ≡ true) → (not left && not (not (not body))) ≡ not body
left_before true true h = refl
left_before true false h = refl
left_before false true h = absurd (false≢true (h refl))
left_before false false h = refl

pub left_now : (body left : Bool) → (not left && not (not body)) ≡ (body && not left)
left_now true true = refl
left_now true false = refl
left_now false true = refl
left_now false false = refl

pub last_part : (body : Bool) → (true && not (not body)) ≡ (body && not false)
last_part true = refl
last_part false = refl

-- what isn't among those that were found doesn't meet what they were sought by
pub missed_by : (meets has : Bool) → has ≡ false → (meets ≡ true → has ≡ true) → meets ≡ false
missed_by true has f h = absurd (true≢false (sym (h refl) ∙ f))
missed_by false has f h = refl

-- nothing was shown yet
pub saw_none : (bodies : FinMap nat_cmp Bounds) (before : List (ℕ × Bounds) → Type 0) (p : Bounds → Bool)
    → ((k : ℕ) (b : Bounds) → get bodies k ≡ Some b → p b ≡ false) → Saw bodies before before p
saw_none bodies before p h seen b = subst before (sym (ap (λ l. seen ++ l) (none_in p bodies h) ∙ append-nil seen)) b

-- what is left counts as seen
pub saw_all : (bodies : FinMap nat_cmp Bounds) (before now then : List (ℕ × Bounds) → Type 0) (p area : Bounds → Bool)
    → ((seen other : List (ℕ × Bounds)) → IsPermutation seen other → then seen → then other) → ((b : Bounds) → (true && not (p b)) ≡ area b)
    → Saw bodies before now p → Saw bodies now then area → (seen : List (ℕ × Bounds)) → before seen → then (seen ++ entries bodies)
saw_all bodies before now then p area order new first second seen b =
    subst (λ es. then (seen ++ es)) (all_in bodies)
    (saw_more bodies before now then p area (λ _. true) order (λ b. twice_not (p b)) new first second seen b)

-- a box meets what it lies in
pub held_meets : (body b : Bounds) → is_at_most b.lo b.hi ≡ true → encloses body b ≡ true → meets body b ≡ true
held_meets body b o e =
    let held = and_parts (is_at_most body.lo b.lo) (is_at_most b.hi body.hi) e in
    and_from (is_at_most body.lo b.hi) (is_at_most b.lo body.hi) (at_most_chain body.lo b.lo b.hi held.0 o) (at_most_chain b.lo b.hi body.hi o held.1)

pub not_was : (a : Bool) → not a ≡ true → a ≡ false
not_was true h = absurd (false≢true h)
not_was false h = refl
