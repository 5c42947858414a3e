-- What a group finds beside slots that are done was found from these already.
use Rattle.std.proofs.Common.{◌≡◌, ℕ, zero, suc, ◌<◌, Bool, true, false, not, cond, ◌||◌, ◌==◌, Option, None, Some, List, [], ◌∷◌, ◌++◌}
use Rattle.std.proofs.Common.{length, map, replicate, get_or, refl, sym, ap, ◌∙◌, subst, arith, inl, inr, ⊎_elim, ◌⊎◌}
use Rattle.std.specs.List.{Contains}
use Rattle.std.proofs.lemmas.Bool.{or_cases, eqb-true}
use Rattle.fixed_box.specs.Bounds.{Bounds, meets}
use Rattle.slot_lists.specs.SlotMap.{map_of}
use Rattle.slot_lists.specs.SlotMapLaws.{get_map}
use Rattle.broad_index.specs.declared.pair.Pair.{Pair}
use Rattle.broad_index.specs.Held.{Holds}
use Rattle.std.proofs.lemmas.List.Folds.{list_any-append}
use Rattle.broad_index.specs.Members.{has_pair, same_pair, has_slot}
use Rattle.slot_lists.specs.Marks.{unmarked}
use Rattle.tree_search.specs.Crossed.{crossed, touched_of, Adds, AreOf}
use Rattle.tree_search.specs.Group.{undone}
use Rattle.tree_search.proofs.CrossedPairs.{hit, any_row, any_cross, crossed_has, crossed_either}
use Rattle.fixed_box.proofs.Bools.{or_assoc}
use Rattle.fixed_box.proofs.Bools.{or_true, or_swap}

or_late : (a b c : Bool) → (b || c) ≡ true → ((a || b) || c) ≡ true
or_late true b c e = refl
or_late false b c e = e

-- each entry of some is one of others
abbrev AllIn : List (ℕ × Bounds) → List (ℕ × Bounds) → Type 0
AllIn es [] = Unit {0}
AllIn es (g ∷ gs) = Contains es g × AllIn es gs

-- each entry that is done now was done before, or is one of a group
abbrev AllFrom : List Bool → List Bool → List (ℕ × Bounds) → List (ℕ × Bounds) → Type 0
AllFrom old new gs [] = Unit {0}
AllFrom old new gs (x ∷ xs) = (get_or new x.0 false ≡ true → (get_or old x.0 false ≡ true) ⊎ Contains gs x) × AllFrom old new gs xs

module _ (p : Pair) where
  -- an entry that is there and is hit
  row_at : (x e : ℕ × Bounds) (es : List (ℕ × Bounds)) (i : ℕ) → i < length es → get_or es i e ≡ e → hit p x e ≡ true → any_row p x es ≡ true
  row_at x e [] i lt is h = absurd (omega arith)
  row_at x e (y ∷ es) zero lt is h = ap (λ b. b || any_row p x es) (subst (λ (z : ℕ × Bounds). hit p x z ≡ true) (sym is) h)
  row_at x e (y ∷ es) (suc i) lt is h = ap (λ b. hit p x y || b) (row_at x e es i (omega arith) is h) ∙ or_true (hit p x y)

  cross_at : (x : ℕ × Bounds) (xs es : List (ℕ × Bounds)) (i : ℕ) → i < length xs → get_or xs i x ≡ x → any_row p x es ≡ true → any_cross p xs es ≡ true
  cross_at x [] es i lt is h = absurd (omega arith)
  cross_at x (y ∷ xs) es zero lt is h = ap (λ b. b || any_cross p xs es) (subst (λ (z : ℕ × Bounds). any_row p z es ≡ true) (sym is) h)
  cross_at x (y ∷ xs) es (suc i) lt is h = ap (λ b. any_row p y es || b) (cross_at x xs es i (omega arith) is h) ∙ or_true (any_row p y es)

  -- what is hit among some is hit among more
  row_more : (x : ℕ × Bounds) (gs es : List (ℕ × Bounds)) → AllIn es gs → any_row p x gs ≡ true → any_row p x es ≡ true
  row_more x [] es there h = cc
  row_more x (g ∷ gs) es there h =
      ⊎_elim (row_at x g es there.0.0 there.0.1 there.0.2) (row_more x gs es there.1) (or_cases (hit p x g) (any_row p x gs) h)

  cross_more_in : (xs gs es : List (ℕ × Bounds)) → AllIn es gs → any_cross p xs gs ≡ true → any_cross p xs es ≡ true
  cross_more_in [] gs es there h = cc
  cross_more_in (x ∷ xs) gs es there h =
      ⊎_elim (λ a. ap (λ b. b || any_cross p xs es) (row_more x gs es there a))
      (λ a. ap (λ b. any_row p x es || b) (cross_more_in xs gs es there a) ∙ or_true (any_row p x es))
      (or_cases (any_row p x gs) (any_cross p xs gs) h)

  -- each entry is done or not
  cross_split : (done : List Bool) (gs xs : List (ℕ × Bounds))
      → any_cross p xs gs ≡ (any_cross p (undone done xs) gs || any_cross p (touched_of done xs) gs)
  cross_split done gs [] = refl
  cross_split done gs (x ∷ xs) =
      ap (λ b. any_row p x gs || b) (cross_split done gs xs)
      ∙ (elim (get_or done x.0 false) as
      (λ d. (any_row p x gs || (any_cross p (undone done xs) gs || any_cross p (touched_of done xs) gs))
      ≡ (any_cross p (cond (not d) (x ∷ undone done xs) (undone done xs)) gs || any_cross p (cond d (x ∷ touched_of done xs) (touched_of done xs)) gs)) [
        | true ↦ or_swap (any_row p x gs) (any_cross p (undone done xs) gs) (any_cross p (touched_of done xs) gs)
        | false ↦ sym (or_assoc (any_row p x gs) (any_cross p (undone done xs) gs) (any_cross p (touched_of done xs) gs))
      ])

  -- and where more are done, each of these is one that was done or one of the group
  cross_done : (old new : List Bool) (gs es xs : List (ℕ × Bounds)) → AllFrom old new gs xs → any_cross p (touched_of new xs) es ≡ true
      → (any_cross p (touched_of old xs) es || any_cross p gs es) ≡ true
  cross_done old new gs es [] from h = cc
  cross_done old new gs es (x ∷ xs) from h =
      by_mark (get_or new x.0 false) refl (subst (λ b. any_cross p (cond b (x ∷ touched_of new xs) (touched_of new xs)) es ≡ true) refl h)
      (cross_done old new gs es xs from.1)
    where
      later : (d : Bool) → (any_cross p (touched_of old xs) es || any_cross p gs es) ≡ true
          → (any_cross p (cond d (x ∷ touched_of old xs) (touched_of old xs)) es || any_cross p gs es) ≡ true
      later true e = or_late (any_row p x es) (any_cross p (touched_of old xs) es) (any_cross p gs es) e
      later false e = e

      here : (any_row p x es ≡ true) → ((get_or old x.0 false ≡ true) ⊎ Contains gs x)
          → (any_cross p (touched_of old (x ∷ xs)) es || any_cross p gs es) ≡ true
      here row (inl was) =
          ap (λ d. any_cross p (cond d (x ∷ touched_of old xs) (touched_of old xs)) es || any_cross p gs es) was
          ∙ ap (λ b. (b || any_cross p (touched_of old xs) es) || any_cross p gs es) row
      here row (inr c) =
          ap (λ b. any_cross p (touched_of old (x ∷ xs)) es || b) (cross_at x gs es c.0 c.1 c.2 row) ∙ or_true (any_cross p (touched_of old (x ∷ xs)) es)

      by_mark : (d : Bool) → get_or new x.0 false ≡ d → any_cross p (cond d (x ∷ touched_of new xs) (touched_of new xs)) es ≡ true
          → (any_cross p (touched_of new xs) es ≡ true → (any_cross p (touched_of old xs) es || any_cross p gs es) ≡ true)
          → (any_cross p (touched_of old (x ∷ xs)) es || any_cross p gs es) ≡ true
      by_mark true e h later_done =
          ⊎_elim (λ row. here row (from.0 e)) (λ rest. later (get_or old x.0 false) (later_done rest))
          (or_cases (any_row p x es) (any_cross p (touched_of new xs) es) h)
      by_mark false e h later_done = later (get_or old x.0 false) (later_done h)

module _ (bodies : List (Option Bounds)) where
  -- the entries of slots with boxes are among all
  pub all_in : (es : List (ℕ × Bounds)) → Holds (map_of bodies) es → (gs : List (ℕ × Bounds)) → AreOf bodies gs → AllIn es gs
  all_in es held [] own = tt
  all_in es held (g ∷ gs) own = (held.whole g.0 g.1 (get_map bodies g.0 ∙ own.0), all_in es held gs own.1)

  -- a slot has one entry
  own_entry : (x : ℕ × Bounds) (gs : List (ℕ × Bounds)) → AreOf bodies gs → get_or bodies x.0 None ≡ Some x.1
      → has_slot (map (λ (e : ℕ × Bounds). e.0) gs) x.0 ≡ true → Contains gs x
  own_entry x [] own e h = cc
  own_entry x (g ∷ gs) own e h =
      ⊎_elim
      (λ same.
      let slot : x.0 ≡ g.0 = eqb-true x.0 g.0 same in
      let some : Some g.1 ≡ Some x.1 = sym own.0 ∙ ap (λ k. get_or bodies k None) (sym slot) ∙ e in
      (0, omega arith, same_entry g x (sym slot) (some_same g.1 x.1 some)))
      (λ rest. let c = own_entry x gs own.1 e rest in (suc c.0, omega arith, c.2))
      (or_cases (x.0 == g.0) (has_slot (map (λ (y : ℕ × Bounds). y.0) gs) x.0) h)
    where
      same_entry : (a b : ℕ × Bounds) → a.0 ≡ b.0 → a.1 ≡ b.1 → a ≡ b
      same_entry a b e0 e1 = ap (λ k. (k, a.1)) e0 ∙ ap (λ d. (b.0, d)) e1

      some_same : (a b : Bounds) → Some a ≡ Some b → a ≡ b
      some_same a b h = cc

  all_from : (old new : List Bool) (gs : List (ℕ × Bounds)) → AreOf bodies gs
      → ((k : ℕ) → get_or new k false ≡ true → (get_or old k false || has_slot (map (λ (e : ℕ × Bounds). e.0) gs) k) ≡ true)
      → (xs : List (ℕ × Bounds)) → AreOf bodies xs → AllFrom old new gs xs
  all_from old new gs own marked [] are = tt
  all_from old new gs own marked (x ∷ xs) are = (
    λ h. ⊎_elim (λ was. inl was) (λ slot. inr (own_entry x gs own are.0 slot))
        (or_cases (get_or old x.0 false) (has_slot (map (λ (e : ℕ × Bounds). e.0) gs) x.0) (marked x.0 h)),
    all_from old new gs own marked xs are.1,
  )

  module _ (es : List (ℕ × Bounds)) (held : Holds (map_of bodies) es) (own : AreOf bodies es)
      (either_way : (a b : Bounds) → meets a b ≡ meets b a) (done : List Bool) (group : List (ℕ × Bounds)) (are : AreOf bodies group) (old new : List Pair)
      (older : (p : Pair) → has_pair (crossed es (touched_of done es)) p ≡ true → has_pair old p ≡ true)
      (found : new ≡ old ++ crossed group (undone done es)) where
    -- a group adds its pairs
    pub group_adds : Adds old new (crossed es group)
    group_adds p =
        ap (λ ps. has_pair ps p) found ∙ list_any-append (same_pair p) old (crossed group (undone done es))
        ∙ absorbed (has_pair old p) (has_pair (crossed group (undone done es)) p) (has_pair (crossed group (touched_of done es)) p)
        (λ h. older p (crossed_has p es (touched_of done es)
        ∙ cross_more_in p (touched_of done es) group es (all_in es held group are) (sym (crossed_has p group (touched_of done es)) ∙ h)))
        ∙ ap (λ b. has_pair old p || b)
        (sym (crossed_either p either_way es group ∙ crossed_has p group es ∙ cross_split p done group es
        ∙ ap (λ b. b || any_cross p (touched_of done es) group) (sym (crossed_has p group (undone done es)))
        ∙ ap (λ b. has_pair (crossed group (undone done es)) p || b) (sym (crossed_has p group (touched_of done es)))))
      where
        absorbed : (o u d : Bool) → (d ≡ true → o ≡ true) → (o || u) ≡ (o || (u || d))
        absorbed true u d h = refl
        absorbed false true d h = refl
        absorbed false false true h = h refl
        absorbed false false false h = refl

    -- and then its slots are done
    pub group_done : (marks : List Bool)
        → ((k : ℕ) → get_or marks k false ≡ true → (get_or done k false || has_slot (map (λ (e : ℕ × Bounds). e.0) group) k) ≡ true)
        → (p : Pair) → has_pair (crossed es (touched_of marks es)) p ≡ true → has_pair new p ≡ true
    group_done marks marked p h =
        group_adds p
        ∙ ⊎_elim
        (λ was. ap (λ b. b || has_pair (crossed es group) p) (older p (crossed_has p es (touched_of done es) ∙ was)))
        (λ now. ap (λ b. has_pair old p || b) (crossed_has p es group ∙ now) ∙ or_true (has_pair old p))
        (or_cases (any_cross p (touched_of done es) es) (any_cross p group es)
        (cross_done p done marks group es es (all_from done marks group are marked es own) (sym (crossed_has p es (touched_of marks es)) ∙ h)))

-- Where none is done, no pair is owed.
none_older : (es : List (ℕ × Bounds)) (done : List Bool) → ((k : ℕ) → get_or done k false ≡ false) → (xs : List (ℕ × Bounds))
    → touched_of done xs ≡ []
none_older es done none [] = refl
none_older es done none (x ∷ xs) = ap (λ d. cond d (x ∷ touched_of done xs) (touched_of done xs)) (none x.0) ∙ none_older es done none xs

-- the front and the back of a list of entries
pub own_front : (bodies : List (Option Bounds)) (gs more rest : List (ℕ × Bounds)) → gs ++ more ≡ rest → AreOf bodies rest → AreOf bodies gs
own_front bodies gs more rest e own = at gs (subst (AreOf bodies) (sym e) own)
  where
    at : (xs : List (ℕ × Bounds)) → AreOf bodies (xs ++ more) → AreOf bodies xs
    at [] are = tt
    at (x ∷ xs) are = (are.0, at xs are.1)

pub own_back : (bodies : List (Option Bounds)) (gs more rest : List (ℕ × Bounds)) → gs ++ more ≡ rest → AreOf bodies rest → AreOf bodies more
own_back bodies gs more rest e own = at gs (subst (AreOf bodies) (sym e) own)
  where
    at : (xs : List (ℕ × Bounds)) → AreOf bodies (xs ++ more) → AreOf bodies more
    at [] are = are
    at (x ∷ xs) are = at xs are.1

blank : (n k : ℕ) → get_or (replicate n false) k false ≡ false
blank zero k = refl
blank (suc n) zero = refl
blank (suc n) (suc k) = blank n k

pub none_marked : (done : List Bool) → done ≡ unmarked → (k : ℕ) → get_or done k false ≡ false
none_marked done e k = ap (λ ms. get_or ms k false) e ∙ blank 8192 k

-- no list of no pair has one
pub nothing_owed : (es : List (ℕ × Bounds)) (done : List Bool) → ((k : ℕ) → get_or done k false ≡ false) → (old : List Pair) (p : Pair)
    → has_pair (crossed es (touched_of done es)) p ≡ true → has_pair old p ≡ true
nothing_owed es done none old p h = let e : false ≡ true = sym (ap (λ xs. has_pair (crossed es xs) p) (none_older es done none es)) ∙ h in cc
