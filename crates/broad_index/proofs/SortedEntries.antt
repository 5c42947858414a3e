-- Entries in order of their slots, the map that they are, and the place of a slot among them.
use Rattle.std.proofs.Common.{◌≡◌, ℕ, zero, suc, ◌+◌, ◌<◌, ◌≤◌, Bool, true, false, cond, T, ◌&&◌, List, [], ◌∷◌, length, get_or, set, insert, remove, not, None}
use Rattle.std.proofs.Common.{is_some, Some, refl, sym, ap, ◌∙◌, subst, arith, nat_lt}
use Rattle.std.specs.Ordering.{nat_cmp, is_lt, is_eq, eq_by_cmp}
use Rattle.std.specs.declared.cmp.Ordering.{Ordering}
use Rattle.std.specs.declared.cmp.Ordering.TheVariants.{Less, Equal, Greater}
use Rattle.std.specs.Cmp.{ranked, nat_cmp_is, eq_by_cmp_equiv, alike_right}
use Rattle.std.specs.List.{AllWithin}
use Rattle.std.specs.List.Sorted.{IsPartitionedBy}
use Rattle.std.specs.FinMap.{entries, entries-insert, entries-from_sorted, from_sorted, is_sorted, find, empty, remove as remove_key, get-remove, same_map}
use Rattle.std.specs.FinMap.{nat_cmp-IsAntisymmetric, empty_of_len, len-entries, same_entries_map, contains_key, get-from_sorted, insert as insert_key}
use Rattle.std.specs.FinMap.Entries.{put, below_all, is_sorted-put, where_key, is_sorted-where_key, find-where_key}
use Rattle.std.proofs.lemmas.Cmp.{nat_cmp_total}
use Rattle.std.proofs.lemmas.Bool.Decides.{nat_tests}
use Rattle.fixed_box.proofs.Bools.{cond_not}

both_from : (a b : Bool) → T (a && b) → T a × T b
both_from true b h = (tt, h)
both_from false b h = absurd h

lt_from : (x y : ℕ) → T (is_lt (nat_cmp x y)) → x < y
lt_from x y h =
    elim (nat_cmp x y) as
    (λ r. r ≡ nat_cmp x y → T (is_lt r) → x < y) [ Less ↦ λ e _. ranked x y Less e | Equal ↦ λ _ h. absurd h | Greater ↦ λ _ h. absurd h ] refl h

after : (k x : ℕ) → nat_lt x k ≡ true → nat_cmp k x ≡ Greater
after k x lt = let below : x < k = grind (arith, nat_tests) in sym (nat_cmp_is k x Greater below)

before : (k x : ℕ) → nat_lt x k ≡ false → eq_by_cmp nat_cmp k x ≡ false → nat_cmp k x ≡ Less
before k x lt ne =
    elim (nat_cmp k x) as (λ r. r ≡ nat_cmp k x → is_eq r ≡ false → r ≡ Less) [
      | Less ↦ λ _ _. refl
      | Equal ↦ λ _ ne. absurd (cc)
      | Greater ↦ λ e _. absurd (let below : x < k = ranked k x Greater e in grind (arith, nat_tests))
    ] refl ne

-- all keys but one
abbrev other_than : ℕ → ℕ → Bool
other_than k x = not (eq_by_cmp nat_cmp k x)

same_tie : (k q : ℕ) → eq_by_cmp nat_cmp k q ≡ eq_by_cmp nat_cmp q k
same_tie k q = (eq_by_cmp_equiv nat_cmp_total).symm k q

module _ {X : Type 0} where
  below_at : (x : ℕ) (es : List (ℕ × X)) → T (below_all nat_cmp x es) → (j : ℕ) (d : ℕ × X) → j < length es → x < (get_or es j d).0
  below_at x [] h j d l = absurd (omega arith)
  below_at x (e ∷ es) h zero d l = lt_from x e.0 (both_from _ _ h).0
  below_at x (e ∷ es) h (suc j) d l = below_at x es (both_from _ _ h).1 j d (omega arith)

  -- the slots rise along the entries
  slots_rise : (es : List (ℕ × X)) → T (is_sorted nat_cmp es) → (i j : ℕ) (d : ℕ × X) → i ≤ j → j < length es → (get_or es i d).0 ≤ (get_or es j d).0
  slots_rise [] h i j d le l = absurd (omega arith)
  slots_rise (e ∷ es) h zero zero d le l = omega arith
  slots_rise (e ∷ es) h zero (suc j) d le l = let lt : e.0 < (get_or es j d).0 = below_at e.0 es (both_from _ _ h).0 j d (omega arith) in omega arith
  slots_rise (e ∷ es) h (suc i) zero d le l = absurd (omega arith)
  slots_rise (e ∷ es) h (suc i) (suc j) d le l = slots_rise es (both_from _ _ h).1 i j d (omega arith) (omega arith)

  -- so those below a slot stand before the others
  pub partitioned : (es : List (ℕ × X)) (k : ℕ) → T (is_sorted nat_cmp es) → IsPartitionedBy (λ e. nat_lt e.0 k) es
  partitioned es k h i j d le l below = let rise : (get_or es i d).0 ≤ (get_or es j d).0 = slots_rise es h i j d le l in grind (arith, nat_tests)

  -- an entry whose slot is absent goes in where those below it end
  pub insert_is_put : (es : List (ℕ × X)) (k : ℕ) (v : X) (i : ℕ) → is_some (find nat_cmp k es) ≡ false → i ≤ length es
      → AllWithin (λ e. nat_lt e.0 k ≡ true) es 0 i → AllWithin (λ e. nat_lt e.0 k ≡ false) es i (length es) → insert es i (k, v) ≡ put nat_cmp k v es
  insert_is_put [] k v zero absent le below above = refl
  insert_is_put [] k v (suc i) absent le below above = absurd (omega arith)
  insert_is_put (e ∷ es) k v zero absent le below above =
      let not_lt : nat_lt e.0 k ≡ false = above 0 e (omega arith) (omega arith) in
      elim (eq_by_cmp nat_cmp k e.0) as
      (λ b. eq_by_cmp nat_cmp k e.0 ≡ b → is_some (cond b (Some e.1) (find nat_cmp k es)) ≡ false → insert (e ∷ es) 0 (k, v) ≡ put nat_cmp k v (e ∷ es)) [
        | true ↦ λ _ none. cc
        | false ↦ λ ne _. rw (before k e.0 not_lt ne) refl
      ] refl absent
  insert_is_put (e ∷ es) k v (suc i) absent le below above =
      let lt : nat_lt e.0 k ≡ true = below 0 e (omega arith) (omega arith) in
      let greater : nat_cmp k e.0 ≡ Greater = after k e.0 lt in
      let rest : is_some (find nat_cmp k es) ≡ false = subst (λ r. is_some (cond (is_eq r) (Some e.1) (find nat_cmp k es)) ≡ false) greater absent in
      rw greater
      (ap (λ xs. e ∷ xs) (insert_is_put es k v i rest (omega arith) (λ j d lo hi. below (suc j) d (omega arith) (omega arith))
      (λ j d lo hi. above (suc j) d (omega arith) (omega arith))))

  -- sorted entries are a map, and putting one in is putting it into the map
  pub sorted_put : (es : List (ℕ × X)) (k : ℕ) (v : X) → T (is_sorted nat_cmp es) → T (is_sorted nat_cmp (put nat_cmp k v es))
  sorted_put es k v h = is_sorted-put nat_cmp nat_cmp_total k v es h

  pub from_sorted-put : (es : List (ℕ × X)) (k : ℕ) (v : X) → T (is_sorted nat_cmp es)
      → from_sorted {R = nat_cmp} (put nat_cmp k v es) ≡ insert_key (from_sorted {R = nat_cmp} es) k v
  from_sorted-put es k v h = same_entries_map _ _ (entries-from_sorted nat_cmp (put nat_cmp k v es) (sorted_put es k v h)
      ∙ sym (entries-insert nat_cmp_total (from_sorted {R = nat_cmp} es) k v ∙ ap (put nat_cmp k v) (entries-from_sorted nat_cmp es h)))

  pub absent_from : (es : List (ℕ × X)) (k : ℕ) → T (is_sorted nat_cmp es) → contains_key (from_sorted {R = nat_cmp} es) k ≡ false
      → is_some (find nat_cmp k es) ≡ false
  absent_from es k h absent = ap is_some (sym (get-from_sorted nat_cmp es k h)) ∙ absent

  pub from_sorted-nil : from_sorted {R = nat_cmp} [] ≡ empty {K = ℕ} {X = X} {R = nat_cmp}
  from_sorted-nil = empty_of_len _ (len-entries _ ∙ ap length (entries-from_sorted {X = X} nat_cmp [] tt))

  pub entries_of_sorted : (es : List (ℕ × X)) → T (is_sorted nat_cmp es) → entries (from_sorted {R = nat_cmp} es) ≡ es
  entries_of_sorted es h = entries-from_sorted nat_cmp es h

  -- a slot below all of the entries' is none of theirs
  none_below : (k x : ℕ) (es : List (ℕ × X)) → k ≤ x → T (below_all nat_cmp x es) → find nat_cmp k es ≡ None
  none_below k x [] le h = refl
  none_below k x (e ∷ es) le h =
      let lt : x < e.0 = lt_from x e.0 (both_from _ _ h).0 in
      let less : nat_cmp k e.0 ≡ Less = sym (nat_cmp_is k e.0 Less (omega arith)) in
      rw less (none_below k x es le (both_from _ _ h).1)

  -- at the place where those below a slot end, the slot stands where it is present
  here : (e : ℕ × X) (es : List (ℕ × X)) (k : ℕ) → T (is_sorted nat_cmp (e ∷ es)) → is_some (find nat_cmp k (e ∷ es)) ≡ true → nat_lt e.0 k ≡ false
      → nat_cmp k e.0 ≡ Equal
  here e es k h present ge =
      elim (eq_by_cmp nat_cmp k e.0) as (λ b. eq_by_cmp nat_cmp k e.0 ≡ b → is_some (cond b (Some e.1) (find nat_cmp k es)) ≡ true → nat_cmp k e.0 ≡ Equal) [
        | true ↦ λ tied _. tie (nat_cmp k e.0) tied
        | false ↦ λ apart some.
            let none : find nat_cmp k es ≡ None = none_below k e.0 es (ge_from k e.0 ge) (both_from _ _ h).0 in
            absurd (not_true (sym (ap is_some none) ∙ some))
      ] refl present
    where
      tie : (r : Ordering) → is_eq r ≡ true → r ≡ Equal
      tie Less h = cc
      tie Equal h = refl
      tie Greater h = cc

      ge_from : (k x : ℕ) → nat_lt x k ≡ false → k ≤ x
      ge_from k x h = grind (arith, nat_tests)

      not_true : false ≡ true → ⊥
      not_true h = cc

  past : (e : ℕ × X) (es : List (ℕ × X)) (k : ℕ) → is_some (find nat_cmp k (e ∷ es)) ≡ true → nat_lt e.0 k ≡ true → is_some (find nat_cmp k es) ≡ true
  past e es k present lt = subst (λ r. is_some (cond (is_eq r) (Some e.1) (find nat_cmp k es)) ≡ true) (after k e.0 lt) present

  pub present_within : (es : List (ℕ × X)) (k : ℕ) (i : ℕ) → is_some (find nat_cmp k es) ≡ true → i ≤ length es → AllWithin (λ e. nat_lt e.0 k ≡ true) es 0 i
      → i < length es
  present_within [] k i present le below = cc
  present_within (e ∷ es) k zero present le below = omega arith
  present_within (e ∷ es) k (suc i) present le below =
      let rest : i < length es = present_within es k i (past e es k present (below 0 e (omega arith) (omega arith))) (omega arith)
      (λ j d lo hi. below (suc j) d (omega arith) (omega arith)) in omega arith

  pub set_is_put : (es : List (ℕ × X)) (k : ℕ) (v : X) (i : ℕ) → T (is_sorted nat_cmp es) → is_some (find nat_cmp k es) ≡ true → i ≤ length es
      → AllWithin (λ e. nat_lt e.0 k ≡ true) es 0 i → AllWithin (λ e. nat_lt e.0 k ≡ false) es i (length es) → set es i (k, v) ≡ put nat_cmp k v es
  set_is_put [] k v i h present le below above = cc
  set_is_put (e ∷ es) k v zero h present le below above =
      let equal : nat_cmp k e.0 ≡ Equal = here e es k h present (above 0 e (omega arith) (omega arith)) in
      rw equal (ap (λ x. (x, v) ∷ es) (ranked k e.0 Equal (sym equal)))
  set_is_put (e ∷ es) k v (suc i) h present le below above =
      let lt : nat_lt e.0 k ≡ true = below 0 e (omega arith) (omega arith) in
      rw (after k e.0 lt)
      (ap (λ xs. e ∷ xs) (set_is_put es k v i (both_from _ _ h).1 (past e es k present lt) (omega arith)
      (λ j d lo hi. below (suc j) d (omega arith) (omega arith)) (λ j d lo hi. above (suc j) d (omega arith) (omega arith))))

  all_stay : (k : ℕ) (es : List (ℕ × X)) → T (below_all nat_cmp k es) → where_key nat_cmp (other_than k) es ≡ es
  all_stay k [] h = refl
  all_stay k (e ∷ es) h =
      let less : nat_cmp k e.0 ≡ Less = sym (nat_cmp_is k e.0 Less (lt_from k e.0 (both_from _ _ h).0)) in
      rw less (ap (λ xs. e ∷ xs) (all_stay k es (both_from _ _ h).1))

  remove_is_filter : (es : List (ℕ × X)) (k : ℕ) (i : ℕ) → T (is_sorted nat_cmp es) → is_some (find nat_cmp k es) ≡ true → i ≤ length es
      → AllWithin (λ e. nat_lt e.0 k ≡ true) es 0 i → AllWithin (λ e. nat_lt e.0 k ≡ false) es i (length es) → remove es i ≡ where_key nat_cmp (other_than k) es
  remove_is_filter [] k i h present le below above = cc
  remove_is_filter (e ∷ es) k zero h present le below above =
      let equal : nat_cmp k e.0 ≡ Equal = here e es k h present (above 0 e (omega arith) (omega arith)) in
      let same : k ≡ e.0 = ranked k e.0 Equal (sym equal) in
      rw equal (sym (all_stay k es (subst (λ x. T (below_all nat_cmp x es)) (sym same) (both_from _ _ h).0)))
  remove_is_filter (e ∷ es) k (suc i) h present le below above =
      let lt : nat_lt e.0 k ≡ true = below 0 e (omega arith) (omega arith) in
      rw (after k e.0 lt)
      (ap (λ xs. e ∷ xs) (remove_is_filter es k i (both_from _ _ h).1 (past e es k present lt) (omega arith)
      (λ j d lo hi. below (suc j) d (omega arith) (omega arith)) (λ j d lo hi. above (suc j) d (omega arith) (omega arith))))

  pub sorted_removed : (es : List (ℕ × X)) (k : ℕ) (i : ℕ) → T (is_sorted nat_cmp es) → is_some (find nat_cmp k es) ≡ true → i ≤ length es
      → AllWithin (λ e. nat_lt e.0 k ≡ true) es 0 i → AllWithin (λ e. nat_lt e.0 k ≡ false) es i (length es) → T (is_sorted nat_cmp (remove es i))
  sorted_removed es k i h present le below above =
      subst (λ xs. T (is_sorted nat_cmp xs)) (sym (remove_is_filter es k i h present le below above)) (is_sorted-where_key nat_cmp (other_than k) es h)

  pub from_sorted-remove : (es : List (ℕ × X)) (k : ℕ) (i : ℕ) → T (is_sorted nat_cmp es) → is_some (find nat_cmp k es) ≡ true → i ≤ length es
      → AllWithin (λ e. nat_lt e.0 k ≡ true) es 0 i → AllWithin (λ e. nat_lt e.0 k ≡ false) es i (length es)
      → from_sorted {R = nat_cmp} (remove es i) ≡ remove_key (from_sorted {R = nat_cmp} es) k
  from_sorted-remove es k i h present le below above =
      same_map nat_cmp_total nat_cmp-IsAntisymmetric _ _ (λ q.
      get-from_sorted nat_cmp (remove es i) q (sorted_removed es k i h present le below above)
      ∙ ap (find nat_cmp q) (remove_is_filter es k i h present le below above)
      ∙ find-where_key nat_cmp (other_than k) q (λ x t. ap (λ r. not (is_eq r)) (sym (alike_right nat_cmp_total q x k t))) es
      ∙ cond_not (eq_by_cmp nat_cmp k q) _ _ ∙ ap (λ b. cond b None (find nat_cmp q es)) (same_tie k q)
      ∙ sym (get-remove nat_cmp_total (from_sorted {R = nat_cmp} es) k q ∙ ap (cond (eq_by_cmp nat_cmp q k) None) (get-from_sorted nat_cmp es q h)))

  pub present_from : (es : List (ℕ × X)) (k : ℕ) → T (is_sorted nat_cmp es) → contains_key (from_sorted {R = nat_cmp} es) k ≡ true
      → is_some (find nat_cmp k es) ≡ true
  present_from es k h present = ap is_some (sym (get-from_sorted nat_cmp es k h)) ∙ present

  -- the entry at the place of a slot has this slot
  pub key_there : (es : List (ℕ × X)) (k : ℕ) (i : ℕ) (d : ℕ × X) → T (is_sorted nat_cmp es) → is_some (find nat_cmp k es) ≡ true → i ≤ length es
      → AllWithin (λ e. nat_lt e.0 k ≡ true) es 0 i → AllWithin (λ e. nat_lt e.0 k ≡ false) es i (length es) → (get_or es i d).0 ≡ k
  key_there [] k i d h present le below above = cc
  key_there (e ∷ es) k zero d h present le below above =
      let equal : nat_cmp k e.0 ≡ Equal = here e es k h present (above 0 e (omega arith) (omega arith)) in
      sym (ranked k e.0 Equal (sym equal))
  key_there (e ∷ es) k (suc i) d h present le below above =
      let lt : nat_lt e.0 k ≡ true = below 0 e (omega arith) (omega arith) in
      key_there es k i d (both_from _ _ h).1 (past e es k present lt) (omega arith)
      (λ j d lo hi. below (suc j) d (omega arith) (omega arith)) (λ j d lo hi. above (suc j) d (omega arith) (omega arith))

  -- an entry is what its slot has
  pub find_at : (es : List (ℕ × X)) (k : ℕ) (i : ℕ) (d : ℕ × X) → T (is_sorted nat_cmp es) → i < length es → (get_or es i d).0 ≡ k
      → find nat_cmp k es ≡ Some (get_or es i d).1
  find_at [] k i d h l same = absurd (omega arith)
  find_at (e ∷ es) k zero d h l same = rw (sym (nat_cmp_is k e.0 Equal (sym same))) refl
  find_at (e ∷ es) k (suc i) d h l same =
      let within : i < length es = omega arith in
      let above : e.0 < (get_or es i d).0 = below_at e.0 es (both_from _ _ h).0 i d within in
      let lt : e.0 < k = subst (λ x. e.0 < x) same above in
      rw (sym (nat_cmp_is k e.0 Greater lt)) (find_at es k i d (both_from _ _ h).1 within same)

  -- a slot that doesn't stand at its place is absent
  pub find_none : (es : List (ℕ × X)) (k : ℕ) (i : ℕ) (d : ℕ × X) → T (is_sorted nat_cmp es) → i ≤ length es → AllWithin (λ e. nat_lt e.0 k ≡ true) es 0 i
      → AllWithin (λ e. nat_lt e.0 k ≡ false) es i (length es) → (i < length es → (get_or es i d).0 ≡ k → ⊥) → find nat_cmp k es ≡ None
  find_none es k i d h le below above other =
      elim (find nat_cmp k es) as (λ o. find nat_cmp k es ≡ o → o ≡ None) [
        | None ↦ λ _. refl
        | Some v ↦ λ e. absurd (other (present_within es k i (ap is_some e) le below) (key_there es k i d h (ap is_some e) le below above))
      ] refl

  -- rising slots from m on, all of them below n, are few
  pub rising_few : (es : List (ℕ × X)) (m n : ℕ) → T (is_sorted nat_cmp es) → ((j : ℕ) (d : ℕ × X) → j < length es → m ≤ (get_or es j d).0)
      → ((j : ℕ) (d : ℕ × X) → j < length es → (get_or es j d).0 < n) → m ≤ n → m + length es ≤ n
  rising_few [] m n h from below le = omega arith
  rising_few (e ∷ es) m n h from below le =
      let first : m ≤ e.0 = from 0 e (omega arith) in
      let last : e.0 < n = below 0 e (omega arith) in
      let rest : suc e.0 + length es ≤ n = rising_few es (suc e.0) n (both_from _ _ h).1 (λ j d l. below_at e.0 es (both_from _ _ h).0 j d l)
      (λ j d l. below (suc j) d (omega arith)) last in
      omega arith
