-- The boxes of each level stand in its stretch, through changes.
use Rattle.std.proofs.Common.{◌≡◌, ◌≢◌, ℕ, zero, suc, ◌+◌, ◌-◌, ◌<◌, ◌≤◌, false, cond, List, [], ◌∷◌, ◌++◌, length, get_or, set, Option}
use Rattle.std.proofs.Common.{None, Some, is_some, replicate, refl, sym, ap, ◌∙◌, subst, arith, inl, inr, ◌⊎◌}
use Rattle.std.specs.List.{swap_remove}
use Rattle.std.proofs.lemmas.Bool.{cases_eq, true≢false}
use Rattle.std.proofs.lemmas.Cmp.{nat_cmp_total}
use Rattle.std.proofs.lemmas.List.{get_or-set_same, get_or-set_other, length-set, length-append, length-replicate, set-get_or, get_or_append_left}
use Rattle.std.specs.Ordering.{nat_cmp}
use Rattle.std.specs.FinMap.{FinMap, get, get-insert, get-remove, insert, remove, empty, get-empty}
use Rattle.fixed_box.specs.Bounds.{Bounds, level_of, meets}
use Rattle.fixed_box.specs.declared.TheConstants.{SLOTS}
use Rattle.slot_lists.specs.SlotMapLaws.{tie_same, tie_other}
use Rattle.grid_boxes.specs.Leveled.{AreStretches, HasHole, HasScanned, IsBoxOf, IsIn, IsLeveled, Listed, Pool, Stands, blank, end_of, start_of}
use Rattle.broad_index.specs.Members.{has_slot}
use Rattle.grid_cells.specs.Appended.{Appends}
use Rattle.grid_boxes.specs.Candidates.{HasMet}
use Rattle.grid_boxes.specs.LevelLaws.{low_level, some_is, none_some}
use Rattle.grid_boxes.proofs.ColumnLemmas.{swapped_other, swapped_len, few}

-- ---- maps at a slot
put_here : (m : FinMap nat_cmp Bounds) (s : ℕ) (b : Bounds) → get (insert m s b) s ≡ Some b
put_here m s b = get-insert nat_cmp_total m s b s ∙ ap (λ t. cond t (Some b) (get m s)) (tie_same s s refl)

put_other : (m : FinMap nat_cmp Bounds) (s q : ℕ) (b : Bounds) → q ≢ s → get (insert m s b) q ≡ get m q
put_other m s q b ne = get-insert nat_cmp_total m s b q ∙ ap (λ t. cond t (Some b) (get m q)) (tie_other q s ne)

gone_here : (m : FinMap nat_cmp Bounds) (s : ℕ) → get (remove m s) s ≡ None
gone_here m s = get-remove nat_cmp_total m s s ∙ ap (λ t. cond t None (get m s)) (tie_same s s refl)

gone_other : (m : FinMap nat_cmp Bounds) (s q : ℕ) → q ≢ s → get (remove m s) q ≡ get m q
gone_other m s q ne = get-remove nat_cmp_total m s q ∙ ap (λ t. cond t None (get m q)) (tie_other q s ne)

pub absent_none : (o : Option Bounds) → is_some o ≡ false → o ≡ None
absent_none None h = refl
absent_none (Some b) h = absurd (true≢false h)

-- ---- stretches
less_or : (p k : ℕ) → p < suc k → (p < k) ⊎ (p ≡ k)
less_or p k h = grind arith

order : (l k : ℕ) → (l < k) ⊎ ((k < l) ⊎ (l ≡ k))
order l k = grind arith

-- a stretch ends where those of lower levels begin, or before
ends : (pool : Pool) → AreStretches pool → (l k : ℕ) → l < k → k < 11 → end_of pool k ≤ start_of pool l
ends pool shape l zero lt bound = absurd (omega arith)
ends pool shape l (suc k) lt bound = elim (less_or l k lt) as (λ _. start_of pool k ≤ start_of pool l) [
  | inl less ↦ let a = ends pool shape l k less (omega arith) in let b = shape.falling k (omega arith) in omega arith
  | inr same ↦ subst (λ n. start_of pool k ≤ start_of pool n) (sym same) (omega arith)
]

-- no place is in two stretches
pub one_stretch : (pool : Pool) → AreStretches pool → (l k p : ℕ) → l < 11 → k < 11 → IsIn pool l p → IsIn pool k p → l ≡ k
one_stretch pool shape l k p ll kl a b = elim (order l k) as (λ _. l ≡ k) [
  | inl less ↦ let e = ends pool shape l k less kl in let f = a.from in let g = b.below in absurd (omega arith)
  | inr rest ↦ elim rest as (λ _. l ≡ k) [
    | inl more ↦ let e = ends pool shape k l more ll in let f = b.from in let g = a.below in absurd (omega arith)
    | inr same ↦ same
  ]
]

end_low : (pool : Pool) → AreStretches pool → (l : ℕ) → l < 11 → end_of pool l ≤ length pool.listed.slots
end_low pool shape zero lt = omega arith
end_low pool shape (suc l) lt = let a = shape.falling l (omega arith) in let b = end_low pool shape l (omega arith) in omega arith

pub start_low : (pool : Pool) → AreStretches pool → (l : ℕ) → l < 11 → start_of pool l ≤ length pool.listed.slots
start_low pool shape l lt = let a = shape.falling l lt in let b = end_low pool shape l lt in omega arith

pub end_bound : (pool : Pool) → AreStretches pool → (l : ℕ) → l < 11 → end_of pool l ≤ length pool.listed.boxes
end_bound pool shape l lt = let a = end_low pool shape l lt in let e = shape.even in omega arith

pub place_low : (pool : Pool) → AreStretches pool → (l p : ℕ) → l < 11 → IsIn pool l p → p < length pool.listed.slots
place_low pool shape l p lt into = let a = end_low pool shape l lt in let b = into.below in omega arith

pub end_before : (pool : Pool) (l : ℕ) → 0 < l → end_of pool l ≡ start_of pool (l - 1)
end_before pool zero lt = absurd (omega arith)
end_before pool (suc l) lt = let e : l ≡ suc l - 1 = omega arith in ap (start_of pool) e

end_last : (pool : Pool) (l : ℕ) → l ≡ 0 → end_of pool l ≡ length pool.listed.slots
end_last pool l e = ap (end_of pool) e

-- the same stretches, where as many boxes stand in the list
module _ (pool : Pool) (new : Listed) (places : List ℕ) (same : length new.slots ≡ length pool.listed.slots) where
  abbrev beside : Pool
  beside = record { listed = new; places = places; starts = pool.starts }

  same_end : (l : ℕ) → end_of beside l ≡ end_of pool l
  same_end zero = same
  same_end (suc l) = refl

  same_in : (l p : ℕ) → IsIn pool l p → IsIn beside l p
  same_in l p into = record { from = into.from; below = subst (λ e. p < e) (sym (same_end l)) into.below }

  same_shape : AreStretches pool → length new.boxes ≡ length pool.listed.boxes → new.spare ≡ pool.listed.spare → length places ≡ SLOTS → AreStretches beside
  same_shape shape boxes spare many = record {
    even = same ∙ shape.even ∙ sym boxes;
    roomy = (let r = shape.roomy in omega arith);
    bound = (let r = shape.bound in omega arith);
    places_len = many;
    starts_len = shape.starts_len;
    top = shape.top;
    falling = λ l lt. subst (λ e. start_of pool l ≤ e) (sym (same_end l)) (shape.falling l lt);
  }

-- ---- a box that comes: the end is free for it
-- There is room for a slot that is absent.
pub room : (bodies : FinMap nat_cmp Bounds) (pool : Pool) (s : ℕ) → IsLeveled bodies pool → s < SLOTS → get bodies s ≡ None → length pool.listed.slots < SLOTS
room bodies pool s g sl none =
    few (λ u. get_or pool.places u 0) SLOTS s pool.listed.slots sl
    (λ i l. let b = g.kept i l in g.low (get_or pool.listed.slots i 0) b.body b.here)
    (λ i l. (g.kept i l).place_is)
    (λ i l e. let b = g.kept i l in none_some b.body (sym none ∙ ap (get bodies) (sym e) ∙ b.here))

pub room_spare : (bodies : FinMap nat_cmp Bounds) (pool : Pool) (s : ℕ) → IsLeveled bodies pool → s < SLOTS → get bodies s ≡ None → 0 < pool.listed.spare
room_spare bodies pool s g sl none =
    let n = room bodies pool s g sl none in let e = g.shape.even in let r = g.shape.roomy in omega arith

pub appended : (bodies : FinMap nat_cmp Bounds) (pool : Pool) (s : ℕ) (b : Bounds) (new : Listed) → IsLeveled bodies pool → s < SLOTS → get bodies s ≡ None
    → new.slots ≡ pool.listed.slots ++ s ∷ [] → new.boxes ≡ pool.listed.boxes ++ b ∷ [] → new.spare + 1 ≡ pool.listed.spare
    → HasHole bodies s 0 (length pool.listed.slots) (record { listed = new; places = pool.places; starts = pool.starts })
appended bodies pool s b new g sl none es eb er = record {
  shape = record {
    even = len_s ∙ ap (λ k. k + 1) g.shape.even ∙ sym len_b;
    roomy = (let r = g.shape.roomy in omega (arith, len_b));
    bound = (let r = room bodies pool s g sl none in omega (arith, len_s));
    places_len = g.shape.places_len;
    starts_len = g.shape.starts_len;
    top = g.shape.top;
    falling = λ l lt. more l lt;
  };
  low = g.low;
  in_level = record { from = g.shape.falling 0 (omega arith); below = omega (arith, len_s) };
  held = λ q x ne e.
      let st = g.held q x e in
      let r = get_or pool.places q 0 in
      let lt : r < n = place_low pool g.shape (level_of x) r (low_level x) st.in_level in (
        record {
          in_level = longer (level_of x) r st.in_level;
          slot_is = ap (λ l. get_or l r 0) es ∙ get_or_append_left pool.listed.slots (s ∷ []) 0 r lt ∙ st.slot_is;
          body_is = ap (λ l. get_or l r blank) eb ∙ get_or_append_left pool.listed.boxes (b ∷ []) blank r (omega (arith, g.shape.even)) ∙ st.body_is;
        },
        λ i. absurd (omega arith),
      );
  kept = λ place lt apart.
      let less : place < n = grind (arith, len_s) in
      let is : get_or new.slots place 0 ≡ get_or pool.listed.slots place 0 = ap (λ l. get_or l place 0) es
      ∙ get_or_append_left pool.listed.slots (s ∷ []) 0 place less in
      let o = g.kept place less in (
        subst (IsBoxOf bodies pool.places place) (sym is) o,
        λ i. none_some o.body (sym none ∙ ap (get bodies) (sym (sym is ∙ i)) ∙ o.here),
      );
}
  where
    n : ℕ
    n = length pool.listed.slots

    len_s : length new.slots ≡ n + 1
    len_s = ap length es ∙ length-append pool.listed.slots (s ∷ [])

    len_b : length new.boxes ≡ length pool.listed.boxes + 1
    len_b = ap length eb ∙ length-append pool.listed.boxes (b ∷ [])

    more : (l : ℕ) → l < 11 → start_of pool l ≤ end_of (record { listed = new; places = pool.places; starts = pool.starts }) l
    more zero lt = let a = g.shape.falling 0 lt in omega (arith, len_s)
    more (suc l) lt = g.shape.falling (suc l) lt

    longer : (l p : ℕ) → IsIn pool l p → IsIn (record { listed = new; places = pool.places; starts = pool.starts }) l p
    longer zero p into = record { from = into.from; below = (let a = into.below in omega (arith, len_s)) }
    longer (suc l) p into = record { from = into.from; below = into.below }

-- ---- a box that is there: its place is free for another
pub opened : (bodies : FinMap nat_cmp Bounds) (pool : Pool) (s : ℕ) (b : Bounds) → IsLeveled bodies pool → get bodies s ≡ Some b
    → HasHole bodies s (level_of b) (get_or pool.places s 0) pool
opened bodies pool s b g has = record {
  shape = g.shape;
  low = g.low;
  in_level = (g.held s b has).in_level;
  held = λ q x ne e.
      (g.held q x e, λ i. ne (sym (g.held q x e).slot_is ∙ ap (λ p. get_or pool.listed.slots p 0) i ∙ (g.held s b has).slot_is));
  kept = λ place lt apart.
      (g.kept place lt, λ i. apart (sym (g.kept place lt).place_is ∙ ap (λ q. get_or pool.places q 0) i));
}

-- ---- a box that is handed on
-- the slot at a place that isn't free
pub moved_body : (bodies : FinMap nat_cmp Bounds) (pool : Pool) (s level hole from : ℕ) → HasHole bodies s level hole pool → level < 11
    → IsIn pool level from → from ≢ hole → IsBoxOf bodies pool.places from (get_or pool.listed.slots from 0)
moved_body bodies pool s level hole from h low into ne = (h.kept from (place_low pool h.shape level from low into) ne).0

pub handed : (bodies : FinMap nat_cmp Bounds) (pool : Pool) (s level hole from u : ℕ) (b : Bounds) (new : Listed) → HasHole bodies s level hole pool
    → level < 11 → IsIn pool level from → from ≢ hole → u ≡ get_or pool.listed.slots from 0 → get bodies u ≡ Some b
    → new.slots ≡ set pool.listed.slots hole u → new.boxes ≡ set pool.listed.boxes hole b → new.spare ≡ pool.listed.spare
    → HasHole bodies s level from (record { listed = new; places = set pool.places u hole; starts = pool.starts })
handed bodies pool s level hole from u b new h low into ne eu has es eb er = record {
  shape = same_shape pool new (set pool.places u hole) len_s h.shape len_b er (length-set pool.places u hole ∙ h.shape.places_len);
  low = h.low;
  in_level = same_in pool new (set pool.places u hole) len_s level from into;
  held = λ q x other e. elim (cases_eq q u) as (λ _. Stands after q x × (get_or after.places q 0 ≢ from)) [
    | inl i ↦
        let same : b ≡ x = some_is (sym has ∙ ap (get bodies) (sym i) ∙ e) in
        subst (λ z. Stands after z x × (get_or after.places z 0 ≢ from)) (sym i)
        (subst (λ y. Stands after u y × (get_or after.places u 0 ≢ from)) same (arrives, λ j. ne (sym j ∙ here)))
    | inr n ↦
        let st = h.held q x other e in
        let r = get_or pool.places q 0 in
        let is : get_or after.places q 0 ≡ r = get_or-set_other pool.places u q hole 0 n in
        let apart : r ≢ from = λ j. n (sym st.0.slot_is ∙ ap (λ p. get_or pool.listed.slots p 0) j ∙ sym eu) in (
          record {
            in_level = subst (IsIn after (level_of x)) (sym is) (same_in pool new after.places len_s (level_of x) r st.0.in_level);
            slot_is = ap (λ p. get_or new.slots p 0) is ∙ ap (λ l. get_or l r 0) es ∙ get_or-set_other pool.listed.slots hole r u 0 st.1 ∙ st.0.slot_is;
            body_is = ap (λ p. get_or new.boxes p blank) is ∙ ap (λ l. get_or l r blank) eb ∙ get_or-set_other pool.listed.boxes hole r b blank st.1
                ∙ st.0.body_is;
          },
          λ j. apart (sym is ∙ j),
        )
  ];
  kept = λ place lt apart. elim (cases_eq place hole) as
      (λ _. IsBoxOf bodies after.places place (get_or new.slots place 0) × (get_or new.slots place 0 ≢ s)) [
        | inl i ↦
            let is : get_or new.slots place 0 ≡ u = ap (λ p. get_or new.slots p 0) i ∙ filled in
            (subst (IsBoxOf bodies after.places place) (sym is) (record { body = b; here = has; place_is = here ∙ sym i }), λ j. not_s (sym is ∙ j))
        | inr n ↦
            let v = get_or pool.listed.slots place 0 in
            let is : get_or new.slots place 0 ≡ v = ap (λ l. get_or l place 0) es ∙ get_or-set_other pool.listed.slots hole place u 0 n in
            let o = h.kept place (subst (λ k. place < k) len_s lt) n in
            let other : v ≢ u = λ j. apart (sym o.0.place_is ∙ ap (λ q. get_or pool.places q 0) j ∙ at) in (
              subst (IsBoxOf bodies after.places place) (sym is)
                  (record { body = o.0.body; here = o.0.here; place_is = get_or-set_other pool.places u v hole 0 other ∙ o.0.place_is }),
              λ j. o.1 (sym is ∙ j),
            )
      ];
}
  where
    after : Pool
    after = record { listed = new; places = set pool.places u hole; starts = pool.starts }

    len_s : length new.slots ≡ length pool.listed.slots
    len_s = ap length es ∙ length-set pool.listed.slots hole u

    len_b : length new.boxes ≡ length pool.listed.boxes
    len_b = ap length eb ∙ length-set pool.listed.boxes hole b

    inside : from < length pool.listed.slots
    inside = place_low pool h.shape level from low into

    hole_in : hole < length pool.listed.slots
    hole_in = place_low pool h.shape level hole low h.in_level

    not_s : u ≢ s
    not_s e = (h.kept from inside ne).1 (sym eu ∙ e)

    at : get_or pool.places u 0 ≡ from
    at = ap (λ k. get_or pool.places k 0) eu ∙ (h.kept from inside ne).0.place_is

    here : get_or after.places u 0 ≡ hole
    here = get_or-set_same pool.places u hole 0 (let l = h.low u b has in omega (arith, h.shape.places_len))

    filled : get_or new.slots hole 0 ≡ u
    filled = ap (λ l. get_or l hole 0) es ∙ get_or-set_same pool.listed.slots hole u 0 hole_in

    level_is : level_of b ≡ level
    level_is = one_stretch pool h.shape (level_of b) level from (low_level b) low (subst (IsIn pool (level_of b)) at (h.held u b not_s has).0.in_level) into

    arrives : Stands after u b
    arrives = record {
      in_level =
          subst (λ k. IsIn after k (get_or after.places u 0)) (sym level_is)
          (subst (IsIn after level) (sym here) (same_in pool new after.places len_s level hole h.in_level));
      slot_is = ap (λ p. get_or new.slots p 0) here ∙ filled;
      body_is = ap (λ p. get_or new.boxes p blank) here ∙ ap (λ l. get_or l hole blank) eb
          ∙ get_or-set_same pool.listed.boxes hole b blank (omega (arith, hole_in, h.shape.even));
    }

-- ---- the free place passes from one stretch to the next
module _ (bodies : FinMap nat_cmp Bounds) (pool : Pool) (s level hole j v : ℕ) (h : HasHole bodies s level hole pool) (jl : j < 10) where
  abbrev shifted : Pool
  shifted = record { listed = pool.listed; places = pool.places; starts = set pool.starts j v }

  start_here : start_of shifted j ≡ v
  start_here = get_or-set_same pool.starts j v 0 (omega (arith, h.shape.starts_len))

  start_other : (k : ℕ) → k ≢ j → start_of shifted k ≡ start_of pool k
  start_other k ne = get_or-set_other pool.starts j k v 0 ne

  end_other : (k : ℕ) → k ≢ suc j → end_of shifted k ≡ end_of pool k
  end_other zero ne = refl
  end_other (suc k) ne = start_other k (λ e. ne (ap suc e))

  pub passed : (next : ℕ) → start_of pool (suc j) ≤ v → v ≤ end_of pool j
      → ((p : ℕ) → p ≢ hole → start_of pool j ≤ p → v ≤ p) → ((p : ℕ) → p ≢ hole → p < start_of pool j → p < v)
      → IsIn shifted next hole → HasHole bodies s next hole shifted
  passed next low high up down into = record {
    shape = record {
      even = h.shape.even;
      roomy = h.shape.roomy;
      bound = h.shape.bound;
      places_len = h.shape.places_len;
      starts_len = length-set pool.starts j v ∙ h.shape.starts_len;
      top = start_other 10 (λ e. absurd (omega arith)) ∙ h.shape.top;
      falling = λ k lt. falls k lt;
    };
    low = h.low;
    in_level = into;
    held = λ q x ne e. let st = h.held q x ne e in
        (record { in_level = stays (level_of x) (get_or pool.places q 0) st.1 st.0.in_level; slot_is = st.0.slot_is; body_is = st.0.body_is }, st.1);
    kept = h.kept;
  }
    where
      later : suc j ≢ j
      later e = absurd (omega arith)

      falls : (k : ℕ) → k < 11 → start_of shifted k ≤ end_of shifted k
      falls k lt = elim (cases_eq k j) as (λ _. start_of shifted k ≤ end_of shifted k) [
        | inl e ↦ subst (λ n. start_of shifted n ≤ end_of shifted n) (sym e)
            (let a = end_other j (λ i. later (sym i)) in omega (arith, a, start_here))
        | inr n ↦ elim (cases_eq k (suc j)) as (λ _. start_of shifted k ≤ end_of shifted k) [
          | inl e ↦ subst (λ n. start_of shifted n ≤ end_of shifted n) (sym e)
              (let a = start_other (suc j) later in omega (arith, a, start_here))
          | inr m ↦ let a = start_other k n in let b = end_other k m in let c = h.shape.falling k lt in omega (arith, a, b)
        ]
      ]

      stays : (k p : ℕ) → p ≢ hole → IsIn pool k p → IsIn shifted k p
      stays k p apart into = record {
        from = elim (cases_eq k j) as (λ _. start_of shifted k ≤ p) [
          | inl e ↦ subst (λ n. start_of shifted n ≤ p) (sym e)
              (let a = up p apart (subst (λ n. start_of pool n ≤ p) e into.from) in omega (arith, start_here))
          | inr n ↦ subst (λ z. z ≤ p) (sym (start_other k n)) into.from
        ];
        below = elim (cases_eq k (suc j)) as (λ _. p < end_of shifted k) [
          | inl e ↦ subst (λ n. p < end_of shifted n) (sym e)
              (let a = down p apart (subst (λ n. p < end_of pool n) e into.below) in omega (arith, start_here))
          | inr n ↦ subst (λ z. p < z) (sym (end_other k n)) into.below
        ];
      }

pub raised : (bodies : FinMap nat_cmp Bounds) (pool : Pool) (s level hole : ℕ) → HasHole bodies s level hole pool → level < 10 → hole ≡ start_of pool level
    → HasHole bodies s (level + 1) hole (record { listed = pool.listed; places = pool.places; starts = set pool.starts level (hole + 1) })
raised bodies pool s level hole h low is =
    let next : suc level ≡ level + 1 = omega arith in
    let below = h.in_level.below in
    let above = h.shape.falling (suc level) (omega arith) in
    let v = hole + 1 in
    subst (λ n. HasHole bodies s n hole (record { listed = pool.listed; places = pool.places; starts = set pool.starts level v })) next
    (passed bodies pool s level hole level v h low (suc level) (omega arith) (omega arith) (λ p ne l. grind arith) (λ p ne l. omega arith)
    (record {
      from = (let a = start_other bodies pool s level hole level v h low (suc level) (λ e. absurd (omega arith)) in omega (arith, a));
      below = (let a = start_here bodies pool s level hole level v h low in omega (arith, a));
    }))

pub lowered : (bodies : FinMap nat_cmp Bounds) (pool : Pool) (s level hole : ℕ) → HasHole bodies s (suc level) hole pool → level < 10
    → hole + 1 ≡ start_of pool level
    → HasHole bodies s level hole (record { listed = pool.listed; places = pool.places; starts = set pool.starts level hole })
lowered bodies pool s level hole h low is =
    let from = h.in_level.from in
    let above = h.shape.falling level (omega arith) in
    passed bodies pool s (suc level) hole level hole h low level (omega arith) (omega arith) (λ p ne l. omega arith) (λ p ne l. grind arith)
    (record {
      from = (let a = start_here bodies pool s (suc level) hole level hole h low in omega (arith, a));
      below = (let a = end_other bodies pool s (suc level) hole level hole h low level (λ e. absurd (omega arith)) in omega (arith, a));
    })

-- ---- a box that gets the free place
pub filled : (bodies : FinMap nat_cmp Bounds) (pool : Pool) (s hole : ℕ) (b : Bounds) (new : Listed) → HasHole bodies s (level_of b) hole pool → s < SLOTS
    → new.slots ≡ set pool.listed.slots hole s → new.boxes ≡ set pool.listed.boxes hole b → new.spare ≡ pool.listed.spare
    → IsLeveled (insert bodies s b) (record { listed = new; places = set pool.places s hole; starts = pool.starts })
filled bodies pool s hole b new h sl es eb er = record {
  shape = same_shape pool new (set pool.places s hole) len_s h.shape len_b er (length-set pool.places s hole ∙ h.shape.places_len);
  low = λ q x e. elim (cases_eq q s) as (λ _. q < SLOTS) [
    | inl i ↦ omega arith
    | inr n ↦ h.low q x (sym (put_other bodies s q b n) ∙ e)
  ];
  held = λ q x e. elim (cases_eq q s) as (λ _. Stands after q x) [
    | inl i ↦
        let same : b ≡ x = some_is (sym (put_here bodies s b) ∙ ap (get (insert bodies s b)) (sym i) ∙ e) in
        subst (λ z. Stands after z x) (sym i) (subst (λ y. Stands after s y) same arrives)
    | inr n ↦
        let st = h.held q x n (sym (put_other bodies s q b n) ∙ e) in
        let r = get_or pool.places q 0 in
        let is : get_or after.places q 0 ≡ r = get_or-set_other pool.places s q hole 0 n in
        record {
          in_level = subst (IsIn after (level_of x)) (sym is) (same_in pool new after.places len_s (level_of x) r st.0.in_level);
          slot_is = ap (λ p. get_or new.slots p 0) is ∙ ap (λ l. get_or l r 0) es ∙ get_or-set_other pool.listed.slots hole r s 0 st.1 ∙ st.0.slot_is;
          body_is = ap (λ p. get_or new.boxes p blank) is ∙ ap (λ l. get_or l r blank) eb ∙ get_or-set_other pool.listed.boxes hole r b blank st.1
              ∙ st.0.body_is;
        }
  ];
  kept = λ place lt. elim (cases_eq place hole) as (λ _. IsBoxOf (insert bodies s b) after.places place (get_or new.slots place 0)) [
    | inl i ↦
        let is : get_or new.slots place 0 ≡ s = ap (λ p. get_or new.slots p 0) i ∙ there in
        subst (IsBoxOf (insert bodies s b) after.places place) (sym is) (record { body = b; here = put_here bodies s b; place_is = here ∙ sym i })
    | inr n ↦
        let v = get_or pool.listed.slots place 0 in
        let is : get_or new.slots place 0 ≡ v = ap (λ l. get_or l place 0) es ∙ get_or-set_other pool.listed.slots hole place s 0 n in
        let o = h.kept place (subst (λ k. place < k) len_s lt) n in
        subst (IsBoxOf (insert bodies s b) after.places place) (sym is) (record {
          body = o.0.body;
          here = put_other bodies s v b o.1 ∙ o.0.here;
          place_is = get_or-set_other pool.places s v hole 0 o.1 ∙ o.0.place_is;
        })
  ];
}
  where
    after : Pool
    after = record { listed = new; places = set pool.places s hole; starts = pool.starts }

    len_s : length new.slots ≡ length pool.listed.slots
    len_s = ap length es ∙ length-set pool.listed.slots hole s

    len_b : length new.boxes ≡ length pool.listed.boxes
    len_b = ap length eb ∙ length-set pool.listed.boxes hole b

    hole_in : hole < length pool.listed.slots
    hole_in = place_low pool h.shape (level_of b) hole (low_level b) h.in_level

    here : get_or after.places s 0 ≡ hole
    here = get_or-set_same pool.places s hole 0 (omega (arith, h.shape.places_len))

    there : get_or new.slots hole 0 ≡ s
    there = ap (λ l. get_or l hole 0) es ∙ get_or-set_same pool.listed.slots hole s 0 hole_in

    arrives : Stands after s b
    arrives = record {
      in_level = subst (IsIn after (level_of b)) (sym here) (same_in pool new after.places len_s (level_of b) hole h.in_level);
      slot_is = ap (λ p. get_or new.slots p 0) here ∙ there;
      body_is = ap (λ p. get_or new.boxes p blank) here ∙ ap (λ l. get_or l hole blank) eb
          ∙ get_or-set_same pool.listed.boxes hole b blank (omega (arith, hole_in, h.shape.even));
    }

-- another box of the same level stands where the old one stood
pub renewed : (bodies : FinMap nat_cmp Bounds) (pool : Pool) (s : ℕ) (o b : Bounds) (new : Listed) → IsLeveled bodies pool → get bodies s ≡ Some o
    → level_of o ≡ level_of b → new.slots ≡ pool.listed.slots → new.boxes ≡ set pool.listed.boxes (get_or pool.places s 0) b
    → new.spare ≡ pool.listed.spare → IsLeveled (insert bodies s b) (record { listed = new; places = pool.places; starts = pool.starts })
renewed bodies pool s o b new g has same es eb er =
    let hole = get_or pool.places s 0 in
    let free : HasHole bodies s (level_of b) hole pool = subst (λ l. HasHole bodies s l hole pool) same (opened bodies pool s o g has) in
    let low = g.low s o has in
    let own : set pool.listed.slots hole s ≡ pool.listed.slots = ap (set pool.listed.slots hole) (sym (g.held s o has).slot_is)
    ∙ set-get_or pool.listed.slots hole 0 in
    subst (λ places. IsLeveled (insert bodies s b) (record { listed = new; places = places; starts = pool.starts })) (set-get_or pool.places s 0)
    (filled bodies pool s hole b new free low (es ∙ sym own) eb er)

-- ---- a box that goes: the last place is free, and is given up
pub closed : (bodies : FinMap nat_cmp Bounds) (pool : Pool) (s hole : ℕ) (new : Listed) → HasHole bodies s 0 hole pool → hole + 1 ≡ length pool.listed.slots
    → new.slots ≡ swap_remove pool.listed.slots hole 0 → new.boxes ≡ swap_remove pool.listed.boxes hole blank → new.spare ≡ pool.listed.spare + 1
    → IsLeveled (remove bodies s) (record { listed = new; places = pool.places; starts = pool.starts })
closed bodies pool s hole new h last es eb er = record {
  shape = record {
    even = (let e = h.shape.even in omega (arith, len_s, len_b));
    roomy = (let r = h.shape.roomy in omega (arith, len_b));
    bound = (let r = h.shape.bound in omega (arith, len_s));
    places_len = h.shape.places_len;
    starts_len = h.shape.starts_len;
    top = h.shape.top;
    falling = λ l lt. falls l lt;
  };
  low = λ q x e. h.low q x (was q x e);
  held = λ q x e.
      let st = h.held q x (left q x e) (was q x e) in
      let r = get_or pool.places q 0 in
      let lt : r < length pool.listed.slots = place_low pool h.shape (level_of x) r (low_level x) st.0.in_level in
      let few : r + 1 < length pool.listed.slots = (let a = st.1 in grind arith) in
      record {
        in_level = stays (level_of x) r st.1 st.0.in_level;
        slot_is = ap (λ l. get_or l r 0) es ∙ swapped_other pool.listed.slots hole r 0 st.1 few ∙ st.0.slot_is;
        body_is = ap (λ l. get_or l r blank) eb ∙ swapped_other pool.listed.boxes hole r blank st.1 (omega (arith, h.shape.even)) ∙ st.0.body_is;
      };
  kept = λ place lt.
      let few : place + 1 < length pool.listed.slots = omega (arith, len_s) in
      let apart : place ≢ hole = λ e. absurd (omega arith) in
      let v = get_or pool.listed.slots place 0 in
      let is : get_or new.slots place 0 ≡ v = ap (λ l. get_or l place 0) es ∙ swapped_other pool.listed.slots hole place 0 apart few in
      let o = h.kept place (omega arith) apart in
      subst (IsBoxOf (remove bodies s) pool.places place) (sym is)
      (record { body = o.0.body; here = gone_other bodies s v o.1 ∙ o.0.here; place_is = o.0.place_is });
}
  where
    len_s : length new.slots + 1 ≡ length pool.listed.slots
    len_s = ap (λ xs. length xs + 1) es ∙ swapped_len pool.listed.slots hole 0 (omega arith)

    len_b : length new.boxes + 1 ≡ length pool.listed.boxes
    len_b = ap (λ xs. length xs + 1) eb ∙ swapped_len pool.listed.boxes hole blank (omega (arith, h.shape.even))

    left : (q : ℕ) (x : Bounds) → get (remove bodies s) q ≡ Some x → q ≢ s
    left q x e i = none_some x (sym (gone_here bodies s) ∙ ap (get (remove bodies s)) (sym i) ∙ e)

    was : (q : ℕ) (x : Bounds) → get (remove bodies s) q ≡ Some x → get bodies q ≡ Some x
    was q x e = sym (gone_other bodies s q (left q x e)) ∙ e

    falls : (l : ℕ) → l < 11 → start_of pool l ≤ end_of (record { listed = new; places = pool.places; starts = pool.starts }) l
    falls zero lt = let a = h.in_level.from in omega (arith, len_s)
    falls (suc l) lt = h.shape.falling (suc l) lt

    stays : (l p : ℕ) → p ≢ hole → IsIn pool l p → IsIn (record { listed = new; places = pool.places; starts = pool.starts }) l p
    stays zero p apart into = record { from = into.from; below = (let a = into.below in grind (arith, len_s)) }
    stays (suc l) p apart into = record { from = into.from; below = into.below }

-- ---- no box
zeros : (n k : ℕ) → ◌≡◌ {A = ℕ} (get_or (replicate n 0) k 0) 0
zeros zero k = refl
zeros (suc n) zero = refl
zeros (suc n) (suc k) = zeros n k

pub emptied : (pool : Pool) → pool.listed.slots ≡ [] → pool.listed.boxes ≡ [] → SLOTS ≤ pool.listed.spare → length pool.places ≡ SLOTS
    → pool.starts ≡ replicate 11 0 → IsLeveled (empty {R = nat_cmp}) pool
emptied pool es eb room many starts = record {
  shape = record {
    even = ap length es ∙ sym (ap length eb);
    roomy = omega arith;
    bound = (let n = ap length es in omega arith);
    places_len = many;
    starts_len = ap length starts ∙ length-replicate {A = ℕ} 11 0;
    top = begins 10;
    falling = λ l lt. (let b = begins l in omega arith);
  };
  low = λ s b e. absurd (none_some b (sym (get-empty nat_cmp s) ∙ e));
  held = λ s b e. absurd (none_some b (sym (get-empty nat_cmp s) ∙ e));
  kept = λ place lt. (let n = ap length es in absurd (omega arith));
}
  where
    begins : (l : ℕ) → start_of pool l ≡ 0
    begins l = ap (λ xs. get_or xs l 0) starts ∙ zeros 11 l

-- ---- what a scan of a level finds
pub met : (bodies : FinMap nat_cmp Bounds) (pool : Pool) (level : ℕ) (region : Bounds) (old new : List ℕ) → IsLeveled bodies pool
    → HasScanned pool.listed (meets region) (start_of pool level) (end_of pool level) old new → Appends (HasMet bodies level region) old new
met bodies pool level region old new g found = record {
  slots = found.slots;
  appended = found.appended;
  has = λ q b e m.
      let st = g.held q b e in
      let place = get_or pool.places q 0 in
      let into : IsIn pool level place = subst (λ k. IsIn pool k place) m.0 st.in_level in
      ap (has_slot found.slots) (sym st.slot_is) ∙ found.has place into.from into.below (ap (meets region) st.body_is ∙ m.1);
}
