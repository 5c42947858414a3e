-- The rings of the buckets, read backward.
use Rattle.std.proofs.Common.{◌≡◌, ◌≢◌, ℕ, ◌<◌, Bool, true, false, ◌||◌, ◌==◌, List, [], ◌∷◌, ◌++◌, slice_index, refl, sym, ap, ◌∙◌}
use Rattle.cell_table.specs.declared.TheConstants.{BUCKETS}
use Rattle.cell_table.specs.declared.cell_key.CellKey.{CellKey}
use Rattle.cell_table.specs.Cells.{has}
use Rattle.cell_table.specs.Kept.{IsCellTable, Ring}
use Rattle.std.specs.Prelude.{Option}
use Rattle.slot_lists.specs.Links.{Distinct, Fresh, Links}
use Rattle.cell_table.proofs.RingLemmas.{has_append}

backwards : List ℕ → List ℕ
backwards [] = []
backwards (x ∷ xs) = backwards xs ++ x ∷ []

one_more : (prev next : List ℕ) (e u x : ℕ) (xs : List ℕ) → Links prev next e xs x → slice_index prev x ≡ u → slice_index next u ≡ x
    → Links prev next e (xs ++ x ∷ []) u
one_more prev next e u x [] l a b = (l.0, l.1, (a, b))
one_more prev next e u x (y ∷ ys) l a b = (l.0, l.1, one_more prev next y u x ys l.2 a b)

turned_links : (next prev : List ℕ) (u e : ℕ) (xs : List ℕ) → Links next prev u xs e → Links prev next e (backwards xs) u
unfolding backwards
turned_links next prev u e [] l = (l.1, l.0)
turned_links next prev u e (x ∷ xs) l = one_more prev next e u x (backwards xs) (turned_links next prev x e xs l.2) l.1 l.0

fresh_with : (k x : ℕ) (xs : List ℕ) → Fresh k xs → k ≢ x → Fresh k (xs ++ x ∷ [])
fresh_with k x [] f ne = (ne, tt)
fresh_with k x (y ∷ ys) f ne = (f.0, fresh_with k x ys f.1 ne)

turned_fresh : (k : ℕ) (xs : List ℕ) → Fresh k xs → Fresh k (backwards xs)
unfolding backwards
turned_fresh k [] f = tt
turned_fresh k (x ∷ xs) f = fresh_with k x (backwards xs) (turned_fresh k xs f.1) f.0

distinct_with : (x : ℕ) (xs : List ℕ) → Distinct xs → Fresh x xs → Distinct (xs ++ x ∷ [])
distinct_with x [] d f = (tt, tt)
distinct_with x (y ∷ ys) d f = (fresh_with y x ys d.0 (λ e. f.0 (sym e)), distinct_with x ys d.1 f.1)

turned_distinct : (xs : List ℕ) → Distinct xs → Distinct (backwards xs)
unfolding backwards
turned_distinct [] d = tt
turned_distinct (x ∷ xs) d = distinct_with x (backwards xs) (turned_distinct xs d.1) (turned_fresh x xs d.0)

or_false : (a : Bool) → (a || false) ≡ a
or_false true = refl
or_false false = refl

or_turned : (a b : Bool) → (a || b) ≡ (b || a)
or_turned true true = refl
or_turned true false = refl
or_turned false true = refl
or_turned false false = refl

turned_has : (xs : List ℕ) (s : ℕ) → has (backwards xs) s ≡ has xs s
unfolding backwards
turned_has [] s = refl
turned_has (x ∷ xs) s = has_append (backwards xs) (x ∷ []) s ∙ ap (λ b. b || has (x ∷ []) s) (turned_has xs s) ∙ ap (λ b. has xs s || b) (or_false (x == s))
    ∙ or_turned (has xs s) (x == s)

-- What is kept of the rings holds of them backward too.
pub turned : (keys : List (Option CellKey)) (next prev levels : List ℕ) → IsCellTable keys next prev levels → IsCellTable keys prev next levels
turned keys next prev levels t = record {
  keys_len = t.keys_len;
  next_len = t.prev_len;
  prev_len = t.next_len;
  levels_len = t.levels_len;
  rings = λ b bl. (let r = t.rings b bl in record {
    slots = backwards r.slots;
    linked = turned_links next prev _ _ r.slots r.linked;
    distinct = turned_distinct r.slots r.distinct;
    members = λ s. turned_has r.slots s ∙ r.members s;
  });
  counted = t.counted;
  low = t.low;
}
