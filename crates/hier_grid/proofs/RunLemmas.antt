-- What searches of runs of slots find together.
use Rattle.std.proofs.Common.{◌≡◌, ℕ, Bool, true, false, ◌||◌, ◌==◌, List, [], ◌∷◌, ◌++◌, map, refl, sym, ap, ◌∙◌, inl, inr, is_some}
use Rattle.std.proofs.Common.{◌-◌, ◌<◌, ◌≤◌, ◌⊎◌, length, take, drop, get_or, arith}
use Rattle.std.proofs.lemmas.Bool.{or_cases, false≢true}
use Rattle.std.proofs.lemmas.Bool.Decides.{nat_tests}
use Rattle.std.proofs.Math.Seq.{take-length}
use Rattle.std.proofs.lemmas.List.Folds.{list_any-append}
use Rattle.std.specs.Ordering.{nat_cmp}
use Rattle.std.specs.FinMap.{FinMap}
use Rattle.fixed_box.specs.Bounds.{Bounds}
use Rattle.work_pieces.specs.Each.{Each}
use Rattle.work_pieces.specs.Runs.{put_together}
use Rattle.broad_index.specs.declared.pair.Pair.{Pair}
use Rattle.broad_index.specs.Members.{has_pair, has_slot, is_near, same_pair}
use Rattle.broad_index.specs.Touched.{ordered}
use Rattle.cell_table.specs.declared.cell_key.CellKey.{CellKey}
use Rattle.grid_cells.specs.Cells.{cell_of}
use Rattle.hier_grid.specs.Search.{FindsAll, FindsFor, FindsRun, HasPairs}
use Rattle.slot_lists.specs.Present.{present}
use Rattle.hier_grid.proofs.HitLemmas.{all_present}
use Rattle.hier_grid.proofs.PairLemmas.{all_found, more_pairs}

later_pairs : (old more : List Pair) → HasPairs more (old ++ more)
later_pairs old more p h = list_any-append (same_pair p) old more ∙ ap (λ b. has_pair old p || b) h ∙ or_true (has_pair old p)
  where
    or_true : (b : Bool) → (b || true) ≡ true
    or_true true = refl
    or_true false = refl

-- what a slot is to find stays found
pub finds_more : (cell : Bounds → CellKey) (bodies : FinMap nat_cmp Bounds) (slot : ℕ) (old new : List Pair) → HasPairs old new
    → FindsFor cell bodies slot old → FindsFor cell bodies slot new
finds_more cell bodies slot old new more f body own q b e m other due = more (ordered slot q) (f body own q b e m other due)

-- the numbers of a list but for its first
abbrev pub rest_of : List ℕ → List ℕ
rest_of xs = take (length xs - 1) (drop 1 xs)

parted : (xs : List ℕ) → 1 ≤ length xs → xs ≡ get_or xs 0 0 ∷ rest_of xs
parted [] l = absurd (omega arith)
parted (x ∷ xs) l = let n : length (x ∷ xs) - 1 ≡ length xs = omega arith in ap (λ ys. x ∷ ys) (sym (ap (λ k. take k xs) n ∙ take-length xs))

pub first_or_rest : (xs : List ℕ) → 1 ≤ length xs → (s : ℕ) → has_slot xs s ≡ true → (s ≡ get_or xs 0 0) ⊎ (has_slot (rest_of xs) s ≡ true)
first_or_rest xs l s h = elim (or_cases (s == get_or xs 0 0) (has_slot (rest_of xs) s) (sym (ap (λ ys. has_slot ys s) (parted xs l)) ∙ h)) as
    (λ _. (s ≡ get_or xs 0 0) ⊎ (has_slot (rest_of xs) s ≡ true)) [ inl e ↦ inl (grind (arith, nat_tests)) | inr e ↦ inr e ]

pub no_slots : (xs : List ℕ) (s : ℕ) → length xs < 1 → has_slot xs s ≡ true → ⊥
no_slots [] s l h = false≢true h
no_slots (x ∷ xs) s l h = absurd (omega arith)

module _ {Y : Type 0} (pairs : Y → List Pair) (bodies : FinMap nat_cmp Bounds) where
  pub runs_found : (runs : List (List ℕ)) (ys : List Y) → Each (λ run y. FindsRun bodies run (pairs y)) runs ys
      → FindsRun bodies (put_together runs) (put_together (map pairs ys))
  runs_found [] [] t = record { sound = λ p h. absurd (false≢true h); whole = λ s h. absurd (false≢true h) }
  runs_found [] (y ∷ ys) t = absurd t
  runs_found (x ∷ xs) [] t = absurd t
  runs_found (x ∷ xs) (y ∷ ys) t =
      let rest = runs_found xs ys t.1 in
      let first = pairs y in
      let later = put_together (map pairs ys) in
      record {
        sound = λ p h. elim (or_cases (has_pair first p) (has_pair later p) (sym (list_any-append (same_pair p) first later) ∙ h)) as
            (λ _. is_near bodies p ≡ true) [
              | inl e ↦ t.0.sound p e
              | inr e ↦ rest.sound p e
            ];
        whole = λ s h.
            elim (or_cases (has_slot x s) (has_slot (put_together xs) s) (sym (list_any-append (λ z. s == z) x (put_together xs)) ∙ h)) as
            (λ _. FindsFor cell_of bodies s (first ++ later)) [
              | inl e ↦ finds_more cell_of bodies s first (first ++ later) (more_pairs first later) (t.0.whole s e)
              | inr e ↦ finds_more cell_of bodies s later (first ++ later) (later_pairs first later) (rest.whole s e)
            ];
      }

-- what was found in another order is as good
pub settled_finds : (bodies : FinMap nat_cmp Bounds) (slots : List ℕ) (found settled : List Pair) → ((p : Pair) → has_pair settled p ≡ has_pair found p)
    → FindsRun bodies slots found → FindsRun bodies slots settled
settled_finds bodies slots found settled same r = record {
  sound = λ p h. r.sound p (sym (same p) ∙ h);
  whole = λ s h. finds_more cell_of bodies s found settled (λ p e. same p ∙ e) (r.whole s h);
}

-- searches of all present slots find all pairs
pub present_found : (bodies : FinMap nat_cmp Bounds) (found : List Pair) → FindsRun bodies (present bodies) found → FindsAll bodies found
present_found bodies found r = all_found cell_of bodies found r.sound (λ s body own. r.whole s (all_present bodies s (ap is_some own)) body own)
