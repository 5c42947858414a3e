-- What is found among candidates, and the slots that are searched on several threads.
use Rattle.std.proofs.Common.{◌≡◌, ℕ, Bool, true, false, cond, not, ◌&&◌, ◌||◌, ◌==◌, List, [], ◌∷◌, map, Option, None, Some}
use Rattle.std.proofs.Common.{is_some, refl, sym, ap, ◌∙◌, arith}
use Rattle.std.specs.List.{filter}
use Rattle.std.proofs.lemmas.Bool.{and_parts, false≢true}
use Rattle.std.proofs.lemmas.Bool.Decides.{nat_tests}
use Rattle.std.specs.Ordering.{nat_cmp, eq_by_cmp}
use Rattle.std.specs.FinMap.{FinMap, entries, get, get-entries, find}
use Rattle.fixed_box.specs.Bounds.{Bounds}
use Rattle.broad_index.specs.declared.query.Query.{Query}
use Rattle.broad_index.specs.Members.{has_slot, both_meet, is_found, is_reached, meets_query}
use Rattle.broad_index.specs.Searched.{AreAllIn}
use Rattle.grid_boxes.specs.Candidates.{HasHitsBelow, HasMetIn}
use Rattle.hier_grid.specs.Search.{meets_at, is_partner}
use Rattle.slot_lists.specs.Present.{present}
use Rattle.grid_boxes.specs.LevelLaws.{low_level, tie_is}
use Rattle.grid_cells.specs.SlotLaws.{all_among}

hit_at : (bodies : FinMap nat_cmp Bounds) (query : Query) (slots : List ℕ) → HasHitsBelow bodies 11 query slots
    → (q : ℕ) (o : Option Bounds) → get bodies q ≡ o → meets_query query o ≡ true → has_slot slots q ≡ true
hit_at bodies query slots h q None e t = absurd (false≢true t)
hit_at bodies query slots h q (Some b) e t = h q b e (low_level b, t)

-- what is found among slots that have all whose boxes meet a query
pub hits_among : (bodies : FinMap nat_cmp Bounds) (query : Query) (slots : List ℕ) → HasHitsBelow bodies 11 query slots
    → (q : ℕ) → has_slot (filter (is_found bodies query) slots) q ≡ is_found bodies query q
hits_among bodies query slots h = all_among (is_found bodies query) slots (λ q t. hit_at bodies query slots h q (get bodies q) refl t)

partner_at : (bodies : FinMap nat_cmp Bounds) (body : Bounds) (slots : List ℕ) → HasMetIn bodies 0 11 body slots
    → (q : ℕ) (o : Option Bounds) → get bodies q ≡ o → both_meet (Some body) o ≡ true → has_slot slots q ≡ true
partner_at bodies body slots h q None e t = absurd (false≢true t)
partner_at bodies body slots h q (Some b) e t = h q b e (low_level b, (omega arith, t))

-- a slot reaches its partners, whichever their slots
pub reach_among : (bodies : FinMap nat_cmp Bounds) (slot : ℕ) (body : Bounds) (slots : List ℕ) → get bodies slot ≡ Some body → HasMetIn bodies 0 11 body slots
    → (q : ℕ) → has_slot (filter (is_partner bodies slot body true) slots) q ≡ is_reached bodies slot q
reach_among bodies slot body slots own h q =
    all_among (is_partner bodies slot body true) slots (λ k t.
    partner_at bodies body slots h k (get bodies k) refl (and_parts (not (k == slot) && true) (meets_at bodies body k) t).1) q
    ∙ ap (λ b. b && meets_at bodies body q) (and_true (not (q == slot)))
    ∙ ap (λ o. not (q == slot) && both_meet o (get bodies q)) (sym own)
  where
    and_true : (b : Bool) → (b && true) ≡ b
    and_true true = refl
    and_true false = refl

-- ---- all present slots
present_in : (k : ℕ) (es : List (ℕ × Bounds)) → is_some (find nat_cmp k es) ≡ true → has_slot (map (λ (e : ℕ × Bounds). e.0) es) k ≡ true
present_in k [] h = absurd (false≢true h)
present_in k (e ∷ es) h =
    elim (eq_by_cmp nat_cmp k e.0) as
    (λ b. eq_by_cmp nat_cmp k e.0 ≡ b → is_some (cond b (Some e.1) (find nat_cmp k es)) ≡ true
    → has_slot (map (λ (e : ℕ × Bounds). e.0) (e ∷ es)) k ≡ true) [
      | true ↦ λ t _. let at : k ≡ e.0 = tie_is k e.0 t in let x : (k == e.0) ≡ true = grind (arith, nat_tests) in
          ap (λ b. b || has_slot (map (λ (e : ℕ × Bounds). e.0) es) k) x
      | false ↦ λ _ i. ap (λ b. (k == e.0) || b) (present_in k es i) ∙ or_true (k == e.0)
    ] refl h
  where
    or_true : (b : Bool) → (b || true) ≡ true
    or_true true = refl
    or_true false = refl

pub all_present : (bodies : FinMap nat_cmp Bounds) → AreAllIn bodies (present bodies)
all_present bodies k h = present_in k (entries bodies) (ap is_some (sym (get-entries bodies k)) ∙ h)
