-- The places of the boxes near a query's region, and those of them whose boxes meet the query.
use Rattle.std.proofs.Common.{◌≡◌, ℕ, suc, ◌+◌, ◌<◌, Bool, true, false, cond, List, [], ◌∷◌, length, map, filter, get_or}
use Rattle.std.proofs.Common.{Some, refl, sym, ap, ap₂, subst, ◌∙◌, arith}
use Rattle.std.proofs.lemmas.Bool.{false≢true}
use Rattle.std.proofs.lemmas.List.{get_or-drop}
use Rattle.std.proofs.lemmas.List.Filters.{FiltersInPlace}
use Rattle.std.proofs.lemmas.Option.{slice_get-get_or}
use Rattle.std.specs.List.{All}
use Rattle.fixed_box.specs.Bounds.{Bounds, meets}
use Rattle.lane_boxes.specs.Places.{places, placed}
use Rattle.broad_index.specs.declared.query.Query.{Query}
use Rattle.broad_index.specs.Entries.{is_met_at}
use Rattle.broad_index.specs.Found.{query_meets}
use Rattle.broad_index.specs.Members.{meets_query}
use Rattle.fixed_box.specs.Space.{space}

-- one box, before those that are kept already
kept_more : (at : ℕ → Bool) (near exact : Bool) (from : ℕ) (b : Bounds) (ns es : List (ℕ × Bounds)) → at from ≡ exact → (exact ≡ true → near ≡ true)
    → filter at (map (λ e. e.0) ns) ≡ map (λ e. e.0) es
    → filter at (map (λ e. e.0) (cond near ((from, b) ∷ ns) ns)) ≡ map (λ e. e.0) (cond exact ((from, b) ∷ es) es)
kept_more at true true from b ns es h i rest = ap₂ (λ t l. cond t (from ∷ l) l) h rest
kept_more at true false from b ns es h i rest = ap₂ (λ t l. cond t (from ∷ l) l) h rest
kept_more at false true from b ns es h i rest = absurd (false≢true (i refl))
kept_more at false false from b ns es h i rest = rest

-- where each box that passes an exact test passes another, the exact one keeps of the other's places its own
kept_from : (at : ℕ → Bool) (near exact : Bounds → Bool) (from : ℕ) (boxes : List Bounds)
    → ((k : ℕ) (d : Bounds) → k < length boxes → at (from + k) ≡ exact (get_or boxes k d)) → All (λ b. exact b ≡ true → near b ≡ true) boxes
    → filter at (places near from boxes) ≡ places exact from boxes
kept_from at near exact from [] f h = refl
kept_from at near exact from (b ∷ boxes) f h =
    kept_more at (near b) (exact b) from b (filter (λ e. near e.1) (placed (from + 1) boxes)) (filter (λ e. exact e.1) (placed (from + 1) boxes))
    (ap at (omega arith) ∙ f 0 b (omega arith)) (h 0 b (omega arith))
    (kept_from at near exact (from + 1) boxes (λ k d l. ap at (omega arith) ∙ f (suc k) d (omega arith)) (λ k d l. h (suc k) d (omega arith)))

pub met_at : (boxes : List Bounds) (query : Query) (k : ℕ) (body : Bounds) → k < length boxes → body ≡ get_or boxes k body
    → is_met_at boxes query k ≡ query_meets query body
met_at boxes query k body l is = ap (meets_query query) (slice_get-get_or boxes k body l ∙ ap (λ b. Some b) (sym is))

-- a list of places that is filtered in place has a place where it is read
pub read_within : (n : ℕ) (p : ℕ → Bool) (xs ys : List ℕ) (k i : ℕ) → FiltersInPlace p xs ys k i → i < length xs → All (λ x. x < n) xs → get_or ys i 0 < n
read_within n p xs ys k i h l within = subst (λ x. x < n) (sym unmoved) (within i 0 l)
  where
    unmoved : get_or ys i 0 ≡ get_or xs i 0
    unmoved =
        ap (λ j. get_or ys j 0) (omega arith) ∙ sym (get_or-drop i ys 0 0) ∙ ap (λ l. get_or l 0 0) h.rest ∙ get_or-drop i xs 0 0
        ∙ ap (λ j. get_or xs j 0) (omega arith)

pub kept_places : (region : Bounds) (query : Query) (boxes : List Bounds) → All (λ b. meets space b ≡ true) boxes
    → ((b : Bounds) → meets space b ≡ true → query_meets query b ≡ true → meets region b ≡ true)
    → filter (is_met_at boxes query) (places (meets region) 0 boxes) ≡ places (query_meets query) 0 boxes
kept_places region query boxes spaced same =
    kept_from (is_met_at boxes query) (meets region) (query_meets query) 0 boxes
    (λ k d l. ap (is_met_at boxes query) (omega arith) ∙ ap (meets_query query) (slice_get-get_or boxes k d l))
    (λ k d l h. same (get_or boxes k d) (spaced k d l) h)
