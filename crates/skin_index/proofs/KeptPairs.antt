-- Serves proofs alone: kept pairs while skins change, and what marked skins meet.
use Rattle.std.proofs.Common.{◌≡◌, ℕ, Bool, true, false, not, ◌&&◌, ◌||◌, ◌==◌, nat_lt, List, [], ◌∷◌, ◌++◌, Option, Some, None, slice_index_or}
use Rattle.std.proofs.Common.{◌<◌, ◌≤◌, length, get_or, refl, sym, ap, ◌∙◌, append_assoc, append-nil, arith, subst}
use Rattle.std.specs.List.{filter}
use Rattle.std.specs.Ordering.{nat_cmp}
use Rattle.std.specs.FinMap.{FinMap, get, insert}
use Rattle.std.proofs.lemmas.Bool.{eqb-true, and_parts, and_from, false≢true}
use Rattle.fixed_box.specs.Bounds.{Bounds, encloses}
use Rattle.fixed_box.proofs.Bools.{and_comm}
use Rattle.slot_lists.specs.Meeting.{both_meet}
use Rattle.slot_lists.specs.Patterns.{rest_of, rest_is}
use Rattle.slot_lists.specs.RisingLaws.{filtered_rise}
use Rattle.broad_index.specs.declared.pair.Pair.{Pair}
use Rattle.broad_index.specs.declared.query.Query.{Query}
use Rattle.broad_index.specs.declared.query.Query.TheVariants.{Region}
use Rattle.broad_index.specs.Found.{found}
use Rattle.broad_index.specs.Near.{near, rises}
use Rattle.broad_index.specs.Reach.{reach}
use Rattle.broad_index.specs.Members.{has_pair, has_slot, slots_rise, is_near, is_found, is_reached, meets_query}
use Rattle.broad_index.specs.Touched.{ordered_pairs, AreKept}
use Rattle.skin_index.specs.Skins.{pairs_met, AreSkins, AreMarks, ArePairsKept, IsSkinned}
use Rattle.skin_index.specs.declared.marked_skins.MarkedSkins.{MarkedSkins}
use Rattle.skin_index.proofs.Skins.{any_filter, skins_put}

-- ---- one skin is marked
neither : (x y : Bool) → not (x || y) ≡ true → (x ≡ false) × (not y ≡ true)
neither true y e = absurd (false≢true e)
neither false y e = (refl, e)

module _ (old new : FinMap nat_cmp Bounds) (slot : ℕ)
    (same : (p : Pair) → (p.a == slot) ≡ false → (p.b == slot) ≡ false → is_near new p ≡ is_near old p)
    (marks marks' : List Bool) (marked : (k : ℕ) → slice_index_or marks' k false ≡ (k == slot || slice_index_or marks k false)) where
  was : (k : ℕ) → not (slice_index_or marks' k false) ≡ true → ((k == slot) ≡ false) × (not (slice_index_or marks k false) ≡ true)
  was k h = neither (k == slot) (slice_index_or marks k false) (sym (ap not (marked k)) ∙ h)

  right_on : (kept : List Pair) → AreKept old marks kept → AreKept new marks' kept
  right_on kept right p h =
      let parts = and_parts (not (slice_index_or marks' p.a false)) (not (slice_index_or marks' p.b false)) h in
      let a = was p.a parts.0 in
      let b = was p.b parts.1 in
      right p (and_from (not (slice_index_or marks p.a false)) (not (slice_index_or marks p.b false)) a.1 b.1) ∙ sym (same p a.0 b.0)

  pub kept_on : (slots slots' : List ℕ) (kept : List Pair) → ArePairsKept old marks slots kept → AreMarks marks' slots' → ArePairsKept new marks' slots' kept
  kept_on slots slots' kept h are = record { listed = are; rise = h.rise; right = right_on kept h.right }

-- ---- the pairs are those of the skins
pub kept_near : (skins : FinMap nat_cmp Bounds) → rises (near skins) ≡ true → ((p : Pair) → has_pair (near skins) p ≡ is_near skins p)
    → (marks : List Bool) (slots : List ℕ) → AreMarks marks slots → ArePairsKept skins marks slots (near skins)
kept_near skins rise members marks slots are = record { listed = are; rise = rise; right = λ p _. members p }

-- ---- what a skin meets
module _ (skins : FinMap nat_cmp Bounds)
    (found_members : (query : Query) (k : ℕ) → has_slot (found skins query) k ≡ is_found skins query k)
    (found_rises : (query : Query) → slots_rise (found skins query) ≡ true)
    (is_reach : (slot : ℕ) (slots : List ℕ) → slots_rise slots ≡ true → ((k : ℕ) → has_slot slots k ≡ is_reached skins slot k) → slots ≡ reach skins slot) where
  pub reach_found : (slot : ℕ) (skin : Bounds) → get skins slot ≡ Some skin
      → filter (λ other. not (other == slot)) (found skins (Region skin)) ≡ reach skins slot
  reach_found slot skin here =
      is_reach slot (filter (λ other. not (other == slot)) (found skins (Region skin)))
      (filtered_rise nat_lt (λ other. not (other == slot)) (found skins (Region skin)) (found_rises (Region skin)))
      (λ k. any_filter (λ j x. j == x) (λ j x e. eqb-true j x e) (λ other. not (other == slot)) k (found skins (Region skin))
      ∙ ap (λ b. b && not (k == slot)) (found_members (Region skin) k)
      ∙ and_comm (is_found skins (Region skin) k) (not (k == slot))
      ∙ ap (λ b. not (k == slot) && b) (by_box (get skins k) ∙ sym (ap (λ o. both_meet o (get skins k)) here)))
    where
      by_box : (o : Option Bounds) → meets_query (Region skin) o ≡ both_meet (Some skin) o
      by_box None = refl
      by_box (Some b) = refl

module _ (skins : FinMap nat_cmp Bounds) (slot : ℕ) where
  -- one more of the marked slots
  met_by_more : (more : List ℕ) (before after : List Pair) → after ≡ before ++ ordered_pairs slot (reach skins slot)
      → after ++ pairs_met skins more ≡ before ++ pairs_met skins (slot ∷ more)
  met_by_more more before after is = ap (λ l. l ++ pairs_met skins more) is ∙ append_assoc before (ordered_pairs slot (reach skins slot)) (pairs_met skins more)

module _ (skins : FinMap nat_cmp Bounds) where
  pub met_by_rest : (rest : List ℕ) (before after : List Pair) → 1 ≤ length rest
      → after ≡ before ++ ordered_pairs (get_or rest 0 0) (reach skins (get_or rest 0 0))
      → after ++ pairs_met skins (rest_of rest) ≡ before ++ pairs_met skins rest
  met_by_rest [] before after some is = absurd (omega arith)
  met_by_rest (x ∷ xs) before after some is =
      ap (λ zs. after ++ pairs_met skins zs) (rest_is x xs) ∙ met_by_more skins x xs before after is

  pub met_by_all : (rest : List ℕ) (found all : List Pair) → length rest < 1 → found ++ pairs_met skins rest ≡ all → found ≡ all
  met_by_all [] found all none is = sym (append-nil found) ∙ is
  met_by_all (x ∷ xs) found all none is = absurd (omega arith)

-- ---- a box with a new skin
module _ (bodies skins : FinMap nat_cmp Bounds) (index_spent spent : Bool) (old : MarkedSkins) (kept : List Pair)
    (was : IsSkinned bodies skins index_spent spent old kept) (sound : spent ≡ false)
    (inserted : (k : ℕ) (v : Bounds) (p : Pair) → (p.a == k) ≡ false → (p.b == k) ≡ false → is_near (insert skins k v) p ≡ is_near skins p) where
  pub skinned_put : (slot : ℕ) (body skin : Bounds) → encloses skin body ≡ true → (new : MarkedSkins) → (new.all ≡ false → old.all ≡ false)
      → (new.all ≡ false → AreMarks new.marks new.slots.items)
      → (new.all ≡ false → (k : ℕ) → slice_index_or new.marks k false ≡ (k == slot || slice_index_or old.marks k false))
      → (bodies' skins' : FinMap nat_cmp Bounds) (index_spent' : Bool) → bodies' ≡ insert bodies slot body → skins' ≡ insert skins slot skin
      → index_spent' ≡ false → IsSkinned bodies' skins' index_spent' false new kept
  skinned_put slot body skin within new were_few are marked bodies' skins' index_spent' bodies_are skins_are lasts = record {
    same_spent = lasts;
    held = λ _. subst (λ m. AreSkins bodies' m) (sym skins_are)
        (subst (λ m. AreSkins m (insert skins slot skin)) (sym bodies_are) (skins_put bodies skins (was.held sound) slot body skin within));
    pairs_kept = λ _ few. subst (λ m. ArePairsKept m new.marks new.slots.items kept) (sym skins_are)
        (kept_on skins (insert skins slot skin) slot (inserted slot skin) old.marks new.marks (marked few) old.slots.items new.slots.items kept
        (was.pairs_kept sound (were_few few)) (are few));
  }
