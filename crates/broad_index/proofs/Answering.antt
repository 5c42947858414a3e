-- A rising list with the right members is the one that is asked for.
use Rattle.std.proofs.Common.{◌≡◌, ℕ, Bool, true, List, sym, ◌∙◌}
use Rattle.std.specs.Ordering.{nat_cmp}
use Rattle.std.specs.FinMap.{FinMap}
use Rattle.fixed_box.specs.Bounds.{Bounds}
use Rattle.broad_index.specs.declared.pair.Pair.{Pair}
use Rattle.broad_index.specs.declared.query.Query.{Query}
use Rattle.broad_index.specs.Found.{found, listed}
use Rattle.broad_index.specs.Near.{near, rises}
use Rattle.broad_index.specs.NearRises.{near_rises}
use Rattle.broad_index.specs.Members.{has_pair, has_slot, slots_rise, is_near, is_listed, is_found, is_reached}
use Rattle.broad_index.specs.Reach.{reach}
use Rattle.broad_index.proofs.MapMembers.{near_members, listed_members, listed_rises, found_members, found_rises, reach_members, reach_rises}
use Rattle.broad_index.proofs.OneRising.{one_rising_pairs, one_rising_slots}

module _ (bodies : FinMap nat_cmp Bounds) where
  pub near_is : (pairs : List Pair) → rises pairs ≡ true → ((p : Pair) → has_pair pairs p ≡ is_near bodies p) → pairs ≡ near bodies
  near_is pairs up is = one_rising_pairs pairs (near bodies) up (near_rises bodies) (λ p. is p ∙ sym (near_members bodies p))

  pub listed_is : (p : ℕ × Bounds → Bool) (slots : List ℕ) → slots_rise slots ≡ true → ((k : ℕ) → has_slot slots k ≡ is_listed p bodies k)
      → slots ≡ listed p bodies
  listed_is p slots up is = one_rising_slots slots (listed p bodies) up (listed_rises bodies p) (λ k. is k ∙ sym (listed_members bodies p k))

  pub found_is : (query : Query) (slots : List ℕ) → slots_rise slots ≡ true → ((k : ℕ) → has_slot slots k ≡ is_found bodies query k)
      → slots ≡ found bodies query
  found_is query slots up is = one_rising_slots slots (found bodies query) up (found_rises bodies query) (λ k. is k ∙ sym (found_members bodies query k))

  pub reach_is : (slot : ℕ) (slots : List ℕ) → slots_rise slots ≡ true → ((k : ℕ) → has_slot slots k ≡ is_reached bodies slot k) → slots ≡ reach bodies slot
  reach_is slot slots up is = one_rising_slots slots (reach bodies slot) up (reach_rises bodies slot) (λ k. is k ∙ sym (reach_members bodies slot k))
