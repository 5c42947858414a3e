-- Serves proofs alone: what a search for the box that is met first keeps of the boxes that it was shown.
use Rattle.std.proofs.Common.{◌≡◌, ℕ, true, false, cond, List, Option, None, Some, is_some}
use Rattle.std.specs.List.{Contains}
use Rattle.std.specs.List.Sorted.{IsPermutation}
use Rattle.std.specs.Ordering.{nat_cmp, on, then_cmp, is_lt, is_gt}
use Rattle.std.specs.declared.cmp.Ordering.{Ordering}
use Rattle.std.proofs.lemmas.List.Sorted.{Contains-permutation, IsPermutation-sym}
use Rattle.fixed_box.specs.Bounds.{Bounds}
use Rattle.ray_slabs.specs.Crossing.{Fraction}
use Rattle.ray_slabs.specs.First.{value_cmp}
use Rattle.live_table.specs.declared.live.Live.{Live}
use Rattle.broad_index.specs.declared.query.Query.{Query}
use Rattle.broad_index.specs.Found.{query_meets}
use Rattle.live_table.specs.Entries.{slot_of, live_at}
use Rattle.live_queries.specs.declared.groups.Groups.{Groups}
use Rattle.live_queries.specs.declared.hit.Hit.{Hit}
use Rattle.live_queries.specs.declared.first_hit.FirstHit.{FirstHit}
use Rattle.live_queries.specs.declared.face.Face.{Face}
use Rattle.live_queries.specs.Beside.{IsHit}
use Rattle.live_queries.specs.First.{IsHitOf}
use Rattle.live_queries.specs.Queries.{is_met, by_place}

-- if the second is met, so is the first, and no later
abbrev pub IsMetNoLater : Option Fraction → Option Fraction → Type 0
IsMetNoLater first second = (t : Fraction) → second ≡ Some t → (s : Fraction) × ((first ≡ Some s) × (is_gt (value_cmp s t) ≡ false))

-- in the order of hits
abbrev pub by_hit : Hit → Hit → Ordering
by_hit = then_cmp (on (λ h. h.entry) value_cmp) (on (λ h. h.slot) nat_cmp)

-- a live box that was shown, is met and asked for
pub record IsSeenMet (place : Bounds → Option Fraction) (groups : Groups) (entries : List Live) (shown : List (ℕ × Bounds)) (entry : Live) : Type 0 where
  pub seen : Contains shown (slot_of entry, entry.body)
  pub live : live_at (slot_of entry) entries ≡ Some entry
  pub met : is_met place groups entry ≡ true

-- A hit is that of a live box that is met and asked for, and comes no later than each of those that were shown.
pub record IsFirstSeen (place : Bounds → Option Fraction) (groups : Groups) (entries : List Live) (hit : Hit) (shown : List (ℕ × Bounds)) : Type 0 where
  pub entry : Live
  pub is : IsHit place entries hit entry
  pub met : is_met place groups entry ≡ true
  pub first : (other : Live) → IsSeenMet place groups entries shown other → is_gt (by_place place entry other) ≡ false

-- The hit so far is the first of what was shown, and there is none if nothing of that is met and asked for.
abbrev pub FirstSeen : (Bounds → Option Fraction) → Groups → List Live → Option Hit → List (ℕ × Bounds) → Type 0
FirstSeen place groups entries None shown = (other : Live) → IsSeenMet place groups entries shown other → ⊥
FirstSeen place groups entries (Some hit) shown = IsFirstSeen place groups entries hit shown

-- What is the first of some boxes is that of others of which each is among them.
pub of_fewer : (place : Bounds → Option Fraction) (groups : Groups) (entries : List Live) (best : Option Hit) (shown other : List (ℕ × Bounds))
    → ((e : Live) → IsSeenMet place groups entries other e → IsSeenMet place groups entries shown e) → FirstSeen place groups entries best shown
    → FirstSeen place groups entries best other
of_fewer place groups entries None shown other among has = λ e is. has e (among e is)
of_fewer place groups entries (Some hit) shown other among has = record {
  entry = has.entry;
  is = has.is;
  met = has.met;
  first = λ e is. has.first e (among e is);
}

-- The order in which boxes were shown doesn't matter.
pub any_order : (place : Bounds → Option Fraction) (groups : Groups) (entries : List Live) (best : Option Hit) (shown other : List (ℕ × Bounds))
    → IsPermutation shown other → FirstSeen place groups entries best shown → FirstSeen place groups entries best other
any_order place groups entries best shown other moved has =
    of_fewer place groups entries best shown other
    (λ e is. record {
      seen = Contains-permutation other shown (slot_of e, e.body) (IsPermutation-sym shown other moved) is.seen;
      live = is.live;
      met = is.met;
    }) has

-- a query asks for what is met
abbrev pub IsAsked : Query → (Bounds → Option Fraction) → Type 0
IsAsked query place = (b : Bounds) → query_meets query b ≡ is_some (place b)

-- A hull isn't met, or later than the first so far.
abbrev pub IsBehind : Option Fraction → Option Hit → Type 0
IsBehind at None = ⊥
IsBehind at (Some best) = (t : Fraction) → at ≡ Some t → is_gt (value_cmp t best.entry) ≡ true

-- the one that comes first
abbrev pub sooner : Hit → Option Hit → Hit
sooner hit None = hit
sooner hit (Some best) = cond (is_lt (by_hit best hit)) best hit

-- What is told of a hit is that of the live box which has it.
abbrev pub IsToldOf : (Bounds → Option Fraction) → (Fraction → Bounds → Option Face) → List Live → Option Hit → Option FirstHit → Type 0
IsToldOf meeting side entries None told = told ≡ None
IsToldOf meeting side entries (Some hit) told = (entry : Live) → IsHit meeting entries hit entry
    → (first : FirstHit) × ((told ≡ Some first) × IsHitOf meeting side entry first)
