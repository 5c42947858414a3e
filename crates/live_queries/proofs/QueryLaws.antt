-- The queries in an order of their own, and what they have.
use Rattle.std.proofs.Common.{◌≡◌, Bool, true, false, cond, ◌&&◌, List, filter, Option, Some, None, refl, ap, subst}
use Rattle.std.specs.Prelude.{is_some}
use Rattle.std.specs.Cmp.{IsTotalOrder, nat_cmp_total, on_total, then_total}
use Rattle.std.specs.Cmp.Lexicographic.{options_total}
use Rattle.std.specs.List.Sorted.{IsPermutation}
use Rattle.std.proofs.lemmas.List.Elements.{filter_agree}
use Rattle.std.proofs.lemmas.List.Sorted.{IsPermutation-map}
use Rattle.fixed_box.specs.Bounds.{Bounds}
use Rattle.ray_slabs.specs.declared.ray.Ray.{Ray}
use Rattle.ray_slabs.specs.Crossing.{Fraction, in_ray}
use Rattle.ray_slabs.specs.First.{first}
use Rattle.ray_slabs.specs.FirstLaws.{value_total}
use Rattle.ray_slabs.specs.WideBounds.{widened_box}
use Rattle.live_table.specs.declared.live.Live.{Live}
use Rattle.live_table.specs.Entries.{slot_of}
use Rattle.live_queries.specs.declared.groups.Groups.{Groups}
use Rattle.live_queries.specs.Pairs.{is_asked_for}
use Rattle.live_queries.specs.Queries.{handles, by_place, is_met, met_in_order, entry_of}

pub place_total : (place : Bounds → Option Fraction) → IsTotalOrder (by_place place)
place_total place =
    then_total (on_total (λ (entry : Live). place entry.body) (options_total value_total)) (on_total slot_of nat_cmp_total)

-- boxes in order have the handles of those that pass an equal test
pub handles_moved : (place : Bounds → Option Fraction) (groups : Groups) (meets : Live → Bool) → ((e : Live) → is_some (place e.body) ≡ meets e) → (es : List Live)
    → IsPermutation (filter (is_met place groups) es) (met_in_order place es groups)
    → IsPermutation (handles (filter (λ e. meets e && is_asked_for groups e) es)) (handles (met_in_order place es groups))
handles_moved place groups meets same es moved =
    subst (λ met. IsPermutation (handles met) (handles (met_in_order place es groups)))
    (filter_agree (is_met place groups) (λ e. meets e && is_asked_for groups e) (λ e. ap (λ b. b && is_asked_for groups e) (same e)) es)
    (IsPermutation-map (λ (e : Live). e.handle) (filter (is_met place groups) es) (met_in_order place es groups) moved)

pub entered_where : (ray : Ray) (e : Live) → is_some (entry_of ray e.body) ≡ in_ray ray.from ray.dir (widened_box e.body)
entered_where ray e = some (in_ray ray.from ray.dir (widened_box e.body)) (first ray.from ray.dir (widened_box e.body))
  where
    some : (b : Bool) (t : Fraction) → is_some (cond b (Some t) None) ≡ b
    some true t = refl
    some false t = refl
