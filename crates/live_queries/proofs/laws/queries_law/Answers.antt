-- A list put in order has its members, and rises.
use Rattle.std.proofs.Common.{filter}
use Rattle.ray_slabs.specs.Crossing.{in_ray}
use Rattle.ray_slabs.specs.WideBounds.{widened_box}
use Rattle.box_cast.specs.Cast.{in_cast}
use Rattle.live_queries.specs.Queries.{is_met, by_place, entry_of, contact_of}
use Rattle.live_queries.proofs.NearestHandles.{point_slots}
use Rattle.live_queries.proofs.QueryLaws.{place_total, handles_moved, entered_where}
use Rattle.live_queries.proofs.laws.queries_law.Goals as goal

pub returns-clause-entered : goal.returns-clause-entered
returns-clause-entered c es ray groups =
    handles_moved (entry_of ray) groups (λ e. in_ray ray.from ray.dir (widened_box e.body)) (entered_where ray) es
    (c.order_laws.ensures.members (by_place (entry_of ray)) (filter (is_met (entry_of ray) groups) es))

pub returns-clause-cast : goal.returns-clause-cast
returns-clause-cast c es cast groups =
    handles_moved (contact_of cast) groups (λ e. in_cast cast.body cast.by e.body) (λ e. c.cast_law.ensures.some cast.body cast.by e.body) es
    (c.order_laws.ensures.members (by_place (contact_of cast)) (filter (is_met (contact_of cast) groups) es))

pub returns-clause-rising : goal.returns-clause-rising
returns-clause-rising c place es groups = c.order_laws.ensures.rising (by_place place) (place_total place) (filter (is_met place groups) es)

pub returns-clause-nearest : goal.returns-clause-nearest
returns-clause-nearest c t at want groups is = point_slots t at want groups is
