-- The slots that an index has found for a ray, or for a cast, are those of live boxes, and all that are met are among them.
use Rattle.std.proofs.Common.{◌≡◌, ℕ, Bool, true, false, cond, List, [], ◌∷◌, map, filter, Some, None, refl, sym, ap, ◌∙◌}
use Rattle.std.specs.Prelude.{is_some, slice_index_or}
use Rattle.fixed_box.specs.Bounds.{Bounds}
use Rattle.fixed_box.specs.declared.point.Point.{Point}
use Rattle.ray_slabs.specs.declared.ray.Ray.{Ray}
use Rattle.ray_slabs.specs.Crossing.{Fraction, in_ray}
use Rattle.ray_slabs.specs.First.{first}
use Rattle.ray_slabs.specs.WideBounds.{widened_box}
use Rattle.box_cast.specs.declared.cast.Cast.{Cast}
use Rattle.box_cast.specs.Cast.{in_cast, first_contact}
use Rattle.live_table.specs.declared.live.Live.{Live}
use Rattle.live_table.specs.Bodies.{bodies_of, slots_with_bodies}
use Rattle.live_table.specs.Entries.{slot_of}
use Rattle.live_table.specs.Table.{Table, IsTable}
use Rattle.broad_index.specs.declared.query.Query.{Query}
use Rattle.broad_index.specs.declared.query.Query.TheVariants.{Along, Swept}
use Rattle.broad_index.specs.Found.{found, found_of, query_meets}
use Rattle.live_queries.specs.Queries.{entry_of, contact_of}
use Rattle.live_queries.specs.Beside.{ListsMet}

found_slots : (query : Query) (es : List Live) → found_of (slots_with_bodies es) query ≡ map slot_of (filter (λ e. query_meets query e.body) es)
found_slots query [] = refl
found_slots query (e ∷ es) =
    elim (query_meets query e.body) as
    (λ b. map (λ x. x.0) (cond b ((slot_of e, e.body) ∷ filter (λ x. query_meets query x.1) (slots_with_bodies es))
    (filter (λ x. query_meets query x.1) (slots_with_bodies es)))
    ≡ map slot_of (cond b (e ∷ filter (λ x. query_meets query x.body) es) (filter (λ x. query_meets query x.body) es))) [
      | true ↦ ap (λ ks. slot_of e ∷ ks) (found_slots query es)
      | false ↦ found_slots query es
    ]

slots_found : (t : Table) (query : Query) (slots : List ℕ) → IsTable t → slots ≡ found (bodies_of t.entries) query
    → slots ≡ map slot_of (filter (λ e. query_meets query e.body) t.entries)
slots_found t query slots is e = e ∙ ap (λ xs. found_of xs query) is.mapped ∙ found_slots query t.entries

pub entered_listed : (t : Table) (ray : Ray) (slots : List ℕ) → IsTable t → slots ≡ found (bodies_of t.entries) (Along ray)
    → ListsMet (entry_of ray) t.entries slots
entered_listed t ray slots is e = record {
  passes = λ e. query_meets (Along ray) e.body;
  listed = slots_found t (Along ray) slots is e;
  met = λ k d l. met (slice_index_or t.entries k d);
}
  where
    some : (b : Bool) (v : Fraction) → is_some (cond b (Some v) None) ≡ true → b ≡ true
    some true v h = refl
    some false v h = h

    met : (e : Live) → is_some (entry_of ray e.body) ≡ true → query_meets (Along ray) e.body ≡ true
    met e h = some (in_ray ray.from ray.dir (widened_box e.body)) (first ray.from ray.dir (widened_box e.body)) h

-- What a cast meets is found for it.
pub cast_listed : (t : Table) (cast : Cast) (slots : List ℕ) → IsTable t
    → ((c : Bounds) (v : Point) (b : Bounds) → is_some (first_contact c v b) ≡ in_cast c v b)
    → slots ≡ found (bodies_of t.entries) (Swept cast) → ListsMet (contact_of cast) t.entries slots
cast_listed t cast slots is some e = record {
  passes = λ e. query_meets (Swept cast) e.body;
  listed = slots_found t (Swept cast) slots is e;
  met = λ k d l h.
      let body : Bounds = (slice_index_or t.entries k d).body in
      sym (some cast.body cast.by body) ∙ h;
}
