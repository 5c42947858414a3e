-- The nearest slots of the boxes that are asked for, told in handles, are the nearest of these boxes.
use Rattle.std.proofs.Common.{◌≡◌, ℕ, Bool, true, false, cond, List, [], ◌∷◌, map, filter, take, Some, refl, sym, ap, ◌∙◌, subst}
use Rattle.std.specs.List.{filter_map}
use Rattle.fixed_box.specs.declared.point.Point.{Point}
use Rattle.fixed_box.specs.Bounds.{Bounds}
use Rattle.ordered_lists.specs.Ordered.{ordered_by}
use Rattle.near_boxes.specs.declared.near.Near.{Near}
use Rattle.near_boxes.specs.Nearest.{near_cmp, seen_about, nearest, nearest_about, nearest_about_of, spot}
use Rattle.live_table.specs.declared.handle.Handle.{Handle}
use Rattle.live_table.specs.declared.live.Live.{Live}
use Rattle.live_table.specs.Bodies.{bodies_of, slots_with_bodies}
use Rattle.live_table.specs.Entries.{slot_of, live_at}
use Rattle.live_table.specs.Table.{Table, IsTable}
use Rattle.live_queries.specs.declared.groups.Groups.{Groups}
use Rattle.live_queries.specs.Pairs.{is_asked_for}
use Rattle.live_queries.specs.Queries.{handles, asked_for, asked_from, is_from, by_distance, by_gap, nearest_to, nearest_to_box}
use Rattle.live_queries.specs.Beside.{AreBeside, handle_at}
use Rattle.live_queries.proofs.Asked.{entries_asked, from_none}
use Rattle.live_queries.proofs.BesideLaws.{ordered_beside, front_beside, handles_beside}
use Rattle.live_queries.proofs.Touches.{AreFound, all_found}

module _ (body : Bounds) (all : List Live) where
  -- a slot with its square is that of a live box
  record IsSeen (near : Near) (entry : Live) : Type 0 where
    pub seen : near ≡ seen_about body (slot_of entry, entry.body)
    pub live : live_at (slot_of entry) all ≡ Some entry

  some_found : (p : Live → Bool) (es : List Live) → AreFound all es → AreFound all (filter p es)
  some_found p [] h = tt
  some_found p (e ∷ es) h = elim (p e) as (λ b. AreFound all (cond b (e ∷ filter p es) (filter p es))) [
    | true ↦ (h.0, some_found p es h.1)
    | false ↦ some_found p es h.1
  ]

  seen_beside : (es : List Live) → AreFound all es → AreBeside IsSeen (map (seen_about body) (slots_with_bodies es)) es
  seen_beside [] h = tt
  seen_beside (e ∷ es) h = (record { seen = refl; live = h.0 }, seen_beside es h.1)

  agree : (n m : Near) (e f : Live) → IsSeen n e → IsSeen m f → near_cmp n m ≡ by_gap body e f
  agree n m e f r s = λ i. near_cmp (r.seen i) (s.seen i)

  found : (n : Near) (e : Live) → IsSeen n e → live_at n.slot all ≡ Some e
  found n e r = ap (λ (m : Near). live_at m.slot all) r.seen ∙ r.live

  slots_seen : (ns : List Near) (es : List Live) → AreBeside IsSeen ns es → map (λ (h : Handle). h.slot) (handles es) ≡ map (λ (n : Near). n.slot) ns
  slots_seen [] [] b = refl
  slots_seen [] (e ∷ es) b = absurd b
  slots_seen (n ∷ ns) [] b = absurd b
  slots_seen (n ∷ ns) (e ∷ es) b = λ i. sym (ap (λ (m : Near). m.slot) b.0.seen) i ∷ slots_seen ns es b.1 i

module _ (t : Table) (is : IsTable t) (body : Bounds) (from want : ℕ) (groups : Groups) where
  abbrev asked : List Live
  asked = asked_from t.entries body from groups

  -- the nearest slots beside the boxes that are asked for, put in order and cut
  beside : AreBeside (IsSeen body t.entries) (nearest_about (bodies_of asked) body want) (take want (ordered_by (by_gap body) asked))
  beside =
      let seen : List Near = map (seen_about body) (slots_with_bodies asked) in
      subst (λ xs. AreBeside (IsSeen body t.entries) (nearest_about_of xs body want) (take want (ordered_by (by_gap body) asked)))
      (sym (entries_asked body from groups t is))
      (front_beside (IsSeen body t.entries) want (ordered_by near_cmp seen) (ordered_by (by_gap body) asked)
      (ordered_beside (IsSeen body t.entries) near_cmp (by_gap body) (agree body t.entries) seen asked
      (seen_beside body t.entries asked (some_found body t.entries (is_from body from) (asked_for t.entries groups)
      (some_found body t.entries (is_asked_for groups) t.entries (all_found t.entries is.rising))))))

  pub nearest_slots : map (λ (h : Handle). h.slot) (nearest_to_box t.entries body from want groups)
      ≡ map (λ (n : Near). n.slot) (nearest_about (bodies_of asked) body want)
  nearest_slots = slots_seen body t.entries (nearest_about (bodies_of asked) body want) (take want (ordered_by (by_gap body) asked)) beside

  pub nearest_handles : (nears : List Near) → nears ≡ nearest_about (bodies_of asked) body want
      → filter_map (λ (n : Near). handle_at t.entries n.slot) nears ≡ nearest_to_box t.entries body from want groups
  nearest_handles nears e =
      ap (filter_map (λ (n : Near). handle_at t.entries n.slot)) e
      ∙ handles_beside (λ (n : Near). n.slot) (IsSeen body t.entries) t.entries (found body t.entries) (nearest_about (bodies_of asked) body want)
      (take want (ordered_by (by_gap body) asked)) beside

-- The nearest to a point are those nearest to the flat box at it, from no distance on.
pub at_spot : (es : List Live) (at : Point) (want : ℕ) (groups : Groups) → nearest_to es at want groups ≡ nearest_to_box es (spot at) 0 want groups
at_spot es at want groups = ap (λ l. handles (take want (ordered_by (by_distance at) l))) (sym (from_none (spot at) (asked_for es groups)))

pub point_slots : (t : Table) (at : Point) (want : ℕ) (groups : Groups) → IsTable t
    → map (λ (h : Handle). h.slot) (nearest_to t.entries at want groups) ≡ map (λ (n : Near). n.slot) (nearest (bodies_of (asked_for t.entries groups)) at want)
point_slots t at want groups is =
    ap (map (λ (h : Handle). h.slot)) (at_spot t.entries at want groups) ∙ nearest_slots t is (spot at) 0 want groups
    ∙ ap (λ l. map (λ (n : Near). n.slot) (nearest (bodies_of l) at want)) (from_none (spot at) (asked_for t.entries groups))
