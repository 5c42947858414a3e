-- What holds of the whole list in order, cut after its first members, and of no other list.
use Rattle.std.proofs.Common.{List, min, map, ap, sym, ◌∙◌}
use Rattle.std.specs.Ordering.{nat_cmp}
use Rattle.std.specs.FinMap.{FinMap, entries, len-entries}
use Rattle.std.proofs.lemmas.List.{length-take, length-map}
use Rattle.std.proofs.lemmas.List.Sorted.{Contains-permutation}
use Rattle.fixed_box.specs.Bounds.{Bounds}
use Rattle.ordered_lists.specs.Ordered.{ordered_by}
use Rattle.near_boxes.specs.declared.near.Near.{Near}
use Rattle.near_boxes.specs.Nearest.{near_cmp, seen_about}
use Rattle.near_boxes.specs.NearOrder.{near_total}
use Rattle.near_boxes.proofs.NearMembers.{seen, seen_in, front_member, front_rising, front_before}
use Rattle.near_boxes.proofs.OneNearest.{one_nearest}
use Rattle.near_boxes.proofs.laws.nearest_about_law.Goals as goal

abbrev all : FinMap nat_cmp Bounds → Bounds → List Near
all bodies to = map (seen_about to) (entries bodies)

abbrev ordered : FinMap nat_cmp Bounds → Bounds → List Near
ordered bodies to = ordered_by near_cmp (all bodies to)

pub returns-clause-nearest : goal.returns-clause-nearest
returns-clause-nearest c bodies to want =
    let moved = c.order_laws.ensures.members near_cmp (all bodies to) in
    let sorted = c.order_laws.ensures.rising near_cmp near_total (all bodies to) in
    record {
      count =
          length-take want (ordered bodies to)
          ∙ ap (min want) (c.order_laws.ensures.len near_cmp (all bodies to) ∙ length-map (entries bodies) (seen_about to) ∙ sym (len-entries bodies));
      seen = λ near h.
          seen bodies to near (c.order_laws.ensures.member near_cmp (all bodies to) near (front_member bodies to moved sorted want near h));
      rising = front_rising bodies to moved sorted want;
      left_out = λ near other h s.
          front_before bodies to moved sorted want near other h
          (Contains-permutation (all bodies to) (ordered bodies to) other moved (seen_in bodies to other s));
    }

pub returns-clause-only : goal.returns-clause-only
returns-clause-only c bodies to want nears a =
    one_nearest bodies to (c.order_laws.ensures.members near_cmp (all bodies to)) (c.order_laws.ensures.rising near_cmp near_total (all bodies to)) want nears a
