-- The corners are in order, and the box reaches both.
use Rattle.std.proofs.Common.{◌≡◌, true, sym, subst}
use Rattle.std.proofs.lemmas.Bool.{and_parts}
use Rattle.fixed_box.specs.declared.point.Point.{Point}
use Rattle.fixed_box.specs.Point.{is_at_most}
use Rattle.grid_boxes.proofs.HullLemmas.{met_between}
use Rattle.fixed_box.proofs.Corners.{at_most_chain}
use Rattle.grid_boxes.proofs.hull.part_in.Goals as goal

pub returns : goal.returns
returns c b o e m =
    let hull = c.args.hull.now in
    let region = c.args.region.now in
    let held = and_parts (is_at_most hull.lo b.lo) (is_at_most b.hi hull.hi) e in
    let met = and_parts (is_at_most region.lo b.hi) (is_at_most b.lo region.hi) m in
    let ordered : is_at_most region.lo region.hi ≡ true = c.lo-2.ensures.ordered in
    let above : (r : Point) → is_at_most hull.lo r ≡ true → is_at_most region.lo r ≡ true → is_at_most c.greater.result r ≡ true =
    λ r p q. c.greater.ensures r (subst (λ (s : Point). is_at_most s r ≡ true) (sym c.lo.ensures.lo) p)
    (subst (λ (s : Point). is_at_most s r ≡ true) (sym c.lo-2.ensures.lo) q) in
    let below : (r : Point) → is_at_most r hull.hi ≡ true → is_at_most r region.hi ≡ true → is_at_most r c.lesser.result ≡ true =
    λ r p q. c.lesser.ensures r (subst (λ (s : Point). is_at_most r s ≡ true) (sym c.hi.ensures.hi) p)
    (subst (λ (s : Point). is_at_most r s ≡ true) (sym c.hi-2.ensures.hi) q) in
    met_between _ _ b c.new.result c.new.ensures
    (above c.lesser.result
    (below hull.lo (at_most_chain hull.lo b.lo hull.hi held.0 (at_most_chain b.lo b.hi hull.hi o held.1)) (at_most_chain hull.lo b.lo region.hi held.0 met.1))
    (below region.lo (at_most_chain region.lo b.hi hull.hi met.0 held.1) ordered))
    (above b.hi (at_most_chain hull.lo b.lo b.hi held.0 o) met.0)
    (below b.lo (at_most_chain b.lo b.hi hull.hi o held.1) met.1)
