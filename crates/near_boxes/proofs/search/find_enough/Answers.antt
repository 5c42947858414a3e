-- What a fattened box's slots give are the boxes within its margin, and where these are enough the nearest are among them.
use Rattle.std.proofs.Common.{◌≡◌, ℕ, List, Option, map, filter, take, ap, ◌∙◌, sym, arith, rules, subst, inl, inr, refl}
use Rattle.std.specs.Prelude.{◌≤◌, length}
use Rattle.std.specs.List.{filter_map}
use Rattle.std.specs.FinMap.{entries}
use Rattle.fixed_box.specs.Bounds.{fattened}
use Rattle.ordered_lists.specs.Ordered.{ordered_by}
use Rattle.broad_index.specs.Found.{found}
use Rattle.broad_index.specs.declared.query.Query.TheVariants.{Region}
use Rattle.near_boxes.specs.declared.near.Near.{Near}
use Rattle.near_boxes.specs.Nearest.{near_cmp, seen_about, squared}
use Rattle.near_boxes.specs.Within.{is_within, all_within, within, Reaches}
use Rattle.near_boxes.specs.NearOrder.{near_total, within_bound}
use Rattle.near_boxes.proofs.Gathered.{gathered_by, all_gathered}
use Rattle.near_boxes.proofs.search.find_enough.Goals as goal

reaches : (margin most : ℕ) → most ≡ squared margin → Reaches margin most
reaches margin most e = inl (at_most most (squared margin) e)
  where
    at_most : (m n : ℕ) → m ≡ n → m ≤ n
    at_most m n e = omega arith

-- what is kept of slots that were read from a list
kept_of : (near : ℕ → Option Near) (read held slots : List ℕ) (kept all : List Near) → kept ≡ filter_map near read → read ≡ held → held ≡ slots
    → filter_map near slots ≡ all → kept ≡ all
kept_of near read held slots kept all is same found whole = is ∙ ap (filter_map near) (same ∙ found) ∙ whole

abbrev front : ℕ → List Near → List Near
front want nears = take want (ordered_by near_cmp nears)

-- those within a distance have the front of all, where they are enough
front_within : (most want : ℕ) (all nears : List Near)
    → (want ≤ length (filter (is_within most) all) → front want all ≡ front want (filter (is_within most) all))
    → nears ≡ filter (is_within most) all → want ≤ length nears → front want nears ≡ front want all
front_within most want all nears bounded is enough = ap (front want) is ∙ sym (bounded (subst (λ l. want ≤ length l) is enough))

pub returns-then-len-want-2 : goal.returns-then-len-want-2
returns-then-len-want-2 g c =
    let bodies = g.T.Bodies.bodies c.args.bodies.now in
    let index = g.B.BroadPhase.bodies c.args.index.now in
    let to = c.args.to.now in
    let margin = c.margins.margin in
    let most = c.from-most.result in
    let want = c.args.want in
    let all : filter_map (within bodies to most) (found index (Region (fattened to margin))) ≡ all_within bodies to most =
    gathered_by to most bodies index margin c.space_law.ensures c.requires.in_space c.requires.among
    (reaches margin most (c.from-most.ensures ∙ c.squared.ensures)) (c.member_laws.ensures.found_rises index) (c.member_laws.ensures.found index)
    in
    let is : c.keep_within.new.found.items ≡ all_within bodies to most =
    kept_of (within bodies to most) c.deref.result.now c.find_slots.new.slots.items (found index (Region (fattened to margin))) c.keep_within.new.found.items
    (all_within bodies to most) c.in_ok-keep_within.ensures c.deref.ensures.value c.in_ok-find_slots.ensures all
    in
    let enough : want ≤ length c.keep_within.new.found.items = first_of (search rules, omega arith, omega (arith, c.keep_within.new.found.ok.0)) in
    front_within most want (map (seen_about to) (entries bodies)) c.keep_within.new.found.items
    (c.order_laws.ensures.bounded near_cmp near_total (is_within most) (within_bound most) want (map (seen_about to) (entries bodies))) is enough

pub returns : goal.returns
returns g c =
    let bodies = g.T.Bodies.bodies c.args.bodies.now in
    let index = g.B.BroadPhase.bodies c.args.index.now in
    let to = c.args.to.now in
    let most : ℕ = 340282366920938463463374607431768211455 in
    let space = fattened to 4294967295 in
    let all : filter_map (within bodies to most) (found index (Region space)) ≡ all_within bodies to most =
    gathered_by to most bodies index 4294967295 c.space_law.ensures c.requires.in_space c.requires.among (inr refl)
    (c.member_laws.ensures.found_rises index) (c.member_laws.ensures.found index)
    in
    let is : c.keep_within-2.new.found.items ≡ all_within bodies to most =
    kept_of (within bodies to most) c.deref-2.result.now c.find_slots-2.new.slots.items (found index (Region space)) c.keep_within-2.new.found.items
    (all_within bodies to most) c.in_ok-keep_within-2.ensures c.deref-2.ensures.value c.in_ok-find_slots-2.ensures all
    in
    let whole : all_within bodies to most ≡ map (seen_about to) (entries bodies) =
    all_gathered to bodies c.space_law.ensures c.requires.in_space in
    ap (front c.args.want) (is ∙ whole)
