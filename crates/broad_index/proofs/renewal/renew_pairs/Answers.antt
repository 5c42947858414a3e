-- What stays of the kept pairs, and what was found, in order.
use Rattle.std.proofs.Common.{rules, ◌≡◌, ◌||◌, [], true, vec_len, filter, sym, ap, ◌∙◌, arith}
use Rattle.std.proofs.lemmas.Bool.{eqb-true}
use Rattle.std.proofs.lemmas.List.{nil_from_length}
use Rattle.fixed_box.proofs.Bools.{or_false}
use Rattle.slot_lists.specs.RisingLaws.{filtered_rise}
use Rattle.broad_index.specs.Near.{precedes, rises}
use Rattle.broad_index.specs.Members.{has_pair}
use Rattle.broad_index.specs.Touched.{stays}
use Rattle.broad_index.proofs.Touching.{renewed}
use Rattle.broad_index.proofs.renewal.renew_pairs.Goals as goal

-- where nothing was found, the kept pairs that stay are left
left : (c : goal.After-keep_passing) → c.keep_passing.new.items.items ≡ filter (stays c.args.marks.now) c.args.kept.now.items
left c = c.keep_passing.ensures (stays c.args.marks.now) (λ item r h. search rules)

up : (c : goal.After-keep_passing) → rises c.keep_passing.new.items.items ≡ true
up c = ap rises (left c) ∙ filtered_rise precedes (stays c.args.marks.now) c.args.kept.now.items c.requires.kept

pub returns-then-is_empty-clause-rises : goal.returns-then-is_empty-clause-rises
returns-then-is_empty-clause-rises c = up c

pub returns-then-is_empty-clause-near : goal.returns-then-is_empty-clause-near
returns-then-is_empty-clause-near c bodies r =
    let empty = eqb-true (vec_len c.settle_pairs.new.pairs) 0 (sym c.is_empty.ensures ∙ c.if-is_empty.true) in
    let none : c.settle_pairs.new.pairs.items ≡ [] = nil_from_length c.settle_pairs.new.pairs.items (omega (arith, empty)) in
    renewed bodies c.args.marks.now c.args.kept.now.items c.args.found.now.items c.keep_passing.new.items.items r (up c)
    (λ p. ap (λ ps. has_pair ps p) (left c)
    ∙ sym (ap (λ b. has_pair (filter (stays c.args.marks.now) c.args.kept.now.items) p || b)
    (sym (c.settle_pairs.ensures.members p) ∙ ap (λ ps. has_pair ps p) none) ∙ or_false (has_pair (filter (stays c.args.marks.now) c.args.kept.now.items) p)))

pub returns-clause-near : goal.returns-clause-near
returns-clause-near c bodies r =
    renewed bodies c.args.marks.now c.args.kept.now.items c.args.found.now.items c.swap.new.x.items r
    (ap (λ v. rises v.items) c.swap.ensures.x_after ∙ c.in_ok-merge_staying.ensures.rises)
    (λ p. ap (λ v. has_pair v.items p) c.swap.ensures.x_after ∙ c.in_ok-merge_staying.ensures.members p
    ∙ ap (λ ps. has_pair (filter (stays c.args.marks.now) ps) p || has_pair c.deref-2.result.now p) c.deref.ensures.value
    ∙ ap (λ b. has_pair (filter (stays c.args.marks.now) c.args.kept.now.items) p || b)
    (ap (λ ps. has_pair ps p) c.deref-2.ensures.value ∙ c.settle_pairs.ensures.members p))
