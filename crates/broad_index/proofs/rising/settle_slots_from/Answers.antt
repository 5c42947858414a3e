-- What stood before is followed by a rising list with the members of what stood behind.
use Rattle.std.proofs.Common.{◌≡◌, ℕ, ◌+◌, ◌-◌, ◌++◌, List, length, take, drop, ap, sym, ◌∙◌, arith, length-take}
use Rattle.std.proofs.lemmas.Grind.{common_steps}
use Rattle.std.proofs.Math.Seq.{take-append-add}
use Rattle.broad_index.specs.Members.{has_slot}
use Rattle.broad_index.proofs.Answering.{listed_is, found_is, reach_is}
use Rattle.broad_index.proofs.rising.settle_slots_from.Goals as goal

module _ (c : goal.After-truncate) where
  abbrev old : List ℕ
  old = c.args.slots.now.items

  abbrev front : List ℕ
  front = take c.settle_front-kept.result c.settle_front-kept.new.slots

  left : c.truncate.new.self.items ≡ take c.args.from old ++ front
  left =
      let moved = c.settle_front-kept.new.slots in
      let kept = c.settle_front-kept.result in
      let is : c.truncate.new.self.items ≡ take (c.args.from + kept) (take c.args.from c.args.slots.now.items ++ moved) = grind (arith, common_steps) in
      let long : length (take c.args.from c.args.slots.now.items) ≡ c.args.from =
      omega (arith, c.requires.within, length-take c.args.from c.args.slots.now.items) in
      is ∙ ap (λ n. take (n + kept) (take c.args.from old ++ moved)) (sym long) ∙ take-append-add (take c.args.from old) moved kept

  members : (k : ℕ) → has_slot front k ≡ has_slot (drop c.args.from old) k
  members k =
      let tail : take (length c.deref_mut.result.now - c.args.from) (drop c.args.from c.deref_mut.result.now) ≡ drop c.args.from c.args.slots.now.items =
      grind (arith, common_steps)
      in
      c.settle_front-kept.ensures.members k ∙ ap (λ ks. has_slot ks k) tail

pub returns-clause-listed : goal.returns-clause-listed
returns-clause-listed c bodies p is =
    left c ∙ ap (λ ks. take c.args.from c.args.slots.now.items ++ ks)
    (listed_is bodies p (front c) c.settle_front-kept.ensures.rises (λ k. members c k ∙ is k))

pub returns-clause-found : goal.returns-clause-found
returns-clause-found c bodies query is =
    left c ∙ ap (λ ks. take c.args.from c.args.slots.now.items ++ ks)
    (found_is bodies query (front c) c.settle_front-kept.ensures.rises (λ k. members c k ∙ is k))

pub returns-clause-reach : goal.returns-clause-reach
returns-clause-reach c bodies slot is =
    left c ∙ ap (λ ks. take c.args.from c.args.slots.now.items ++ ks)
    (reach_is bodies slot (front c) c.settle_front-kept.ensures.rises (λ k. members c k ∙ is k))
