-- What stands at the slots is what the map has.
use Rattle.std.proofs.Common.{◌≡◌, ℕ, ◌≤◌, ◌<◌, List, false, length, Option, arith, sym, ◌∙◌, None, Some, ap, get_or, refl}
use Rattle.std.proofs.lemmas.List.{get_or_read}
use Rattle.std.specs.Ordering.{nat_cmp}
use Rattle.std.specs.FinMap.{FinMap, get}
use Rattle.fixed_box.specs.Bounds.{Bounds}
use Rattle.slot_lists.specs.Meeting.{both_meet}
use Rattle.slot_lists.specs.SlotMap.{map_of}
use Rattle.slot_lists.specs.SlotMapLaws.{get_map}
use Rattle.fixed_box.proofs.Lists.{past}
use Rattle.slot_lists.proofs.slot_boxes.SlotBoxes.meet.Goals as goal

-- a slot behind the list has no box
absent : (boxes : List (Option Bounds)) (now : FinMap nat_cmp Bounds) (s : ℕ) → map_of boxes ≡ now → length boxes ≤ s → get now s ≡ None
absent boxes now s is le = ap (λ m. get m s) (sym is) ∙ get_map boxes s ∙ past boxes s le

-- and one within it what stands there
there : (boxes : List (Option Bounds)) (now : FinMap nat_cmp Bounds) (s : ℕ) → map_of boxes ≡ now → get now s ≡ get_or boxes s None
there boxes now s is = ap (λ m. get m s) (sym is) ∙ get_map boxes s

no_other : (o : Option Bounds) → both_meet o None ≡ false
no_other None = refl
no_other (Some a) = refl

pub returns-then-a-len : goal.returns-then-a-len
returns-then-a-len c =
    let none = absent c.self.inside.boxes.items c.args.self.now c.args.a c.self.view_is (omega (arith, c.if-a-len.true, c.len.ensures)) in
    sym (ap (λ o. both_meet o (get c.args.self.now c.args.b)) none)

pub returns-then-b-len : goal.returns-then-b-len
returns-then-b-len c =
    let none = absent c.self.inside.boxes.items c.args.self.now c.args.b c.self.view_is (omega (arith, c.if-b-len.true, c.len-2.ensures)) in
    sym (ap (both_meet (get c.args.self.now c.args.a)) none ∙ no_other (get c.args.self.now c.args.a))

pub returns : goal.returns
returns c =
    let a = at c.args.a c.index.result.now (omega (arith, c.if-a-len.false, c.len.ensures)) c.index.ensures in
    let b = at c.args.b c.index-2.result.now (omega (arith, c.if-b-len.false, c.len-2.ensures)) c.index-2.ensures in
    c.both_meet.ensures ∙ ap (λ o. both_meet o c.index-2.result.now) a ∙ ap (both_meet (get c.args.self.now c.args.a)) b
  where
    at : (s : ℕ) (o : Option Bounds) → s < length c.self.inside.boxes.items → o ≡ get_or c.self.inside.boxes.items s o → o ≡ get c.args.self.now s
    at s o lt is = sym (there c.self.inside.boxes.items c.args.self.now s c.self.view_is ∙ sym (get_or_read c.self.inside.boxes.items s o lt is None))
