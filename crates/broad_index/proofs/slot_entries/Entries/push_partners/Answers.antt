-- The places that the scan gives name the partners.
use Rattle.std.proofs.Common.{◌≡◌, ◌+◌, ◌<◌, ◌++◌, length, drop, zip, ap, sym, ◌∙◌, arith}
use Rattle.std.specs.FinMap.{entries}
use Rattle.fixed_box.specs.Bounds.{meets}
use Rattle.broad_index.specs.Near.{near_of, partners}
use Rattle.std.proofs.Common.{append_assoc}
use Rattle.std.proofs.Common.{ap₂}
use Rattle.std.proofs.lemmas.Result.{on_ok_weaker}
use Rattle.lane_boxes.specs.Places.{places}
use Rattle.broad_index.specs.Entries.{pairs_at}
use Rattle.broad_index.proofs.PlainEntries.{entries_are, few_slots, near_step, partners_named, zip_long}
use Rattle.broad_index.proofs.slot_entries.Entries.push_partners.Goals as goal

pub overflow_add-at : goal.overflow_add-at
overflow_add-at c =
    let slots = c.self.inside.slots.items in
    let boxes = c.self.inside.boxes.boxes in
    let is : entries c.args.self.now ≡ zip slots boxes = ap entries (sym c.self.view_is) ∙ entries_are slots boxes c.self.invariant in
    let long : c.args.at < length slots = omega (arith, ap length is, zip_long slots boxes c.self.invariant) in
    record { fits = omega (arith, long, few_slots slots boxes c.self.invariant) }

pub box_at-requires : goal.box_at-requires
box_at-requires c =
    let slots = c.self.inside.slots.items in
    let boxes = c.self.inside.boxes.boxes in
    let is : entries c.args.self.now ≡ zip slots boxes = ap entries (sym c.self.view_is) ∙ entries_are slots boxes c.self.invariant in
    let long : c.args.at < length slots = omega (arith, ap length is, zip_long slots boxes c.self.invariant) in
    omega (arith, long, c.self.invariant.same)

pub scan_from-requires-clause-few : goal.scan_from-requires-clause-few
scan_from-requires-clause-few c =
    let slots = c.self.inside.slots.items in
    let boxes = c.self.inside.boxes.boxes in
    let is : entries c.args.self.now ≡ zip slots boxes = ap entries (sym c.self.view_is) ∙ entries_are slots boxes c.self.invariant in
    omega (arith, few_slots slots boxes c.self.invariant, c.self.invariant.same)

pub scan_from-requires-clause-within : goal.scan_from-requires-clause-within
scan_from-requires-clause-within c =
    let slots = c.self.inside.slots.items in
    let boxes = c.self.inside.boxes.boxes in
    let is : entries c.args.self.now ≡ zip slots boxes = ap entries (sym c.self.view_is) ∙ entries_are slots boxes c.self.invariant in
    let long : c.args.at < length slots = omega (arith, ap length is, zip_long slots boxes c.self.invariant) in
    omega (arith, long, c.self.invariant.same)

pub index-requires : goal.index-requires
index-requires c =
    let slots = c.self.inside.slots.items in
    let boxes = c.self.inside.boxes.boxes in
    let is : entries c.args.self.now ≡ zip slots boxes = ap entries (sym c.self.view_is) ∙ entries_are slots boxes c.self.invariant in
    let long : c.args.at < length slots = omega (arith, ap length is, zip_long slots boxes c.self.invariant) in
    omega (arith, long)

pub returns-clause-ok : goal.returns-clause-ok
returns-clause-ok c =
    let slots = c.self.inside.slots.items in
    let boxes = c.self.inside.boxes.boxes in
    let is : entries c.args.self.now ≡ zip slots boxes = ap entries (sym c.self.view_is) ∙ entries_are slots boxes c.self.invariant in
    let long : c.args.at < length slots = omega (arith, ap length is, zip_long slots boxes c.self.invariant) in
    let at = c.args.at in
    let body = c.box_at.result in
    let slot = c.index.result.now in
    let law = c.place_laws.ensures.slots (meets body) (at + 1) slots boxes c.self.invariant.same in
    let named = partners_named slots boxes c.self.invariant slot body (at + 1) law in
    let step = near_step slots boxes c.self.invariant at slot body long c.index.ensures c.box_at.ensures in
    let found : c.scan_from.new.out.items ≡ places (meets body) (at + 1) (drop (at + 1) boxes) = rw c.clear.ensures.items at c.in_ok-scan_from.ensures.ok in
    let given : pairs_at slot c.deref.result.now c.deref-2.result.now ≡ partners slot body (drop (at + 1) (zip slots boxes)) =
    ap₂ (pairs_at slot) c.deref.ensures.value (c.deref-2.ensures.value ∙ found) ∙ named
    in
    let later = near_of (drop (at + 1) (zip slots boxes)) in
    let before = c.args.out.now.items in
    rw is
    (on_ok_weaker c.push_pairs.result (λ e.
    ap (λ l. l ++ later) (e ∙ ap (λ l. before ++ l) given)
    ∙ append_assoc before (partners slot body (drop (at + 1) (zip slots boxes))) later
    ∙ ap (λ l. before ++ l) (sym step)) c.push_pairs.ensures.ok)
