-- The places of the boxes that meet the query name the slots that are found.
use Rattle.std.proofs.Common.{◌≡◌, ◌++◌, Bool, length, zip, ap, sym, ◌∙◌, arith}
use Rattle.std.specs.FinMap.{entries}
use Rattle.fixed_box.specs.Bounds.{Bounds}
use Rattle.broad_index.specs.Found.{found_of, query_meets}
use Rattle.broad_index.proofs.PlainEntries.{entries_are, few_slots, found_named}
use Rattle.broad_index.proofs.slot_entries.Entries.push_found.Goals as goal

pub push_met_places-requires-clause-few : goal.push_met_places-requires-clause-few
push_met_places-requires-clause-few c =
    let slots = c.self.inside.slots.items in
    let boxes = c.self.inside.boxes.boxes in
    omega (arith, few_slots slots boxes c.self.invariant, c.self.invariant.same)

pub returns-clause-ok : goal.returns-clause-ok
returns-clause-ok c =
    let slots = c.self.inside.slots.items in
    let boxes = c.self.inside.boxes.boxes in
    let query = c.args.query.now in
    let is : entries c.args.self.now ≡ zip slots boxes = ap entries (sym c.self.view_is) ∙ entries_are slots boxes c.self.invariant in
    let test : Bounds → Bool = query_meets query in
    let law = c.place_laws.ensures.slots test 0 slots boxes c.self.invariant.same in
    let old = c.args.out.now.items in
    let long : length old ≡ c.len-before.result = omega (arith, c.len-before.ensures) in
    rw (c.name_places.ensures, c.deref.ensures.value, c.in_ok-push_met_places.ensures.ok)
    (found_named slots boxes c.self.invariant test old c.len-before.result long law ∙ ap (λ es. old ++ found_of es query) (sym is))
