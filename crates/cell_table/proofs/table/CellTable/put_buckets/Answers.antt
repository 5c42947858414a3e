-- What the rings of the buckets have, backward too, are the slots with keys.
use Rattle.std.proofs.Common.{sym, subst, take, get_or, ◌+◌, ◌≤◌, length}
use Rattle.fixed_box.specs.declared.TheConstants.{SLOTS}
use Rattle.cell_table.specs.Kept.{AreRings, StartsRing, rings_to}
use Rattle.cell_table.specs.Listed.{Lists}
use Rattle.cell_table.proofs.ListedLemmas.{rings_few, rings_listed, rings_started}
use Rattle.cell_table.proofs.RingLemmas.{ring_starts}
use Rattle.cell_table.proofs.TurnedRings.{turned}
use Rattle.cell_table.proofs.table.CellTable.put_buckets.Goals as goal

pub put_rings-requires-clause-rings : goal.put_rings-requires-clause-rings
put_rings-requires-clause-rings c b bl =
    let s = c.self.inside in
    subst (λ l. StartsRing l (get_or l (SLOTS + b) 0)) (sym c.deref.ensures.value)
    (ring_starts s.keys.items s.prev.items s.next.items b
    ((turned s.keys.items s.next.items s.prev.items s.levels.items c.self.invariant).rings b bl) c.self.invariant.keys_len bl)

pub put_rings-requires-clause-few : goal.put_rings-requires-clause-few
put_rings-requires-clause-few c b le =
    let s = c.self.inside in
    subst (λ l. length (rings_to l b) ≤ SLOTS) (sym c.deref.ensures.value)
    (rings_few s.keys.items s.prev.items s.next.items s.levels.items
    (turned s.keys.items s.next.items s.prev.items s.levels.items c.self.invariant) b le)

pub returns-clause-starts : goal.returns-clause-starts
returns-clause-starts c =
    rings_started c.deref.result.now c.put_rings.new.starts (take c.put_rings.result c.put_rings.new.slots) c.put_rings.ensures

pub returns-clause-slots : goal.returns-clause-slots
returns-clause-slots c =
    let s = c.self.inside in
    let starts = c.put_rings.new.starts in
    let slots = take c.put_rings.result c.put_rings.new.slots in
    subst (λ m. Lists m (record { starts = starts; slots = slots })) c.self.view_is
    (rings_listed s.keys.items s.prev.items s.next.items s.levels.items
    (turned s.keys.items s.next.items s.prev.items s.levels.items c.self.invariant) starts slots
    (subst (λ l. AreRings l starts slots) c.deref.ensures.value c.put_rings.ensures))
