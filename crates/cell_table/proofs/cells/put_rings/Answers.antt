-- One ring more.
use Rattle.std.proofs.Common.{◌+◌, arith, sym, ap, length, take}
use Rattle.cell_table.proofs.ListedLemmas.{rings_len, rings_next, rings_none, starts_more}
use Rattle.cell_table.proofs.cells.put_rings.Goals as goal

pub buckets-init : goal.buckets-init
buckets-init c = record {
  len_is = sym (ap length (rings_none c.args.next.now));
  starts_are = λ b lt. absurd (omega (arith, lt));
  slots_are = sym (rings_none c.args.next.now);
}

pub put_ring-len-requires-clause-room : goal.put_ring-len-requires-clause-room
put_ring-len-requires-clause-room c =
    let few = c.requires.few (c.buckets.bucket + 1) (omega (arith, c.buckets-test.true)) in
    omega (arith, c.buckets.invariant.len_is, rings_len c.args.next.now c.buckets.bucket, few, c.buckets.auto.slots, c.requires.slots)

pub buckets-preserved : goal.buckets-preserved
buckets-preserved c =
    let next = c.args.next.now in
    let i = c.buckets.invariant in
    let put = c.put_ring-len.ensures in
    record {
      len_is = omega (arith, put.len, i.len_is, rings_len next c.buckets.bucket);
      starts_are = starts_more next c.buckets.starts c.buckets.bucket c.buckets.len
          (omega (arith, c.buckets.auto.starts, c.requires.starts, c.buckets-test.true)) i.starts_are i.len_is;
      slots_are = rings_next next (take c.buckets.len c.buckets.slots) (take c.put_ring-len.result c.put_ring-len.new.slots) c.buckets.bucket
          i.slots_are put.met;
    }
