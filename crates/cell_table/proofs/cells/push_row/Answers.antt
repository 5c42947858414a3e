-- A cell of this step, or one of an earlier step.
use Rattle.std.proofs.Common.{◌≡◌, ◌++◌, [], length, ap, sym, ◌∙◌, true, inl, inr, arith, append-nil, append_assoc, vec_len, take, w32, to_z}
use Rattle.std.proofs.lemmas.Bool.{or_cases, false≢true}
use Rattle.std.proofs.lemmas.Int.{ints}
use Rattle.std.proofs.lemmas.List.{take-append-le, take_all, length-take}
use Rattle.cell_table.specs.Cells.{has}
use Rattle.cell_table.specs.Kept.{IsLinked, ring_of}
use Rattle.cell_table.proofs.RingLemmas.{has_append, has_left, has_right}
use Rattle.fixed_box.proofs.Numbers.{int_next}
use Rattle.cell_table.proofs.cells.push_row.Goals as goal

pub row-init : goal.row-init
row-init c = record {
  rings = record {
    slots = [];
    appended = sym (append-nil c.args.out.now.items);
    whole = λ z s lo lt h. absurd (omega (arith, ints));
    linked = λ s h. absurd (false≢true h);
  };
  kept = take_all (vec_len c.args.out.now) c.args.out.now.items (omega (arith, c.args.out.now.ok.0));
}

pub row-preserved : goal.row-preserved
row-preserved c =
    let next = c.args.next.now in
    let old = c.args.out.now.items in
    let i = c.row.invariant.rings in
    let ring = ring_of next c.with_z.result in
    let put : c.push_bucket.new.out.items ≡ c.row.out.items ++ ring = c.in_ok-push_bucket.ensures.ok in
    record {
      rings = record {
        slots = i.slots ++ ring;
        appended = put ∙ ap (λ l. l ++ ring) i.appended ∙ append_assoc old i.slots ring;
        whole = λ z s lo lt h. elim (int_next z (to_z w32 c.row.z-bits) _ (omega (arith, ints, c.row-test.true, c.row.auto.z-fits)) lt) as
            (λ _. has (i.slots ++ ring) s ≡ true) [
              | inl below ↦ has_left i.slots ring s (i.whole z s lo below h)
              | inr at ↦ has_right i.slots ring s
                  (ap (λ k. has (ring_of next k) s) (c.with_z.ensures ∙ ap (λ w. record c.args.key.now { z = w }) (sym at)) ∙ h)
            ];
        linked = λ s h. elim (or_cases (has i.slots s) (has ring s) (sym (has_append i.slots ring s) ∙ h)) as (λ _. IsLinked next s) [
          | inl e ↦ i.linked s e
          | inr e ↦ record { key = c.with_z.result; here = e }
        ];
      };
      kept = ap (take (vec_len c.args.out.now)) put
          ∙ take-append-le (vec_len c.args.out.now) c.row.out.items ring
          (omega (arith, length-take (vec_len c.args.out.now) c.row.out.items, ap length c.row.invariant.kept, c.args.out.now.ok.0))
          ∙ c.row.invariant.kept;
    }
