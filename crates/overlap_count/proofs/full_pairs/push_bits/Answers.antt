-- Each turn passes over the places without a bit and appends the pair of the next one.
use Rattle.std.proofs.Common.{◌≡◌, ◌+◌, ◌≤◌, ◌++◌, ◌∷◌, [], refl, ap, sym, ◌∙◌, arith, append_assoc, append-nil, inl, inr}
use Rattle.std.specs.Int.{bit_at}
use Rattle.std.proofs.lemmas.Bool.{cases_lt}
use Rattle.std.proofs.lemmas.Grind.{common_steps}
use Rattle.std.proofs.lemmas.Nat.Bits.{bit_at-zero}
use Rattle.overlap_count.specs.SlotCounts.{pairs_of_bits}
use Rattle.overlap_count.proofs.PairLemmas.{bits_none, bits_one, bits_upto}
use Rattle.overlap_count.proofs.full_pairs.push_bits.Goals as goal

pub bits-init : goal.bits-init
bits-init c = record {
  place = 0;
  left = record { few = omega arith; before = λ k lt. absurd (omega arith); from = λ k _ _. refl };
  found = sym (append-nil c.args.out.now.items) ∙ ap (λ l. c.args.out.now.items ++ l) (sym (bits_none c.args.a c.args.base c.args.word));
  kept = grind (arith, common_steps);
}

pub bits-preserved : goal.bits-preserved
bits-preserved c =
    let i = c.bits.invariant in
    let t = c.take_lowest-place.ensures in
    let place = c.take_lowest-place.result in
    let later : i.place ≤ place = elim (cases_lt place i.place) [ inl early ↦ absurd (omega (arith, i.left.before place early, t.set)) | inr le ↦ le ] in
    let set : bit_at c.args.word place ≡ 1 = sym (i.left.from place t.within later) ∙ t.set in
    let skipped : pairs_of_bits c.args.a c.args.base c.args.word place ≡ pairs_of_bits c.args.a c.args.base c.args.word i.place =
    bits_upto c.args.a c.args.base c.args.word i.place place later (λ k lt from. sym (i.left.from k (omega (arith, t.within)) from) ∙ t.lowest k lt) in
    let pushed : c.push.new.self.items ≡ c.bits.out.items ++ record { a = c.args.a; b = c.args.base + place } ∷ [] = c.in_ok-push.ensures.items in
    let found = i.found in
    let kept = i.kept in
    record {
      place = place + 1;
      left = record {
        few = omega (arith, t.within);
        before = λ k lt. elim (cases_lt k place) [
          | inl early ↦ t.others k (omega (arith, t.within)) (λ e. absurd (omega arith)) ∙ t.lowest k early
          | inr late ↦ ap (bit_at c.take_lowest-place.new.word) (let e : k ≡ place = omega arith in e) ∙ t.taken
        ];
        from = λ k small le. t.others k small (λ e. absurd (omega arith)) ∙ i.left.from k small (omega (arith, later));
      };
      found = pushed
          ∙ ap (λ l. l ++ record { a = c.args.a; b = c.args.base + place } ∷ []) (found ∙ ap (λ l. c.args.out.now.items ++ l) (sym skipped))
          ∙ append_assoc c.args.out.now.items (pairs_of_bits c.args.a c.args.base c.args.word place) (record { a = c.args.a; b = c.args.base + place } ∷ [])
          ∙ ap (λ l. c.args.out.now.items ++ l) (sym (bits_one c.args.a c.args.base c.args.word place set));
      kept = grind (arith, common_steps, pushed, found, kept);
    }

pub returns-clause-ok : goal.returns-clause-ok
returns-clause-ok c =
    let i = c.bits.invariant in
    i.found ∙ ap (λ l. c.args.out.now.items ++ l)
    (sym (bits_upto c.args.a c.args.base c.args.word i.place 64 i.left.few
    (λ k lt from. sym (i.left.from k lt from) ∙ ap (λ w. bit_at w k) c.bits-test.false ∙ bit_at-zero k)))
