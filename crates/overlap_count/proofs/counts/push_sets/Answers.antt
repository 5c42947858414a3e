-- Each set has the pairs of its slot.
use Rattle.std.proofs.Common.{◌≡◌, ◌<◌, ◌++◌, ◌==◌, List, ℕ, [], ap, sym, ◌∙◌, arith, append_assoc, append-nil, length, get_or}
use Rattle.std.proofs.lemmas.Grind.{common_steps}
use Rattle.std.proofs.lemmas.List.{get_or_read}
use Rattle.overlap_count.specs.FullPairs.{pairs_with, pairs_below}
use Rattle.overlap_count.specs.SlotCounts.{is_marked}
use Rattle.overlap_count.proofs.PairLemmas.{below_none, below_next}
use Rattle.overlap_count.proofs.counts.push_sets.Goals as goal

pub sets-init : goal.sets-init
sets-init c = record {
  found = sym (append-nil c.args.out.now.items) ∙ ap (λ l. c.args.out.now.items ++ l) (sym (below_none (is_marked c.args.sets.now)));
  kept = grind (arith, common_steps);
}

pub sets-preserved : goal.sets-preserved
sets-preserved c =
    let sets = c.args.sets.now in
    let a = c.sets.a in
    let set = get_or sets a [] in
    let within : a < length sets = omega (arith, c.requires, c.sets-test.true) in
    let read : c.index-sets-a.result ≡ set = get_or_read sets a c.index-sets-a.result within c.index-sets-a.is [] in
    let pushed : c.push_pairs.new.out.items ≡ c.sets.out.items ++ pairs_with a (is_marked sets a) 8192 =
    c.in_ok-push_pairs.ensures.ok ∙ ap (λ (l : List ℕ). c.sets.out.items ++ pairs_with a (λ b. get_or l b 0 == 1) 8192) read in
    let found = c.sets.invariant.found in
    let kept = c.sets.invariant.kept in
    record {
      found = pushed ∙ ap (λ l. l ++ pairs_with a (is_marked sets a) 8192) found
          ∙ append_assoc c.args.out.now.items (pairs_below (is_marked sets) a) (pairs_with a (is_marked sets a) 8192)
          ∙ ap (λ l. c.args.out.now.items ++ l) (sym (below_next (is_marked sets) a));
      kept = grind (arith, common_steps, pushed, found, kept);
    }
