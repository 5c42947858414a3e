-- Each word has the pairs of its bits, and a word of 0 has none.
use Rattle.std.proofs.Common.{◌≡◌, ◌*◌, ◌++◌, [], refl, ap, sym, ◌∙◌, arith, append_assoc, append-nil, take, vec_len, get_or}
use Rattle.std.proofs.lemmas.Grind.{common_steps}
use Rattle.overlap_count.specs.FullPairs.{pairs_with}
use Rattle.overlap_count.specs.SlotCounts.{pairs_of_bits}
use Rattle.overlap_count.proofs.PairLemmas.{is_in, pairs_none, word_more, bits_zero}
use Rattle.overlap_count.proofs.full_pairs.push_words.Goals as goal
use Rattle.overlap_count.proofs.full_pairs.push_words.Goals.{then-word-ne0+in_ok-push_bits, else-word-ne0}

pub words-init : goal.words-init
words-init c = record {
  found = sym (append-nil c.args.out.now.items) ∙ ap (λ l. c.args.out.now.items ++ l) (sym (pairs_none c.args.a (is_in c.args.words.now)));
  kept = grind (arith, common_steps);
}

pub words-preserved : goal.words-preserved
words-preserved c =
    let words = c.args.words.now in
    let a = c.args.a in
    let at = c.words.at in
    let word = get_or words at 0 in
    let before = pairs_with a (is_in words) (64 * at) in
    let found = c.words.invariant.found in
    let kept = c.words.invariant.kept in
    elim c.if-word-ne0.branch [
      | then-word-ne0+in_ok-push_bits w ↦
          let pushed : c.if-word-ne0.out.items ≡ c.words.out.items ++ pairs_of_bits a (64 * at) word 64 =
          ap (λ v. v.items) w.out-is ∙ w.in_ok-push_bits.ensures.ok in
          record {
            found = pushed ∙ ap (λ l. l ++ pairs_of_bits a (64 * at) word 64) found
                ∙ append_assoc c.args.out.now.items before (pairs_of_bits a (64 * at) word 64)
                ∙ ap (λ l. c.args.out.now.items ++ l) (sym (word_more a words at word refl));
            kept = grind (arith, common_steps, pushed, found, kept);
          }
      | else-word-ne0 w ↦
          let none : pairs_of_bits a (64 * at) word 64 ≡ [] =
          ap (λ v. pairs_of_bits a (64 * at) v 64) w.if-word-ne0.false ∙ bits_zero a (64 * at) 64 in
          record {
            found = ap (λ v. v.items) w.out-is ∙ found
                ∙ ap (λ l. c.args.out.now.items ++ l)
                (sym (word_more a words at word refl ∙ ap (λ l. before ++ l) none ∙ append-nil before));
            kept = ap (λ v. take (vec_len c.args.out.now) v.items) w.out-is ∙ kept;
          }
    ]
