use Rattle.std.proofs.Common.{◌≡◌, ◌++◌, ◌*◌, take, vec_len}
use Rattle.overlap_count.specs.FullPairs.{pairs_with}
use Rattle.overlap_count.proofs.PairLemmas.{is_in}
use Rattle.overlap_count.proofs.full_pairs.push_words.Given as goal

-- the pairs of the words so far
abbrev pub invariant-words : goal.invariant-words
invariant-words l = record {
  found : l.out.items ≡ l.fn.out.items ++ pairs_with l.a (is_in l.words) (64 * l.at);
  kept : take (vec_len l.fn.out) l.out.items ≡ l.fn.out.items;
}
