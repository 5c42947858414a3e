-- The last word is the flag, or all words stay.
use Rattle.std.proofs.Common.{◌≡◌, ◌-◌, true, false, [], bytes_eq, slice_index_or, arith, rules}
use Rattle.scene_words.specs.SceneWords.{words}
use Rattle.scene_words.proofs.WordPlaces.{flag_off, unflagged}
use Rattle.scene_words.proofs.tails.without_flag.Goals as goal

pub returns-then-count-eq0-clause-off : goal.returns-then-count-eq0-clause-off
returns-then-count-eq0-clause-off c =
    unflagged c.args.flag.now (words c.args.rest.now) c.count_words-count.result c.count_words-count.ensures
    (λ some. absurd (omega (arith, c.if-count-eq0.true)))

pub returns-then-eq-clause-off : goal.returns-then-eq-clause-off
returns-then-eq-clause-off c =
    let is : bytes_eq (slice_index_or (words c.args.rest.now) (c.count_words-count.result - 1) []) c.args.flag.now ≡ true = search rules in
    flag_off c.args.flag.now (words c.args.rest.now) c.count_words-count.result c.count_words-count.ensures (omega (arith, c.if-count-eq0.false)) is

pub returns-clause-off : goal.returns-clause-off
returns-clause-off c =
    let is : bytes_eq (slice_index_or (words c.args.rest.now) (c.count_words-count.result - 1) []) c.args.flag.now ≡ false = search rules in
    unflagged c.args.flag.now (words c.args.rest.now) c.count_words-count.result c.count_words-count.ensures (λ _. is)
