-- The last word but one is `owner`, or all words stay.
use Rattle.std.proofs.Common.{◌≡◌, ◌-◌, true, false, [], codes, bytes_eq, slice_index_or, ap, ◌∙◌, arith, rules, Some, Option, List, ℕ}
use Rattle.std.proofs.Common.{reverse, take}
use Rattle.scene_words.specs.SceneWords.{words}
use Rattle.scene_words.proofs.WordPlaces.{owner_off, unowned}
use Rattle.scene_words.proofs.tails.without_owner.Goals as goal

abbrev left_by : List (List ℕ) → ℕ → List ℕ → Option (List ℕ) × List (List ℕ)
left_by ws n w = (Some w, reverse (take n ws))

pub returns-then-count-lt2-clause-off : goal.returns-then-count-lt2-clause-off
returns-then-count-lt2-clause-off c = unowned (words c.args.rest.now) c.args.count c.requires (λ two. absurd (omega (arith, c.if-count-lt2.true)))

pub returns-then-eq-clause-off : goal.returns-then-eq-clause-off
returns-then-eq-clause-off c =
    let is : bytes_eq (slice_index_or (words c.args.rest.now) (c.args.count - 2) []) (codes "owner") ≡ true = search rules in
    let named : slice_index_or (words c.args.rest.now) (c.args.count - 1) [] ≡ c.word_at-then-eq.result.now = search rules in
    owner_off (words c.args.rest.now) c.args.count c.requires (omega (arith, c.if-count-lt2.false)) is
    ∙ ap (λ w. left_by (words c.args.rest.now) (c.args.count - 2) w) named

pub returns-clause-off : goal.returns-clause-off
returns-clause-off c =
    let is : bytes_eq (slice_index_or (words c.args.rest.now) (c.args.count - 2) []) (codes "owner") ≡ false = search rules in
    unowned (words c.args.rest.now) c.args.count c.requires (λ _. is)
