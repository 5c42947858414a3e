-- The bytes of the number are the first word.
use Rattle.std.proofs.Common.{ℤ, SFits, sym, subst, rules}
use Rattle.std.specs.Int.{w32}
use Rattle.std.proofs.lemmas.Int.{to_z-of_z}
use Rattle.scene_words.specs.Fronts.{Leads}
use Rattle.scene_words.specs.SceneWords.{number_at}
use Rattle.scene_words.proofs.WordFronts.{number_front}
use Rattle.scene_words.proofs.one_pass_fields.printed_number.Goals as goal

pub returns : goal.returns
returns c =
    let fits : SFits w32 c.in_ok-number.number = search rules in
    let P : ℤ → Type 0 = λ raw. Leads number_at 1 c.args.line.now raw c.in_ok-rest.rest.now in
    let h = c.in_ok-number.ensures in
    subst P (sym (to_z-of_z w32 c.in_ok-number.number fits))
    (number_front c.args.line.now c.split_at.result.1.now c.in_ok-rest.rest.now c.in_ok-number.len _ h.value h.within h.plain c.split_at.ensures.back
    c.in_ok-rest.ensures.end c.in_ok-rest.ensures.words)
