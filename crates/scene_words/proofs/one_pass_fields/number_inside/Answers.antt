-- The bytes of the number are the first word.
use Rattle.std.proofs.Common.{ℤ, SFits, drop, sym, subst, refl, arith, rules}
use Rattle.std.specs.Int.{w32}
use Rattle.std.proofs.lemmas.Int.{to_z-of_z}
use Rattle.scene_words.specs.Fronts.{Leads}
use Rattle.scene_words.specs.SceneWords.{number_at}
use Rattle.scene_words.proofs.WordFronts.{number_front}
use Rattle.scene_words.proofs.one_pass_fields.number_inside.Goals as goal

pub returns : goal.returns
returns c =
    let fits : SFits w32 c.in_ok-number.number = search rules in
    let P : ℤ → Type 0 = λ raw. Leads number_at 1 c.args.line.now raw c.in_ok-rest.rest.now in
    let h = c.in_ok-number.ensures in
    subst P (sym (to_z-of_z w32 c.in_ok-number.number fits))
    (number_front c.args.line.now (drop c.in_ok-number.len c.args.line.now) c.in_ok-rest.rest.now c.in_ok-number.len _ h.value (omega (arith, h.within)) h.plain
    refl c.in_ok-rest.ensures.end c.in_ok-rest.ensures.words)
