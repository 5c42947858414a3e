-- A space at the place is what the line goes on with there.
use Rattle.std.proofs.Common.{◌≡◌, ◌∷◌, ℕ, List, suc, drop, get_or, ap, sym, ◌∙◌, add-one, refl, rules}
use Rattle.std.specs.List.{position_or_len}
use Rattle.std.proofs.Math.Seq.{drop-cons}
use Rattle.scene_words.specs.SceneWords.{is_hash, words}
use Rattle.scene_words.proofs.FirstPlaces.{one_plus}
use Rattle.scene_words.proofs.one_pass_fields.past_space_at.Goals as goal

behind_space : (bs : List ℕ) → words bs ≡ words (32 ∷ bs)
behind_space bs = rw (one_plus (position_or_len is_hash bs)) refl

pub returns-then-line-at-eq32-clause-words : goal.returns-then-line-at-eq32-clause-words
returns-then-line-at-eq32-clause-words c =
    let line = c.args.line.now in
    let at = c.args.at in
    let space : get_or line at 0 ≡ 32 = search rules in
    let shape : drop at line ≡ 32 ∷ drop (suc at) line = drop-cons line at 0 c.requires ∙ ap (λ b. b ∷ drop (suc at) line) space in
    ap words (c.split_at.ensures.back ∙ ap (λ n. drop n line) (add-one at)) ∙ behind_space (drop (suc at) line) ∙ ap words (sym shape)
