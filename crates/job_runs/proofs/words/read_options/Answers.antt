-- One word or two are one option, and the rest is read with it chosen.
use Rattle.std.proofs.Common.{rules, ◌≡◌, ◌∙◌, ◌∷◌, Some, true, false, ap, sym, map, string_bytes, bytes_eq, codes}
use Rattle.job_runs.specs.JobWords.{choices_of, choose, choose_exchanges}
use Rattle.job_runs.proofs.OptionWords.{exchanges_next, option_next, value_missing}
use Rattle.job_runs.proofs.words.read_options.Goals as goal

pub options-preserved-then-eq : goal.options-preserved-then-eq
options-preserved-then-eq c =
    let word = c.in-Some.word.now in
    let more = c.in-Some.more.now in
    let words : c.options.rest.now ≡ word ∷ more = search rules in
    let is : bytes_eq (string_bytes word) (codes "--exchanges") ≡ true = search rules in
    let chosen : choose_exchanges c.options.choices ≡ Some c.in_ok-choices.choices = search rules in
    record {
      choices = sym (exchanges_next c.options.choices c.in_ok-choices.choices (string_bytes word) (map string_bytes more) is chosen)
          ∙ ap (λ ws. choices_of c.options.choices (map string_bytes ws)) (sym words) ∙ c.options.invariant.choices;
      workers = search rules;
    }

pub options-preserved : goal.options-preserved
options-preserved c =
    let word = c.in-Some.word.now in
    let value = c.in_ok-value.value.now in
    let later = c.in_ok-value.later.now in
    let words : c.options.rest.now ≡ word ∷ value ∷ later = search rules in
    let isnt : bytes_eq (string_bytes word) (codes "--exchanges") ≡ false = search rules in
    let chosen : choose c.options.choices (string_bytes word) (string_bytes value) ≡ Some c.in_ok-choices-2.choices = search rules in
    record {
      choices = sym (option_next c.options.choices c.in_ok-choices-2.choices (string_bytes word) (string_bytes value) (map string_bytes later) isnt chosen)
          ∙ ap (λ ws. choices_of c.options.choices (map string_bytes ws)) (sym words) ∙ c.options.invariant.choices;
      workers = c.in_ok-choices-2.ensures.workers;
    }

pub returns-in_err-value-clause-choices : goal.returns-in_err-value-clause-choices
returns-in_err-value-clause-choices c =
    let word = c.in-Some.word.now in
    let more = c.in-Some.more.now in
    let words : c.options.rest.now ≡ word ∷ more = search rules in
    let isnt : bytes_eq (string_bytes word) (codes "--exchanges") ≡ false = search rules in
    c.from_residual-in_err-value.ensures ∙ sym (value_missing string_bytes c.options.choices word more c.in_err-value.ensures.cases isnt)
    ∙ ap (λ ws. choices_of c.options.choices (map string_bytes ws)) (sym words) ∙ c.options.invariant.choices
