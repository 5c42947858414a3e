use Rattle.std.proofs.Common.{◌≡◌, ◌≤◌, length, map, string_bytes, IfSome}
use Rattle.job_runs.specs.JobWords.{choices_of, no_choices}
use Rattle.job_runs.proofs.words.read_options.Given as goal

-- the choices so far, and those of the words that are left
abbrev pub invariant-options : goal.invariant-options
invariant-options l = record {
  choices : choices_of l.choices (map string_bytes l.rest) ≡ choices_of no_choices (map string_bytes l.words);
  workers : IfSome l.choices.workers (λ n. (1 ≤ n) × (n ≤ 16));
}

abbrev pub decreases-options : goal.decreases-options
decreases-options l = length l.rest
