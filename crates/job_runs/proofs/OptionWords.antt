-- The options of a command line, one after another.
use Rattle.std.proofs.Common.{◌≡◌, ℕ, true, false, List, [], ◌∷◌, length, map, arith, codes, bytes_eq, None, Some, refl}
use Rattle.job_runs.specs.declared.words.Choices.{Choices}
use Rattle.job_runs.specs.JobWords.{choices_of, choose, choose_exchanges}

pub exchanges_next : (choices next : Choices) (word : List ℕ) (more : List (List ℕ)) → bytes_eq word (codes "--exchanges") ≡ true
    → choose_exchanges choices ≡ Some next → choices_of choices (word ∷ more) ≡ choices_of next more
exchanges_next choices next word [] is chosen = rw (is, chosen) refl
exchanges_next choices next word (value ∷ more) is chosen = rw (is, chosen) refl

pub option_next : (choices next : Choices) (word value : List ℕ) (more : List (List ℕ)) → bytes_eq word (codes "--exchanges") ≡ false
    → choose choices word value ≡ Some next → choices_of choices (word ∷ value ∷ more) ≡ choices_of next more
option_next choices next word value more isnt chosen = rw (isnt, chosen) refl

pub value_missing : {A : Type 0} (f : A → List ℕ) (choices : Choices) (word : A) (more : List A) → length more ≡ 0
    → bytes_eq (f word) (codes "--exchanges") ≡ false → choices_of choices (map f (word ∷ more)) ≡ None
value_missing f choices word [] none isnt = rw isnt refl
value_missing f choices word (value ∷ more) none isnt = absurd (omega (arith, none))
