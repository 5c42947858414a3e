-- What a command line asks for.
use Rattle.std.specs.Prelude.{ℕ, ◌≤◌, true, false, not, ◌&&◌, nat_le, List, [], ◌∷◌, codes, bytes_eq, if◌then◌else◌}
use Rattle.std.specs.Prelude.{is_some, unwrap_or, option_map, Option, Some, None}
use Rattle.std.specs.Str.Parse.{digits_value}
use Rattle.scene_words.specs.Values.{is_numeral}
use Rattle.named_index.specs.declared.structure.Structure.{Structure}
use Rattle.named_index.specs.declared.structure.Structure.TheVariants.{Plain, Sap, Tree, Grid}
use Rattle.named_index.specs.Structures.{counts}
use Rattle.job_runs.specs.declared.words.Choices.{Choices}
use Rattle.job_runs.specs.declared.words.Job.{Job}
use Rattle.job_runs.specs.declared.words.Task.{Task}
use Rattle.job_runs.specs.declared.words.Task.TheVariants.{Play, Drill, Upgrade}

-- a structure by its word
abbrev pub structure_of : List ℕ → Option Structure
structure_of word =
    if bytes_eq word (codes "plain") then Some Plain
    else (if bytes_eq word (codes "sap") then Some Sap
    else (if bytes_eq word (codes "tree") then Some Tree
    else (if bytes_eq word (codes "grid") then Some Grid else None)))

-- one to `most` decimal digits with a value from `least` to `greatest`
abbrev pub number_within : ℕ → ℕ → ℕ → List ℕ → Option ℕ
number_within most least greatest word =
    if is_numeral 10 most word && nat_le least (digits_value 10 word) && nat_le (digits_value 10 word) greatest then Some (digits_value 10 word)
    else None

-- a number of workers: one or two digits with a value from 1 to 16
abbrev pub workers_of : List ℕ → Option ℕ
workers_of word = number_within 2 1 16 word

-- a choice that wasn't made before
abbrev pub choose_structure : Choices → Option Structure → Option Choices
choose_structure choices structure = if is_some choices.structure then None else option_map (λ s. record choices { structure = Some s }) structure

abbrev pub choose_workers : Choices → Option ℕ → Option Choices
choose_workers choices workers = if is_some choices.workers then None else option_map (λ n. record choices { workers = Some n }) workers

abbrev pub choose_exchanges : Choices → Option Choices
choose_exchanges choices = if choices.exchanges then None else Some (record choices { exchanges = true })

-- one option of two words
abbrev pub choose : Choices → List ℕ → List ℕ → Option Choices
choose choices word value =
    if bytes_eq word (codes "--with") then choose_structure choices (structure_of value)
    else (if bytes_eq word (codes "--workers") then choose_workers choices (workers_of value) else None)

abbrev pub then_choose : Option Choices → (Choices → Option Choices) → Option Choices
then_choose None rest = None
then_choose (Some choices) rest = rest choices

-- The options, in any order, each at most once.
abbrev pub choices_of : Choices → List (List ℕ) → Option Choices
choices_of choices [] = Some choices
choices_of choices (word ∷ []) = if bytes_eq word (codes "--exchanges") then choose_exchanges choices else None
choices_of choices (word ∷ value ∷ more) =
    if bytes_eq word (codes "--exchanges") then then_choose (choose_exchanges choices) (λ next. choices_of next (value ∷ more))
    else then_choose (choose choices word value) (λ next. choices_of next more)

abbrev pub no_choices : Choices
no_choices = record { structure = None; workers = None; exchanges = false }

-- What is left out is sweep and prune and one worker. Exchanges are shown of a structure that counts them alone.
abbrev pub job_over : Task → Choices → Structure → Option Job
job_over task choices structure =
    if choices.exchanges && not (counts structure) then None
    else Some (record {
      task = task;
      structure = structure;
      options = record { workers = unwrap_or choices.workers 1; exchanges = choices.exchanges };
    })

abbrev pub job_of : Task → Choices → Option Job
job_of task choices = job_over task choices (unwrap_or choices.structure Sap)

abbrev pub then_job : Task → Option Choices → Option Job
then_job task None = None
then_job task (Some choices) = job_of task choices

-- a task with its options
abbrev pub with_options : Task → List (List ℕ) → Option Job
with_options task more = then_job task (choices_of no_choices more)

-- a load that can be made
abbrev pub IsLoad : Task → Type 0
IsLoad Play = Unit {0}
IsLoad Upgrade = Unit {0}
IsLoad (Drill seed boxes frames) = (1 ≤ boxes) × (boxes ≤ 8192) × (1 ≤ frames) × (frames ≤ 100)

-- the load of a drill: a seed of one to twenty digits within 64 bits, one to four digits of 1 to 8,192 boxes, one to three digits of 1
-- to 100 frames
abbrev pub drill_over : Option ℕ → Option ℕ → Option ℕ → Option Task
drill_over (Some seed) (Some boxes) (Some frames) = Some (Drill seed boxes frames)
drill_over seed boxes frames = None

abbrev pub drill_of : List ℕ → List ℕ → List ℕ → Option Task
drill_of seed boxes frames = drill_over (number_within 20 0 18446744073709551615 seed) (number_within 4 1 8192 boxes) (number_within 3 1 100 frames)

abbrev pub then_options : Option Task → List (List ℕ) → Option Job
then_options None more = None
then_options (Some task) more = with_options task more

-- The three numbers of a drill, and its options.
abbrev pub drill_job : List (List ℕ) → Option Job
drill_job [] = None
drill_job (seed ∷ []) = None
drill_job (seed ∷ boxes ∷ []) = None
drill_job (seed ∷ boxes ∷ frames ∷ more) = then_options (drill_of seed boxes frames) more

-- an upgrade has no options
abbrev pub upgrade_job : List (List ℕ) → Option Job
upgrade_job [] = job_of Upgrade no_choices
upgrade_job (word ∷ more) = None

-- The word `play` and its options are the job to play a scene; the word `drill`, three numbers and options are the job to make and play
-- one; the word `upgrade` alone is the job to write a scene as one of version 2. No other list of words has a meaning.
abbrev pub job : List (List ℕ) → Option Job
job [] = None
job (word ∷ more) =
    if bytes_eq word (codes "play") then with_options Play more
    else (if bytes_eq word (codes "drill") then drill_job more
    else (if bytes_eq word (codes "upgrade") then upgrade_job more else None))
