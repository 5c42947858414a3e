-- Serves proofs alone: what stands at the front of a line that is read in one pass.
use Rattle.std.specs.Prelude.{◌≡◌, ℕ, ◌+◌, Bool, true, false, not, ◌||◌, List, [], ◌∷◌, length, codes, bytes_eq, if◌then◌else◌}
use Rattle.std.specs.Prelude.{Option, Some, None, Result, Ok, Err}
use Rattle.live_table.specs.declared.group.Group.{Group}
use Rattle.scene_words.specs.declared.line_fault.LineFault.{LineFault}
use Rattle.scene_words.specs.declared.version.Version.{Version}
use Rattle.scene_words.specs.declared.version.Version.TheVariants.{One, Two}
use Rattle.scene_words.specs.SceneWords.{is_blank, is_hash, words}
use Rattle.scene_words.specs.Values.{mask_of_word, owner_of_word}

-- a byte of a word
abbrev pub in_word : ℕ → Bool
in_word b = not (is_blank b || is_hash b)

-- The first words of a line, so many, are read as a value. The rest of the line has the other words.
pub record Leads {X : Type 0} (read : List (List ℕ) → Result (X × List (List ℕ)) LineFault) (count : ℕ) (line : List ℕ) (x : X)
    (rest : List ℕ) : Type 0 where
  pub value : read (words line) ≡ Ok (x, words rest)
  pub total : length (words line) ≡ count + length (words rest)

-- the first word as a mask, and the words behind it. A word that is no mask stays, and so do no words: then the mask is left out.
abbrev pub label_from : ℕ → List (List ℕ) → List (List ℕ) → Result ℕ LineFault → ℕ × List (List ℕ)
label_from default all more (Ok mask) = (mask, more)
label_from default all more (Err f) = (default, all)

abbrev pub label_said : ℕ → List (List ℕ) → ℕ × List (List ℕ)
label_said default [] = (default, [])
label_said default (word ∷ more) = label_from default (word ∷ more) more (mask_of_word word)

-- whether these words are no word, or a flag alone
abbrev pub flag_said : List ℕ → List (List ℕ) → Option Bool
flag_said flag [] = Some false
flag_said flag (word ∷ []) = if bytes_eq word flag then Some true else None
flag_said flag (word ∷ next ∷ more) = None

-- the words behind `owner`
abbrev pub group_from : Result ℕ LineFault → Option Bool → Option Group
group_from (Ok owner) (Some fixed) = Some (record { owner = owner; fixed = fixed })
group_from (Ok owner) None = None
group_from (Err f) flagged = None

abbrev pub owner_said : List (List ℕ) → Option Group
owner_said [] = None
owner_said (word ∷ more) = group_from (owner_of_word word) (flag_said (codes "fixed") more)

-- the same of words with nothing before them
abbrev pub named_said : List ℕ → List (List ℕ) → Option Group
named_said word [] = if bytes_eq word (codes "fixed") then Some (record { owner = 0; fixed = true }) else None
named_said word (next ∷ more) = if bytes_eq word (codes "owner") then owner_said (next ∷ more) else None

-- the group that words say, read from the first to the last
abbrev pub group_said : Version → List (List ℕ) → Option Group
group_said version [] = Some (record { owner = 0; fixed = false })
group_said One (word ∷ more) = None
group_said Two (word ∷ more) = named_said word more

-- the same of a ray
abbrev pub entry_said : Version → List (List ℕ) → Option Bool
entry_said version [] = Some false
entry_said One (word ∷ more) = None
entry_said Two (word ∷ more) = flag_said (codes "entry") (word ∷ more)
