-- Words at the front of a line, by their bytes.
use Rattle.std.proofs.Common.{◌≡◌, ℕ, zero, suc, ◌+◌, ◌-◌, ◌<◌, ◌≤◌, true, false, cond, ◌&&◌, nat_le, List, [], ◌∷◌}
use Rattle.std.proofs.Common.{◌++◌, length, take, drop}
use Rattle.std.proofs.Common.{get_or, Option, Some, None, Result, Ok, Err, refl, sym, ap, subst, ◌∙◌, arith, length-take, length-drop}
use Rattle.std.proofs.Common.{IfSome, ℤ}
use Rattle.std.specs.List.{All, prefix_len, before_first, after_first, list_all}
use Rattle.std.specs.Char.{is_ascii_digit, is_digit}
use Rattle.std.specs.Str.{all_ascii_digits}
use Rattle.std.specs.Str.Parse.{digits_value}
use Rattle.std.proofs.Math.Seq.{take-add, drop-cons, take-append_seam}
use Rattle.std.proofs.lemmas.List.{take_all, drop-drop}
use Rattle.std.proofs.lemmas.List.Elements.{All-nil, All-cons, All-append, All-head, All-tail}
use Rattle.std.proofs.lemmas.Bool.{and_parts}
use Rattle.std.proofs.lemmas.Bool.Decides.{nat_tests}
use Rattle.scene_words.specs.declared.line_fault.LineFault.{LineFault}
use Rattle.scene_words.specs.declared.line_fault.LineFault.TheVariants as fault
use Rattle.scene_words.specs.declared.command.Command.{Command}
use Rattle.scene_words.specs.declared.verb.Verb.{Verb}
use Rattle.scene_words.specs.declared.version.Version.{Version}
use Rattle.fixed_box.specs.Fix.{fix}
use Rattle.scene_words.specs.Values.{line_number, number_of_word, index_of_digits, is_colon, handle_from, handle_of_word, mask_of_word}
use Rattle.scene_words.specs.Tails.{counted}
use Rattle.scene_words.specs.Verbs.{verb_of, since, reaches, allows}
use Rattle.scene_words.specs.SceneWords.{words, first_as, number_at, handle_at, ◌>>=◌, by_verb, by_count, further_of, command, command_of}
use Rattle.scene_words.specs.Fronts.{in_word, Leads}
use Rattle.scene_words.proofs.FirstPlaces.{before_at, after_at}
use Rattle.scene_words.proofs.WordSplits.{words_ahead}
use Rattle.fixed_box.proofs.Lists.{drop_none}

-- bytes above the hash belong to a word
abbrev pub IsHigh : ℕ → Type 0
IsHigh b = 36 ≤ b

high_in_word : (b : ℕ) → 36 ≤ b → in_word b ≡ true
high_in_word b h = grind (arith, nat_tests)

high_run : (n : ℕ) (line : List ℕ) → n ≤ length line → All IsHigh (take n line) → prefix_len in_word (drop n line) ≡ 0
    → prefix_len in_word line ≡ n
high_run zero line inside high ends = ends
high_run (suc n) [] inside high ends = absurd (omega arith)
high_run (suc n) (b ∷ bs) inside high ends =
    ap (λ t. cond t (1 + prefix_len in_word bs) 0) (high_in_word b (All-head IsHigh b (take n bs) high))
    ∙ omega (arith, high_run n bs (omega arith) (All-tail IsHigh b (take n bs) high) ends)

-- such bytes, up to where no word goes on, are the first word
pub first_word : (line behind rest : List ℕ) (n : ℕ) → 0 < n → n ≤ length line → All IsHigh (take n line) → behind ≡ drop n line
    → prefix_len in_word behind ≡ 0 → words rest ≡ words behind → words line ≡ take n line ∷ words rest
first_word line behind rest n some inside high e ends same =
    let len = high_run n line inside high (ap (prefix_len in_word) (sym e) ∙ ends) in
    words_ahead line (omega (arith, len)) ∙ ap (λ k. take k line ∷ words (drop k line)) len
    ∙ ap (λ more. take n line ∷ more) (ap words (sym e) ∙ sym same)

-- the value of the first word
pub first_value : {X : Type 0} (value : List ℕ → Result X LineFault) (line behind rest : List ℕ) (n : ℕ) (x : X) → 0 < n → n ≤ length line
    → All IsHigh (take n line) → behind ≡ drop n line → prefix_len in_word behind ≡ 0 → words rest ≡ words behind → value (take n line) ≡ Ok x
    → Leads (first_as value) 1 line x rest
first_value value line behind rest n x some inside high e ends same is =
    let ws = first_word line behind rest n some inside high e ends same in
    record {
      value = ap (first_as value) ws ∙ ap (λ r. r >>= λ y. Ok (y, words rest)) is;
      total = ap length ws ∙ omega arith;
    }

-- no number is the text of no bytes
some_bytes : (n : ℕ) (line : List ℕ) (raw : ℤ) → fix (take n line) ≡ Ok raw → 0 < n
some_bytes zero line raw e = absurd (cc)
some_bytes (suc n) line raw e = omega arith

high_bytes : (text : List ℕ) → All (λ b. (45 ≤ b) × (b ≤ 57)) text → All IsHigh text
high_bytes text plain = λ k d inside. (let p = plain k d inside in omega (arith, p.0))

-- the bytes of a number are the first word
pub number_front : (line behind rest : List ℕ) (n : ℕ) (raw : ℤ) → fix (take n line) ≡ Ok raw → n ≤ length line
    → All (λ b. (45 ≤ b) × (b ≤ 57)) (take n line) → behind ≡ drop n line → prefix_len in_word behind ≡ 0 → words rest ≡ words behind
    → Leads number_at 1 line raw rest
number_front line behind rest n raw is inside plain e ends same =
    first_value number_of_word line behind rest n raw (some_bytes n line raw is) inside (high_bytes (take n line) plain) e ends same (ap line_number is)

-- hexadecimal digits are such bytes, and form a mask
hex_high : (b : ℕ) → is_digit b 16 ≡ true → 36 ≤ b
hex_high b h = grind (arith, nat_tests)

pub high_hex : (ds : List ℕ) → list_all (λ b. is_digit b 16) ds ≡ true → All IsHigh ds
high_hex [] all = All-nil IsHigh
high_hex (d ∷ ds) all =
    let parts = and_parts (is_digit d 16) (list_all (λ b. is_digit b 16) ds) all in
    All-cons IsHigh d ds (hex_high d parts.0) (high_hex ds parts.1)

pub mask_value : (ds : List ℕ) → 0 < length ds → length ds ≤ 8 → list_all (λ b. is_digit b 16) ds ≡ true
    → mask_of_word ds ≡ Ok (digits_value 16 ds)
mask_value ds some few all =
    let low : nat_le 1 (length ds) ≡ true = grind (arith, nat_tests) in
    let high : nat_le (length ds) 8 ≡ true = grind (arith, nat_tests) in
    ap (λ t. cond (t && nat_le (length ds) 8 && list_all (λ b. is_digit b 16) ds) (Ok (digits_value 16 ds)) (Err fault.Mask)) low
    ∙ ap (λ t. cond (t && list_all (λ b. is_digit b 16) ds) (Ok (digits_value 16 ds)) (Err fault.Mask)) high
    ∙ ap (λ t. cond t (Ok (digits_value 16 ds)) (Err fault.Mask)) all

-- decimal digits are such bytes, none is a colon, and they form an index
high_digits : (ds : List ℕ) → all_ascii_digits ds ≡ true → All IsHigh ds
high_digits [] all = All-nil IsHigh
high_digits (d ∷ ds) all =
    let parts = and_parts (is_ascii_digit d) (all_ascii_digits ds) all in
    let high : 36 ≤ d = (let digit = parts.0 in grind (arith, nat_tests)) in
    All-cons IsHigh d ds high (high_digits ds parts.1)

no_colon : (ds : List ℕ) → all_ascii_digits ds ≡ true → All (λ b. is_colon b ≡ false) ds
no_colon [] all = All-nil (λ b. is_colon b ≡ false)
no_colon (d ∷ ds) all =
    let parts = and_parts (is_ascii_digit d) (all_ascii_digits ds) all in
    let other : is_colon d ≡ false = (let digit = parts.0 in grind (arith, nat_tests)) in
    All-cons (λ b. is_colon b ≡ false) d ds other (no_colon ds parts.1)

in_radix : (ds : List ℕ) → all_ascii_digits ds ≡ true → list_all (λ b. is_digit b 10) ds ≡ true
in_radix [] all = refl
in_radix (d ∷ ds) all =
    let parts = and_parts (is_ascii_digit d) (all_ascii_digits ds) all in
    let one : is_digit d 10 ≡ true = (let digit = parts.0 in grind (arith, nat_tests)) in
    ap (λ t. t && list_all (λ b. is_digit b 10) ds) one ∙ in_radix ds parts.1

-- a number of 32 bits in at most ten digits, at the front of a text
pub record IsIndexFront (text : List ℕ) (n len : ℕ) : Type 0 where
  pub some : 0 < len
  pub few : len ≤ 10
  pub within : len ≤ length text
  pub digits : all_ascii_digits (take len text) ≡ true
  pub value : n ≡ digits_value 10 (take len text)
  pub small : n ≤ 4294967295

index_value : (text : List ℕ) (n len : ℕ) → IsIndexFront text n len → index_of_digits (take len text) ≡ Some n
index_value text n len h =
    let ds = take len text in
    let size : length (take len text) ≡ len = omega (arith, length-take len text, h.within) in
    let some : 0 < length (take len text) = omega (arith, size, h.some) in
    let few : length (take len text) ≤ 10 = omega (arith, size, h.few) in
    let bound : digits_value 10 (take len text) ≤ 4294967295 = omega (arith, h.small, h.value) in
    let low : nat_le 1 (length (take len text)) ≡ true = grind (arith, nat_tests) in
    let high : nat_le (length (take len text)) 10 ≡ true = grind (arith, nat_tests) in
    let fits : nat_le (digits_value 10 (take len text)) 4294967295 ≡ true = grind (arith, nat_tests) in
    ap (λ t. cond (t && nat_le (length ds) 10 && list_all (λ b. is_digit b 10) ds && nat_le (digits_value 10 ds) 4294967295) (Some (digits_value 10 ds))
    None) low
    ∙ ap (λ t. cond (t && list_all (λ b. is_digit b 10) ds && nat_le (digits_value 10 ds) 4294967295) (Some (digits_value 10 ds)) None) high
    ∙ ap (λ t. cond (t && nat_le (digits_value 10 ds) 4294967295) (Some (digits_value 10 ds)) None) (in_radix ds h.digits)
    ∙ ap (λ t. cond t (Some (digits_value 10 ds)) None) fits ∙ ap Some (sym h.value)

-- two such numbers with a colon between them
pub handle_front : (line colon digits behind rest : List ℕ) (w f slot generation : ℕ) → colon ≡ drop w line → 1 ≤ length colon
    → get_or colon 0 0 ≡ 58
    → digits ≡ take (length colon - 1) (drop 1 colon) → IsIndexFront line slot w → IsIndexFront digits generation f
    → behind ≡ drop f digits → prefix_len in_word behind ≡ 0 → words rest ≡ words behind
    → Leads handle_at 1 line (record { slot = slot; generation = generation }) rest
handle_front line colon digits behind rest w f slot generation cut some_c byte_c is h g left ends same =
    let inside : w < length line = omega (arith, ap length cut, length-drop w line) in
    let shape : colon ≡ get_or line w 0 ∷ drop (suc w) line = cut ∙ drop-cons line w 0 inside in
    let byte : get_or line w 0 ≡ 58 = sym (ap (λ xs. get_or xs 0 0) shape) ∙ byte_c in
    let digits_are : digits ≡ drop (suc w) line =
    is ∙ ap (λ xs. take (length xs - 1) (drop 1 xs)) shape ∙ take_all (suc (length (drop (suc w) line)) - 1) (drop (suc w) line) (omega arith) in
    let total : w + suc f ≤ length line = omega (arith, ap length digits_are, length-drop (suc w) line, g.within) in
    let text : take (w + suc f) line ≡ take w line ++ 58 ∷ take f digits =
    take-add w (suc f) line ∙ ap (λ xs. take w line ++ take (suc f) xs) (drop-cons line w 0 inside)
    ∙ ap (λ b. take w line ++ b ∷ take f (drop (suc w) line)) byte ∙ ap (λ xs. take w line ++ 58 ∷ take f xs) (sym digits_are) in
    let after : behind ≡ drop (w + suc f) line =
    left ∙ ap (drop f) digits_are ∙ drop-drop f (suc w) line ∙ ap (λ k. drop k line) (let sum : suc w + f ≡ w + suc f = omega arith in sum) in
    let high : All IsHigh (take (w + suc f) line) =
    (let P : List ℕ → Type 0 = All IsHigh in subst P (sym text)
    (All-append IsHigh (take w line) (58 ∷ take f digits) (high_digits (take w line) h.digits)
    (All-cons IsHigh 58 (take f digits) (omega arith) (high_digits (take f digits) g.digits)))) in
    let before : before_first is_colon (take w line ++ 58 ∷ take f digits) ≡ take w line =
    before_at is_colon (take w line) 58 (take f digits) (no_colon (take w line) h.digits) refl in
    let behind_colon : after_first is_colon (take w line ++ 58 ∷ take f digits) ≡ take f digits =
    after_at is_colon (take w line) 58 (take f digits) (no_colon (take w line) h.digits) refl in
    first_value handle_of_word line behind rest (w + suc f) (record { slot = slot; generation = generation }) (omega arith) total high after ends same
    (ap handle_of_word text
    ∙ ap (λ xs. handle_from (index_of_digits xs) (index_of_digits (after_first is_colon (take w line ++ 58 ∷ take f digits)))) before
    ∙ ap (λ xs. handle_from (index_of_digits (take w line)) (index_of_digits xs)) behind_colon
    ∙ ap (λ o. handle_from o (index_of_digits (take f digits))) (index_value line slot w h)
    ∙ ap (λ o. handle_from (Some slot) o) (index_value digits generation f g))

-- these bytes, from a place of a text on
abbrev pub bytes_at : List ℕ → ℕ → List ℕ → Type 0
bytes_at text n [] = Unit {0}
bytes_at text n (b ∷ bs) = (get_or text n 0 ≡ b) × bytes_at text (suc n) bs

bytes_cut : (text name : List ℕ) (n : ℕ) → n + length name ≤ length text → bytes_at text n name
    → drop n text ≡ name ++ drop (n + length name) text
bytes_cut text [] n inside h = ap (λ k. drop k text) (let same : n ≡ n + 0 = omega arith in same)
bytes_cut text (b ∷ bs) n inside h =
    drop-cons text n 0 (omega arith) ∙ ap (λ x. x ∷ drop (suc n) text) h.0 ∙ ap (λ xs. b ∷ xs) (bytes_cut text bs (suc n) (omega arith) h.1)
    ∙ ap (λ k. b ∷ (bs ++ drop k text)) (let same : suc n + length bs ≡ n + suc (length bs) = omega arith in same)

high_name : (name : List ℕ) → list_all (nat_le 36) name ≡ true → All IsHigh name
high_name [] all = All-nil IsHigh
high_name (b ∷ bs) all =
    let parts = and_parts (nat_le 36 b) (list_all (nat_le 36) bs) all in
    let high : 36 ≤ b = (let test = parts.0 in grind (arith, nat_tests)) in
    All-cons IsHigh b bs high (high_name bs parts.1)

-- a line that begins with the name of a verb
verb_words : (line rest name : List ℕ) → 0 < length name → list_all (nat_le 36) name ≡ true → length name ≤ length line → bytes_at line 0 name
    → rest ≡ take (length line - length name) (drop (length name) line) → prefix_len in_word rest ≡ 0 → words line ≡ name ∷ words rest
verb_words line rest name some high inside bytes is ends =
    let left : drop (length name) line ≡ rest =
    sym (is ∙ take_all (length line - length name) (drop (length name) line) (omega (arith, length-drop (length name) line))) in
    let cut : line ≡ name ++ drop (length name) line =
    sym (drop_none line) ∙ bytes_cut line name 0 (omega arith) bytes
    ∙ ap (λ k. name ++ drop k line) (let same : 0 + length name ≡ length name = omega arith in same) in
    let front : take (length name) line ≡ name = ap (take (length name)) cut ∙ take-append_seam name (drop (length name) line) in
    let P : List ℕ → Type 0 = All IsHigh in
    first_word line rest rest (length name) some inside (subst P (sym front) (high_name name high)) (sym left) ends refl
    ∙ ap (λ w. w ∷ words rest) front

pub verb_line : (version : Version) (line rest name : List ℕ) (v : Verb) (read : List (List ℕ) → Result Command LineFault) (o : Option Command)
    → 0 < length name
    → list_all (nat_le 36) name ≡ true → length name ≤ length line → bytes_at line 0 name
    → rest ≡ take (length line - length name) (drop (length name) line)
    → verb_of name ≡ Some v → reaches (since v) version ≡ true → ((ws : List (List ℕ)) → further_of version v ws ≡ read ws)
    → IfSome o (λ _. prefix_len in_word rest ≡ 0) → IfSome o (λ _. allows v (counted v version (words rest)) ≡ true)
    → IfSome o (λ found. read (words rest) ≡ Ok found)
    → IfSome o (λ found. command version line ≡ Ok found)
unfolding command_of
verb_line version line rest name v read None some high inside bytes is named has says ends allowed value = tt
verb_line version line rest name v read (Some found) some high inside bytes is named has says ends allowed value =
    ap (command_of version) (verb_words line rest name some high inside bytes is ends) ∙ ap (λ o. by_verb version o (words rest)) named
    ∙ ap (λ t. cond t (by_count version v (words rest)) (Err fault.Word)) has
    ∙ ap (λ t. cond t (further_of version v (words rest)) (Err fault.Count)) allowed ∙ says (words rest) ∙ value
