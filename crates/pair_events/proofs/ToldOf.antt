-- What is told of a frame, from what began and what is over.
use Rattle.std.proofs.Common.{◌≡◌, Bool, true, false, cond, not, ◌||◌, List, [], ◌∷◌, ◌++◌, map, filter, refl, ap, ◌∙◌, arith}
use Rattle.std.proofs.lemmas.Bool.Decides.{nat_tests}
use Rattle.pair_events.specs.declared.hpair.HPair.{HPair}
use Rattle.pair_events.specs.declared.told.Told.{Told}
use Rattle.pair_events.specs.declared.told.Event.{Event}
use Rattle.pair_events.specs.declared.told.Event.TheVariants.{Begin, Stay, Over}
use Rattle.pair_events.specs.PairEvents.{events, ended, has, kept_or_begun, same_pair}
use Rattle.pair_events.specs.PairEvents.{missing, changes, told_of, precedes, rises, is_change}
use Rattle.pair_events.specs.MissingLaws.{apart_after, later_after}
use Rattle.slot_lists.specs.RisingLaws.{later_rise}
use Rattle.std.proofs.Common.{length, ◌+◌}
use Rattle.std.proofs.lemmas.List.{length-map}
use Rattle.std.specs.List.{list_all}
use Rattle.std.specs.Cmp.{first_so, second_so}
use Rattle.std.specs.Cmp.Derive.{both_true}
use Rattle.slot_lists.specs.RisingLaws.{all_weaker}

self_same : (p : HPair) → same_pair p p ≡ true
self_same p = grind (arith, nat_tests)

or_true : (b : Bool) → (b || true) ≡ true
or_true true = refl
or_true false = refl

in_more : (x : HPair) (ps qs : List HPair) → list_all (has ps) qs ≡ true → list_all (has (x ∷ ps)) qs ≡ true
in_more x ps qs h = all_weaker (has ps) (has (x ∷ ps)) (λ r e. ap (λ b. same_pair r x || b) e ∙ or_true (same_pair r x)) qs h

self_in : (ps : List HPair) → list_all (has ps) ps ≡ true
self_in [] = refl
self_in (p ∷ ps) = both_true (ap (λ b. b || has ps p) (self_same p)) (in_more p ps ps (self_in ps))

abbrev kept : List HPair → HPair → Told
kept before p = record { event = cond (has before p) Stay Begin; pair = p }

abbrev as_told : HPair → Event → Told
as_told p e = record { event = e; pair = p }

filter_both : (xs ys : List Told) → filter is_change (xs ++ ys) ≡ filter is_change xs ++ filter is_change ys
filter_both [] ys = refl
filter_both (x ∷ xs) ys =
    elim (is_change x) as (λ b. cond b (x ∷ filter is_change (xs ++ ys)) (filter is_change (xs ++ ys)) ≡ cond b (x ∷ filter is_change xs) (filter is_change xs) ++ filter is_change ys) [
      | true ↦ ap (λ l. x ∷ l) (filter_both xs ys)
      | false ↦ filter_both xs ys
    ]

abbrev begin : HPair → Told
begin p = record { event = Begin; pair = p }

abbrev over : HPair → Told
over p = record { event = Over; pair = p }

begun_more : (p : HPair) (b : Bool) (told : List Told) (rest : List HPair) → filter is_change told ≡ map begin rest
    → filter is_change (as_told p (cond b Stay Begin) ∷ told) ≡ map begin (cond (not b) (p ∷ rest) rest)
begun_more p true told rest h = h
begun_more p false told rest h = ap (λ l. begin p ∷ l) h

begun : (before part : List HPair) → filter is_change (map (kept before) part) ≡ map begin (missing part before)
begun before [] = refl
begun before (p ∷ part) = begun_more p (has before p) (map (kept before) part) (missing part before) (begun before part)

all_over : (ps : List HPair) → filter is_change (map over ps) ≡ map over ps
all_over [] = refl
all_over (p ∷ ps) = ap (λ l. over p ∷ l) (all_over ps)

pub changes_are : (before now : List HPair) → filter is_change (events before now) ≡ changes (missing now before) (missing before now)
changes_are before now =
    filter_both (map (kept before) now) (ended before now)
    ∙ ap (λ l. l ++ filter is_change (ended before now)) (begun before now) ∙ ap (λ l. map begin (missing now before) ++ l) (all_over (missing before now))

-- a pair that is none of those that began stays
not_first : (p : HPair) (ps bs os : List HPair) → list_all (precedes p) bs ≡ true
    → told_of (p ∷ ps) bs os ≡ record { event = Stay; pair = p } ∷ told_of ps bs os
not_first p ps [] os h = refl
not_first p ps (b ∷ bs) os h =
    let no : same_pair p b ≡ false = apart_after p b (first_so (precedes p b) (list_all (precedes p) bs) h) in
    rw no refl

all_of_some : (f g : HPair → Bool) (ps : List HPair) → list_all f ps ≡ true → list_all f (filter g ps) ≡ true
all_of_some f g [] h = refl
all_of_some f g (p ∷ ps) h =
    let rest : list_all f (filter g ps) ≡ true = all_of_some f g ps (second_so (f p) (list_all f ps) h) in
    elim (g p) as (λ b. list_all f (cond b (p ∷ filter g ps) (filter g ps)) ≡ true) [
      | true ↦ both_true (first_so (f p) (list_all f ps) h) rest
      | false ↦ rest
    ]

told_from : (before part os : List HPair) → rises part ≡ true
    → told_of part (missing part before) os ≡ kept_or_begun before part ++ map over os
told_from before [] os r = refl
told_from before (p ∷ ps) os r =
    let later : list_all (precedes p) ps ≡ true = later_after p ps r in
    let rest : told_of ps (missing ps before) os ≡ kept_or_begun before ps ++ map over os = told_from before ps os (later_rise precedes p ps r) in
    elim (has before p) as (λ t. told_of (p ∷ ps) (cond (not t) (p ∷ missing ps before) (missing ps before)) os
    ≡ as_told p (cond t Stay Begin) ∷ (kept_or_begun before ps ++ map over os)) [
      | true ↦ not_first p ps (missing ps before) os (all_of_some (precedes p) (λ q. not (has before q)) ps later) ∙ ap (λ l. as_told p Stay ∷ l) rest
      | false ↦ rw (self_same p) (ap (λ l. as_told p Begin ∷ l) rest)
    ]

pub told_is : (before now : List HPair) → rises now ≡ true → told_of now (missing now before) (missing before now) ≡ events before now
told_is before now r = told_from before now (missing before now) r

-- where all of them began
pub all_begin : (bs os : List HPair) → told_of bs bs os ≡ changes bs os
all_begin [] os = refl
all_begin (b ∷ bs) os = rw (self_same b) (ap (λ l. as_told b Begin ∷ l) (all_begin bs os))

pub length_told : (ps bs os : List HPair) → length (told_of ps bs os) ≡ length ps + length os
length_told [] bs os = let e : length (map over os) ≡ length os = length-map os over in omega (arith, e)
length_told (p ∷ ps) [] os = let e : length (told_of ps [] os) ≡ length ps + length os = length_told ps [] os in omega (arith, e)
length_told (p ∷ ps) (b ∷ bs) os =
    let both : length (told_of ps bs os) ≡ length ps + length os = length_told ps bs os in
    let one : length (told_of ps (b ∷ bs) os) ≡ length ps + length os = length_told ps (b ∷ bs) os in
    elim (same_pair p b) as (λ t. length (cond t (as_told p Begin ∷ told_of ps bs os) (as_told p Stay ∷ told_of ps (b ∷ bs) os)) ≡ length (p ∷ ps) + length os) [
      | true ↦ omega (arith, both)
      | false ↦ omega (arith, one)
    ]

none_of : (ps others : List HPair) → list_all (has others) ps ≡ true → missing ps others ≡ []
none_of [] others h = refl
none_of (p ∷ ps) others h =
    let there : has others p ≡ true = first_so (has others p) (list_all (has others) ps) h in
    rw there (none_of ps others (second_so (has others p) (list_all (has others) ps) h))

pub none_missing : (ps : List HPair) → missing ps ps ≡ []
none_missing ps = none_of ps ps (self_in ps)
