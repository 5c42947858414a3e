-- Serves proofs alone: what one of two rising lists has and the other hasn't, one step of a merge at a time.
use Rattle.std.proofs.Common.{◌≡◌, true, false, cond, not, List, length, [], ◌∷◌, ◌++◌, refl, sym, ap, ◌∙◌, append_assoc, arith}
use Rattle.std.specs.List.{list_all}
use Rattle.std.specs.Cmp.{first_so, second_so}
use Rattle.std.specs.Cmp.Derive.{both_true}
use Rattle.std.proofs.lemmas.Bool.Decides.{nat_tests}
use Rattle.slot_lists.specs.RisingLaws.{all_weaker}
use Rattle.pair_events.specs.declared.hpair.HPair.{HPair}
use Rattle.pair_events.specs.PairEvents.{has, same_pair, precedes, rises}
use Rattle.pair_events.specs.PairEvents.{missing}

-- pairs of different places differ
apart_before : (p q : HPair) → precedes q p ≡ true → same_pair p q ≡ false
apart_before p q h = grind (arith, nat_tests)

pub apart_after : (p q : HPair) → precedes p q ≡ true → same_pair p q ≡ false
apart_after p q h = grind (arith, nat_tests)

precedes_trans : (p q r : HPair) → precedes p q ≡ true → precedes q r ≡ true → precedes p r ≡ true
precedes_trans p q r h k = grind (arith, nat_tests)

-- of two pairs of which neither stands before the other, what comes after one comes after the other
level_before : (p q r : HPair) → precedes p q ≡ false → precedes q p ≡ false → precedes q r ≡ true → precedes p r ≡ true
level_before p q r h k l = grind (arith, nat_tests)

pub same_level : (p q : HPair) → same_pair p q ≡ true → precedes p q ≡ false
same_level p q h = grind (arith, nat_tests)

pub same_turned : (p q : HPair) → same_pair p q ≡ same_pair q p
same_turned p q = elim (same_pair p q) as (λ t. same_pair p q ≡ t → t ≡ same_pair q p) [
  | true ↦ λ h. let back : same_pair q p ≡ true = grind (arith, nat_tests) in sym back
  | false ↦ λ h. let back : same_pair q p ≡ false = grind (arith, nat_tests) in sym back
] refl

pub all_after : (p q : HPair) (ps : List HPair) → precedes p q ≡ true → list_all (precedes q) ps ≡ true → list_all (precedes p) ps ≡ true
all_after p q ps h = all_weaker (precedes q) (precedes p) (λ r k. precedes_trans p q r h k) ps

all_level : (p q : HPair) (ps : List HPair) → precedes p q ≡ false → precedes q p ≡ false → list_all (precedes q) ps ≡ true → list_all (precedes p) ps ≡ true
all_level p q ps h k = all_weaker (precedes q) (precedes p) (λ r l. level_before p q r h k l) ps

none_after : (p : HPair) (ps : List HPair) → list_all (precedes p) ps ≡ true → has ps p ≡ false
none_after p [] h = refl
none_after p (q ∷ ps) h =
    let no : same_pair p q ≡ false = apart_after p q (first_so (precedes p q) (list_all (precedes p) ps) h) in
    rw no (none_after p ps (second_so (precedes p q) (list_all (precedes p) ps) h))

-- a pair before all of a list is none of theirs
pub not_of_theirs : (p : HPair) (ps others : List HPair) → list_all (precedes p) ps ≡ true → missing ps (p ∷ others) ≡ missing ps others
not_of_theirs p [] others h = refl
not_of_theirs p (q ∷ ps) others h =
    let no : same_pair q p ≡ false = apart_before q p (first_so (precedes p q) (list_all (precedes p) ps) h) in
    let rest : missing ps (p ∷ others) ≡ missing ps others = not_of_theirs p ps others (second_so (precedes p q) (list_all (precedes p) ps) h) in
    rw no (ap (λ l. cond (not (has others q)) (q ∷ l) l) rest)

front : (p : HPair) (ps others : List HPair) → has others p ≡ false → missing (p ∷ ps) others ≡ p ∷ missing ps others
front p ps others h = rw h refl

pub later_after : (q : HPair) (qs : List HPair) → rises (q ∷ qs) ≡ true → list_all (precedes q) qs ≡ true
later_after q qs r = first_so (list_all (precedes q) qs) (rises qs) r

-- p stands before q, and so before all after it
pub lone : (p : HPair) (ps : List HPair) (q : HPair) (qs : List HPair) → precedes p q ≡ true → rises (q ∷ qs) ≡ true
    → missing (p ∷ ps) (q ∷ qs) ≡ p ∷ missing ps (q ∷ qs)
lone p ps q qs h r = front p ps (q ∷ qs) (none_after p (q ∷ qs) (both_true h (all_after p q qs h (later_after q qs r))))

pub passed : (p : HPair) (ps : List HPair) (q : HPair) (qs : List HPair) → precedes p q ≡ true → rises (q ∷ qs) ≡ true
    → missing (q ∷ qs) (p ∷ ps) ≡ missing (q ∷ qs) ps
passed p ps q qs h r = not_of_theirs p (q ∷ qs) ps (both_true h (all_after p q qs h (later_after q qs r)))

-- p and q have the same slots
pub stayed : (p : HPair) (ps : List HPair) (q : HPair) (qs : List HPair) → precedes p q ≡ false → precedes q p ≡ false → same_pair p q ≡ true
    → rises (p ∷ ps) ≡ true → missing (p ∷ ps) (q ∷ qs) ≡ missing ps qs
stayed p ps q qs h k same r = rw same (not_of_theirs q ps qs (all_level q p ps k h (later_after p ps r)))

pub renewed : (p : HPair) (ps : List HPair) (q : HPair) (qs : List HPair) → precedes p q ≡ false → precedes q p ≡ false → same_pair p q ≡ false
    → rises (p ∷ ps) ≡ true → rises (q ∷ qs) ≡ true → missing (p ∷ ps) (q ∷ qs) ≡ p ∷ missing ps qs
renewed p ps q qs h k differs r s =
    let none : has qs p ≡ false = none_after p qs (all_level p q qs h k (later_after q qs s)) in
    rw (differs, none) (ap (λ l. p ∷ l) (not_of_theirs q ps qs (all_level q p ps k h (later_after p ps r))))

itself : (p : HPair) → same_pair p p ≡ true
itself p = grind (arith, nat_tests)

-- the same pair is the first of both
pub both_first : (p : HPair) (ps others : List HPair) → list_all (precedes p) ps ≡ true → missing (p ∷ ps) (p ∷ others) ≡ missing ps others
both_first p ps others h = rw (itself p) (not_of_theirs p ps others h)

-- a pair before all of the others is none of theirs
pub first_alone : (p : HPair) (ps others : List HPair) → list_all (precedes p) others ≡ true → missing (p ∷ ps) others ≡ p ∷ missing ps others
first_alone p ps others h = front p ps others (none_after p others h)

-- what was pushed, and what follows it
pub pushed : (now before : List HPair) (x : HPair) (rest all : List HPair) → now ≡ before ++ x ∷ [] → all ≡ x ∷ rest → now ++ rest ≡ before ++ all
pushed now before x rest all is all_is = ap (λ xs. xs ++ rest) is ∙ append_assoc before (x ∷ []) rest ∙ ap (λ xs. before ++ xs) (sym all_is)

pub all_missing : (ps : List HPair) → missing ps [] ≡ ps
all_missing [] = refl
all_missing (p ∷ ps) = ap (λ l. p ∷ l) (all_missing ps)

-- where one of the lists has ended
pub rest_missing : (ps others : List HPair) → length others ≡ 0 → missing ps others ≡ ps
rest_missing ps [] h = all_missing ps
rest_missing ps (q ∷ qs) h = let never : ⊥ = omega (arith, h) in absurd never

pub none_missing : (ps others : List HPair) → length ps ≡ 0 → missing ps others ≡ ps
none_missing [] others h = refl
none_missing (q ∷ qs) others h = let never : ⊥ = omega (arith, h) in absurd never
