-- No bit is left, and each that is found picks the next one.
use Rattle.std.proofs.Common.{◌≡◌, ℕ, ◌==◌, ◌++◌, ◌∙◌, List, [], ◌∷◌, ◌<◌, ◌/◌, ◌^◌, ◌%◌}
use Rattle.std.proofs.Common.{not, filter, ap, sym, arith, append_assoc, length, drop, take, get_or, ◌-◌, ◌≤◌, refl}
use Rattle.std.proofs.lemmas.List.{append-nil}
use Rattle.std.proofs.lemmas.Nat.Bits.{bit_at-trailing_zeros}
use Rattle.std.specs.Int.{w8, trailing_zeros}
use Rattle.fixed_box.specs.Bounds.{Bounds}
use Rattle.broad_index.specs.declared.pair.Pair.{Pair}
use Rattle.broad_index.specs.Touched.{ordered_pairs}
use Rattle.tree_search.specs.Group.{picked}
use Rattle.tree_search.proofs.Groups.{picked_none, next_picked, other_on, past_last, take_all}
use Rattle.tree_search.proofs.group.push_picked.Goals as goal

all_found : (slot n : ℕ) (es : List (ℕ × Bounds)) (found all : List Pair) → picked n es ≡ []
    → found ++ ordered_pairs slot (filter (λ s. not (s == slot)) (picked n es)) ≡ all → found ≡ all
all_found slot n es found all none e =
    sym (ap (λ ks. found ++ ordered_pairs slot (filter (λ s. not (s == slot)) ks)) none ∙ append-nil found) ∙ e

pub returns-after-bits : goal.returns-after-bits
returns-after-bits c =
    let none : c.bits.bits ≡ 0 = let h = c.bits-test.false in omega arith in
    all_found c.args.slot c.bits.bits c.bits.rest.now c.bits.found.items _ (ap (λ b. picked b c.bits.rest.now) none ∙ picked_none c.bits.rest.now)
    c.bits.invariant

-- the lowest bit of a number that is not 0
lowest : (n : ℕ) → 0 < n → n < 2 ^ 8 → (n / 2 ^ trailing_zeros w8 n % 2 ≡ 1) × ((i : ℕ) → i < trailing_zeros w8 n → n / 2 ^ i % 2 ≡ 0)
lowest n some fits = let z = bit_at-trailing_zeros w8 n some fits in (z.1, z.2)

no_length : (es : List (ℕ × Bounds)) → length es < 1 → es ≡ []
no_length [] l = refl
no_length (e ∷ es) l = absurd (omega arith)

pub returns-in_default : goal.returns-in_default
returns-in_default c =
    let low = lowest c.bits.bits (let h = c.bits-test.true in omega arith) c.bits.auto.bits-fits.fits in
    all_found c.args.slot c.bits.bits c.bits.rest.now c.bits.found.items _
    (past_last (trailing_zeros w8 c.bits.bits) c.bits.bits c.bits.rest.now low.1 (sym c.behind.ensures ∙ no_length c.behind.result.now c.in_default.len_below))
    c.bits.invariant

step : (slot n g : ℕ) (x : ℕ × Bounds) (es more : List (ℕ × Bounds)) (found new all : List Pair) → ((i : ℕ) → i < g → n / 2 ^ i % 2 ≡ 0)
    → n / 2 ^ g % 2 ≡ 1 → drop g es ≡ x ∷ more → new ≡ found ++ ordered_pairs slot (filter (λ s. not (s == slot)) (x.0 ∷ []))
    → found ++ ordered_pairs slot (filter (λ s. not (s == slot)) (picked n es)) ≡ all
    → new ++ ordered_pairs slot (filter (λ s. not (s == slot)) (picked (n / 2 ^ g / 2) more)) ≡ all
step slot n g x es more found new all z one is en e =
    let one_more = ordered_pairs slot (filter (λ s. not (s == slot)) (x.0 ∷ [])) in
    let others = ordered_pairs slot (filter (λ s. not (s == slot)) (picked (n / 2 ^ g / 2) more)) in
    ap (λ ps. ps ++ others) en ∙ append_assoc found one_more others
    ∙ ap (λ ps. found ++ ps)
    (sym (ap (λ ks. ordered_pairs slot (filter (λ s. not (s == slot)) ks)) (next_picked g n x es more z one is)
    ∙ other_on slot x.0 (picked (n / 2 ^ g / 2) more)))
    ∙ e

first_and_rest : (es : List (ℕ × Bounds)) (d : ℕ × Bounds) → 1 ≤ length es → es ≡ get_or es 0 d ∷ take (length es - 1) (drop 1 es)
first_and_rest [] d l = absurd (omega arith)
first_and_rest (e ∷ es) d l =
    let fewer : length (e ∷ es) - 1 ≡ length es = omega arith in
    ap (λ xs. e ∷ xs) (sym (ap (λ n. take n es) fewer ∙ take_all (length es) es (omega arith)))

pub bits-preserved : goal.bits-preserved
bits-preserved c =
    let low = lowest c.bits.bits (let h = c.bits-test.true in omega arith) c.bits.auto.bits-fits.fits in
    step c.args.slot c.bits.bits (trailing_zeros w8 c.bits.bits) (get_or c.behind.result.now 0 c.index-other-0.result) c.bits.rest.now
    (take (length c.behind.result.now - 1) (drop 1 c.behind.result.now)) c.bits.found.items c.push_other.new.found.items _
    low.1 low.0 (sym c.behind.ensures ∙ first_and_rest c.behind.result.now c.index-other-0.result c.in-len1-up.len_at_least)
    c.in_ok-push_other.ensures c.bits.invariant
