-- One step of the merge of pairs in handles with those of slots.
use Rattle.std.proofs.Common.{◌≡◌, ◌==◌, ◌&&◌, ◌≤◌, ◌-◌, ℕ, zero, suc, true, false, List, [], ◌∷◌, ◌++◌, Some, None, refl, ap, sym, ◌∙◌, length, take, drop, arith}
use Rattle.std.specs.List.{filter_map, cons_option, list_all}
use Rattle.std.specs.Cmp.{first_so, second_so}
use Rattle.std.specs.Cmp.Derive.{both_true}
use Rattle.std.proofs.lemmas.Bool.{eqb-true}
use Rattle.std.proofs.lemmas.Bool.Decides.{nat_tests}
use Rattle.live_table.specs.declared.live.Live.{Live}
use Rattle.broad_index.specs.declared.pair.Pair.{Pair}
use Rattle.slot_lists.specs.RisingLaws.{all_weaker}
use Rattle.broad_index.specs.Near.{precedes as slots_precede, rises as slots_rise}
use Rattle.pair_events.specs.declared.hpair.HPair.{HPair}
use Rattle.pair_events.specs.PairEvents.{precedes, rises}
use Rattle.pair_events.specs.MissingLaws.{all_after, later_after}
use Rattle.live_queries.specs.InHandles.{touching, slots_in}
use Rattle.live_queries.proofs.Current.{touching_slots}

pub same_slots : (h : HPair) (p : Pair) → (h.a.slot == p.a && h.b.slot == p.b) ≡ true → slots_in h ≡ p
same_slots h p is =
    ap (λ s. record { a = s; b = h.b.slot }) (eqb-true h.a.slot p.a (first_so (h.a.slot == p.a) (h.b.slot == p.b) is))
    ∙ ap (λ s. record { a = p.a; b = s }) (eqb-true h.b.slot p.b (second_so (h.a.slot == p.a) (h.b.slot == p.b) is))

-- what stands before some slots stands before the pairs that these make
pub made_after : (es : List Live) (x : HPair) (ps : List Pair) → list_all (slots_precede (slots_in x)) ps ≡ true
    → list_all (precedes x) (filter_map (touching es) ps) ≡ true
made_after es x [] h = refl
made_after es x (p ∷ ps) h =
    let rest : list_all (precedes x) (filter_map (touching es) ps) ≡ true = made_after es x ps (second_so _ _ h) in
    elim (touching es p) as (λ o. touching es p ≡ o → list_all (precedes x) (cons_option o (filter_map (touching es) ps)) ≡ true) [
      | None ↦ λ _. rest
      | Some y ↦ λ is. both_true (ap (slots_precede (slots_in x)) (touching_slots es p y is) ∙ first_so _ _ h) rest
    ] refl

-- a pair that stands neither at some slots nor before them stands behind them
lower_slots : (x first : HPair) → (first.a.slot == x.a.slot && first.b.slot == x.b.slot) ≡ false → slots_precede (slots_in first) (slots_in x) ≡ false
    → precedes x first ≡ true
lower_slots x first h k = grind (arith, nat_tests)

pub before_all : (x first : HPair) (later : List HPair) (p : Pair) → slots_in x ≡ p → (first.a.slot == p.a && first.b.slot == p.b) ≡ false
    → slots_precede (slots_in first) p ≡ false → rises (first ∷ later) ≡ true → list_all (precedes x) (first ∷ later) ≡ true
before_all x first later p is apart above up =
    let lower : precedes x first ≡ true =
    lower_slots x first (ap (λ s. first.a.slot == s.a && first.b.slot == s.b) is ∙ apart) (ap (slots_precede (slots_in first)) is ∙ above) in
    both_true lower (all_after x first later lower (later_after first later up))

pub before_none : (x : HPair) (xs : List HPair) → length xs ≡ 0 → list_all (precedes x) xs ≡ true
before_none x [] h = refl
before_none x (y ∷ ys) h = let never : ⊥ = omega (arith, h) in absurd never

record IsLonger (n : ℕ) (xs : List HPair) (x : HPair) (later : List HPair) : Type 0 where
  pub taken : take (suc n) xs ≡ take n xs ++ x ∷ []
  pub dropped : drop (suc n) xs ≡ later

longer : (n : ℕ) (xs : List HPair) (x : HPair) (later : List HPair) → drop n xs ≡ x ∷ later → IsLonger n xs x later
longer zero [] x later h = absurd (cc)
longer zero (y ∷ ys) x later h =
    let same : y ≡ x = cc in
    let rest : ys ≡ later = cc in
    record { taken = ap (λ z. z ∷ []) same; dropped = rest }
longer (suc n) [] x later h = absurd (cc)
longer (suc n) (y ∷ ys) x later h =
    let is : IsLonger n ys x later = longer n ys x later h in
    record { taken = ap (λ zs. y ∷ zs) is.taken; dropped = is.dropped }

-- A run before what is left of it, and the same with one pair fewer left.
pub record Passes (run : List HPair) (x : HPair) (later : List HPair) : Type 0 where
  pub fits : length later ≤ length run
  pub follows : drop (length run - length later) run ≡ later
  pub taken : take (length run - length later) run ≡ take (length run - length (x ∷ later)) run ++ x ∷ []

pub passes : (run left : List HPair) (x : HPair) (later : List HPair) → length left ≤ length run → drop (length run - length left) run ≡ left
    → left ≡ x ∷ later → Passes run x later
passes run left x later fits follows is =
    let long : length left ≡ suc (length later) = ap length is in
    let one : length run - length later ≡ suc (length run - length (x ∷ later)) = omega (arith, fits, long) in
    let at : drop (length run - length (x ∷ later)) run ≡ x ∷ later = ap (λ xs. drop (length run - length xs) run) (sym is) ∙ follows ∙ is in
    let next : IsLonger (length run - length (x ∷ later)) run x later = longer (length run - length (x ∷ later)) run x later at in
    record {
      fits = omega (arith, fits, long);
      follows = ap (λ n. drop n run) one ∙ next.dropped;
      taken = ap (λ n. take n run) one ∙ next.taken;
    }

-- nothing of a run stands before the whole
pub whole_left : (run : List HPair) → drop (length run - length run) run ≡ run
whole_left run = let none : length run - length run ≡ 0 = omega arith in ap (λ n. drop n run) none

pub none_passed : (run : List HPair) → take (length run - length run) run ≡ []
none_passed run = let none : length run - length run ≡ 0 = omega arith in ap (λ n. take n run) none

slots_follow : (p q r : Pair) → slots_precede p q ≡ true → slots_precede q r ≡ true → slots_precede p r ≡ true
slots_follow p q r h k = grind (arith, nat_tests)

pub slots_below : (p q : Pair) (qs : List Pair) → slots_precede p q ≡ true → slots_rise (q ∷ qs) ≡ true → list_all (slots_precede p) (q ∷ qs) ≡ true
slots_below p q qs h up =
    both_true h (all_weaker (slots_precede q) (slots_precede p) (λ r k. slots_follow p q r h k) qs (first_so (list_all (slots_precede q) qs) (slots_rise qs) up))

pub no_pairs : (ps : List Pair) → length ps ≡ 0 → ps ≡ []
no_pairs [] h = refl
no_pairs (p ∷ ps) h = let never : ⊥ = omega (arith, h) in absurd never
