-- Pairs that are sought for touched slots, and kept pairs renewed.
use Rattle.std.proofs.Common.{◌≡◌, ℕ, ◌<◌, Bool, true, false, cond, not, ◌&&◌, ◌||◌, ◌==◌, nat_lt, List, [], ◌∷◌, map, Option, Some, None, refl}
use Rattle.std.proofs.Common.{sym, ap, ◌∙◌, arith, inl, inr}
use Rattle.std.specs.List.{filter, All}
use Rattle.std.specs.Ordering.{nat_cmp}
use Rattle.std.specs.FinMap.{FinMap, get}
use Rattle.std.proofs.lemmas.Bool.{eq-eqb, eqb-true, cases_Bool, ltb-true}
use Rattle.std.proofs.lemmas.Bool.Decides.{nat_tests}
use Rattle.std.proofs.lemmas.List.Elements.{All-head, All-tail}
use Rattle.std.proofs.lemmas.List.Folds.{list_any-append}
use Rattle.fixed_box.specs.Bounds.{Bounds}
use Rattle.fixed_box.specs.Point.{is_at_most}
use Rattle.broad_index.specs.declared.pair.Pair.{Pair}
use Rattle.broad_index.specs.Near.{near, rises}
use Rattle.broad_index.specs.Members.{same_pair, has_pair, has_slot, both_meet, is_near, is_reached}
use Rattle.broad_index.specs.Touched.{ordered, ordered_pairs, gathered_with, stays, Renewed}
use Rattle.broad_index.proofs.MapMembers.{not_eq}
use Rattle.fixed_box.proofs.Bools.{and_false, and_comm}
use Rattle.broad_index.specs.PairLaws.{is_same}
use Rattle.broad_index.proofs.Answering.{near_is}

one_lower : (s k a b : ℕ) → s < k → (a == s && b == k) ≡ (nat_lt a b && ((a == s && b == k) || (b == s && a == k)))
one_lower s k a b l = elim (cases_Bool (a == s)) as (λ _. (a == s && b == k) ≡ (nat_lt a b && ((a == s && b == k) || (b == s && a == k)))) [
  | inl t ↦ elim (cases_Bool (b == k)) as (λ _. (a == s && b == k) ≡ (nat_lt a b && ((a == s && b == k) || (b == s && a == k)))) [
    | inl u ↦ let lt : nat_lt a b ≡ true = lower_by a s b k (eqb-true a s t) (eqb-true b k u) l in rw (t, u, lt) refl
    | inr u ↦ elim (cases_Bool (b == s)) as (λ _. (a == s && b == k) ≡ (nat_lt a b && ((a == s && b == k) || (b == s && a == k)))) [
      | inl v ↦ let no : nat_lt a b ≡ false = level a s b (eqb-true a s t) (eqb-true b s v) in rw (t, u, no) refl
      | inr v ↦ rw (t, u, v) (sym (and_false (nat_lt a b)))
    ]
  ]
  | inr t ↦ elim (cases_Bool (b == s)) as (λ _. (a == s && b == k) ≡ (nat_lt a b && ((a == s && b == k) || (b == s && a == k)))) [
    | inl v ↦ elim (cases_Bool (a == k)) as (λ _. (a == s && b == k) ≡ (nat_lt a b && ((a == s && b == k) || (b == s && a == k)))) [
      | inl w ↦ let no : nat_lt a b ≡ false = above_by a k b s (eqb-true a k w) (eqb-true b s v) l in rw (t, no) refl
      | inr w ↦ rw (t, v, w) (sym (and_false (nat_lt a b)))
    ]
    | inr v ↦ rw (t, v) (sym (and_false (nat_lt a b)))
  ]
]
  where
    lower_by : (a s b k : ℕ) → a ≡ s → b ≡ k → s < k → nat_lt a b ≡ true
    lower_by a s b k e f l = grind (arith, nat_tests)

    level : (a s b : ℕ) → a ≡ s → b ≡ s → nat_lt a b ≡ false
    level a s b e f = grind (arith, nat_tests)

    above_by : (a k b s : ℕ) → a ≡ k → b ≡ s → s < k → nat_lt a b ≡ false
    above_by a k b s e f l = grind (arith, nat_tests)

or_swap : (x y : Bool) → (x || y) ≡ (y || x)
or_swap true true = refl
or_swap true false = refl
or_swap false true = refl
or_swap false false = refl

one_ordered : (s k : ℕ) (p : Pair) → (s == k) ≡ false → same_pair p (ordered s k) ≡ (nat_lt p.a p.b && ((p.a == s && p.b == k) || (p.b == s && p.a == k)))
one_ordered s k p ne =
    elim (cases_Bool (nat_lt s k)) as (λ _. same_pair p (ordered s k) ≡ (nat_lt p.a p.b && ((p.a == s && p.b == k) || (p.b == s && p.a == k)))) [
      | inl l ↦ ap (λ c. same_pair p (cond c (record { a = s; b = k }) (record { a = k; b = s }))) l ∙ one_lower s k p.a p.b (ltb-true s k l)
      | inr l ↦
          let lt : k < s = other s k ne l in
          ap (λ c. same_pair p (cond c (record { a = s; b = k }) (record { a = k; b = s }))) l ∙ one_lower k s p.a p.b lt
          ∙ ap (λ b. nat_lt p.a p.b && b)
          (or_swap (p.a == k && p.b == s) (p.b == k && p.a == s) ∙ ap (λ b. b || (p.a == k && p.b == s)) (and_comm (p.b == k) (p.a == s))
          ∙ ap (λ b. (p.a == s && p.b == k) || b) (and_comm (p.a == k) (p.b == s)))
    ]
  where
    other : (s k : ℕ) → (s == k) ≡ false → nat_lt s k ≡ false → k < s
    other s k ne l = grind (arith, nat_tests)

spread : (n x y b1 b2 d1 d2 : Bool) → ((n && ((x && b1) || (y && d1))) || (n && ((x && b2) || (y && d2)))) ≡ (n && ((x && (b1 || b2)) || (y && (d1 || d2))))
spread false x y b1 b2 d1 d2 = refl
spread true false false b1 b2 d1 d2 = refl
spread true false true b1 b2 d1 d2 = refl
spread true true false b1 b2 d1 d2 = four b1 b2
  where
    four : (b c : Bool) → ((b || false) || (c || false)) ≡ ((b || c) || false)
    four true c = refl
    four false c = refl
spread true true true b1 b2 d1 d2 = four b1 b2 d1 d2
  where
    four : (b c d e : Bool) → ((b || d) || (c || e)) ≡ ((b || c) || (d || e))
    four true c d e = refl
    four false true true e = refl
    four false true false e = refl
    four false false d e = refl

has_with : (s : ℕ) (ks : List ℕ) (p : Pair) → has_slot ks s ≡ false
    → has_pair (ordered_pairs s ks) p ≡ (nat_lt p.a p.b && ((p.a == s && has_slot ks p.b) || (p.b == s && has_slot ks p.a)))
has_with s [] p h =
    sym
    (ap (λ b. nat_lt p.a p.b && (b || (p.b == s && false))) (and_false (p.a == s)) ∙ ap (λ b. nat_lt p.a p.b && b) (and_false (p.b == s))
    ∙ and_false (nat_lt p.a p.b))
has_with s (k ∷ ks) p h =
    let parts = or_parts (s == k) (has_slot ks s) h in
    ap (λ b. b || has_pair (ordered_pairs s ks) p) (one_ordered s k p parts.0)
    ∙ ap (λ b. (nat_lt p.a p.b && ((p.a == s && p.b == k) || (p.b == s && p.a == k))) || b) (has_with s ks p parts.1)
    ∙ spread (nat_lt p.a p.b) (p.a == s) (p.b == s) (p.b == k) (has_slot ks p.b) (p.a == k) (has_slot ks p.a)
  where
    or_parts : (x y : Bool) → (x || y) ≡ false → (x ≡ false) × (y ≡ false)
    or_parts true y h = cc
    or_parts false y h = (refl, h)

meet_back : (o q : Option Bounds) → both_meet o q ≡ both_meet q o
meet_back None None = refl
meet_back None (Some b) = refl
meet_back (Some a) None = refl
meet_back (Some a) (Some b) = and_comm (is_at_most a.lo b.hi) (is_at_most b.lo a.hi)

module _ (bodies : FinMap nat_cmp Bounds) where
  one_touched : (s : ℕ) (ks : List ℕ) (p : Pair) → ((k : ℕ) → has_slot ks k ≡ is_reached bodies s k)
      → has_pair (ordered_pairs s ks) p ≡ (is_near bodies p && ((p.a == s) || (p.b == s)))
  one_touched s ks p h =
      has_with s ks p (h s ∙ ap (λ b. not b && both_meet (get bodies s) (get bodies s)) (eq-eqb s s refl))
      ∙ elim (cases_Bool (nat_lt p.a p.b)) as
      (λ _. (nat_lt p.a p.b && ((p.a == s && has_slot ks p.b) || (p.b == s && has_slot ks p.a))) ≡ (is_near bodies p && ((p.a == s) || (p.b == s)))) [
        | inl l ↦
            let lt : p.a < p.b = ltb-true p.a p.b l in
            let first : (p.a == s && has_slot ks p.b) ≡ (p.a == s && both_meet (get bodies p.a) (get bodies p.b)) = by_first lt in
            let second : (p.b == s && has_slot ks p.a) ≡ (p.b == s && both_meet (get bodies p.a) (get bodies p.b)) = by_second lt in
            ap (λ b. b && ((p.a == s && has_slot ks p.b) || (p.b == s && has_slot ks p.a))) l
            ∙ ap (λ b. b || (p.b == s && has_slot ks p.a)) first ∙ ap (λ b. (p.a == s && both_meet (get bodies p.a) (get bodies p.b)) || b) second
            ∙ out_of (p.a == s) (p.b == s) (both_meet (get bodies p.a) (get bodies p.b))
            ∙ sym (ap (λ b. (b && both_meet (get bodies p.a) (get bodies p.b)) && ((p.a == s) || (p.b == s))) l)
        | inr l ↦
            ap (λ b. b && ((p.a == s && has_slot ks p.b) || (p.b == s && has_slot ks p.a))) l
            ∙ sym (ap (λ b. (b && both_meet (get bodies p.a) (get bodies p.b)) && ((p.a == s) || (p.b == s))) l)
      ]
    where
      out_of : (x y m : Bool) → ((x && m) || (y && m)) ≡ (m && (x || y))
      out_of true y true = refl
      out_of true true false = refl
      out_of true false false = refl
      out_of false true true = refl
      out_of false true false = refl
      out_of false false true = refl
      out_of false false false = refl

      ahead : (a b : ℕ) → a < b → (a == b) ≡ false
      ahead a b l = grind (arith, nat_tests)

      by_first : p.a < p.b → (p.a == s && has_slot ks p.b) ≡ (p.a == s && both_meet (get bodies p.a) (get bodies p.b))
      by_first lt = elim (cases_Bool (p.a == s)) as (λ _. (p.a == s && has_slot ks p.b) ≡ (p.a == s && both_meet (get bodies p.a) (get bodies p.b))) [
        | inl t ↦
            ap (λ b. p.a == s && b)
            (h p.b ∙ ap (λ x. is_reached bodies x p.b) (sym (eqb-true p.a s t))
            ∙ ap (λ b. not b && both_meet (get bodies p.a) (get bodies p.b)) (not_eq p.b p.a lt))
        | inr f ↦ ap (λ b. b && has_slot ks p.b) f ∙ sym (ap (λ b. b && both_meet (get bodies p.a) (get bodies p.b)) f)
      ]

      by_second : p.a < p.b → (p.b == s && has_slot ks p.a) ≡ (p.b == s && both_meet (get bodies p.a) (get bodies p.b))
      by_second lt = elim (cases_Bool (p.b == s)) as (λ _. (p.b == s && has_slot ks p.a) ≡ (p.b == s && both_meet (get bodies p.a) (get bodies p.b))) [
        | inl t ↦
            ap (λ b. p.b == s && b)
            (h p.a ∙ ap (λ x. is_reached bodies x p.a) (sym (eqb-true p.b s t))
            ∙ ap (λ b. not b && both_meet (get bodies p.b) (get bodies p.a)) (ahead p.a p.b lt) ∙ meet_back (get bodies p.b) (get bodies p.a))
        | inr f ↦ ap (λ b. b && has_slot ks p.a) f ∙ sym (ap (λ b. b && both_meet (get bodies p.a) (get bodies p.b)) f)
      ]

  pub touched_members : (rs : List (ℕ × List ℕ)) → All (λ r. (k : ℕ) → has_slot r.1 k ≡ is_reached bodies r.0 k) rs
      → (p : Pair) → has_pair (gathered_with rs) p ≡ (is_near bodies p && (has_slot (map (λ r. r.0) rs) p.a || has_slot (map (λ r. r.0) rs) p.b))
  touched_members [] h p = sym (and_false (is_near bodies p))
  touched_members (r ∷ rs) h p =
      list_any-append (same_pair p) (ordered_pairs r.0 r.1) (gathered_with rs)
      ∙ ap (λ b. b || has_pair (gathered_with rs) p) (one_touched r.0 r.1 p (All-head (λ r. (k : ℕ) → has_slot r.1 k ≡ is_reached bodies r.0 k) r rs h))
      ∙ ap (λ b. (is_near bodies p && ((p.a == r.0) || (p.b == r.0))) || b)
      (touched_members rs (All-tail (λ r. (k : ℕ) → has_slot r.1 k ≡ is_reached bodies r.0 k) r rs h) p)
      ∙ together (is_near bodies p) (p.a == r.0) (p.b == r.0) (has_slot (map (λ r. r.0) rs) p.a) (has_slot (map (λ r. r.0) rs) p.b)
    where
      together : (n a b c d : Bool) → ((n && (a || b)) || (n && (c || d))) ≡ (n && ((a || c) || (b || d)))
      together false a b c d = refl
      together true true b c d = refl
      together true false true true d = refl
      together true false true false d = refl
      together true false false c d = refl

  -- what is merged from kept and found pairs
  pub renewed : (marks : List Bool) (kept found out : List Pair) → Renewed bodies marks kept found → rises out ≡ true
      → ((p : Pair) → has_pair out p ≡ (has_pair (filter (stays marks) kept) p || has_pair found p)) → out ≡ near bodies
  renewed marks kept found out r up is = near_is bodies out up (λ p.
      is p ∙ ap (λ b. b || has_pair found p) (has_filter kept p) ∙ ap (λ b. (has_pair kept p && stays marks p) || b) (r.found_is p)
      ∙ joined (stays marks p) (has_pair kept p) (is_near bodies p) (r.kept_is p))
    where
      joined : (s k n : Bool) → (s ≡ true → k ≡ n) → ((k && s) || (n && not s)) ≡ n
      joined true true n h = h refl
      joined true false true h = h refl
      joined true false false h = refl
      joined false true true h = refl
      joined false true false h = refl
      joined false false true h = refl
      joined false false false h = refl

      has_filter : (ps : List Pair) (p : Pair) → has_pair (filter (stays marks) ps) p ≡ (has_pair ps p && stays marks p)
      has_filter [] p = refl
      has_filter (q ∷ ps) p =
          elim (cases_Bool (same_pair p q)) as (λ _. has_pair (filter (stays marks) (q ∷ ps)) p ≡ ((same_pair p q || has_pair ps p) && stays marks p)) [
            | inl t ↦
                let e : stays marks q ≡ stays marks p = ap (stays marks) (sym (is_same p q t)) in
                elim (cases_Bool (stays marks q)) as (λ _. has_pair (filter (stays marks) (q ∷ ps)) p ≡ ((same_pair p q || has_pair ps p) && stays marks p)) [
                  | inl s ↦
                      ap (λ c. has_pair (cond c (q ∷ filter (stays marks) ps) (filter (stays marks) ps)) p) s
                      ∙ ap (λ b. b || has_pair (filter (stays marks) ps) p) t ∙ sym (ap (λ b. (b || has_pair ps p) && stays marks p) t ∙ sym e ∙ s)
                  | inr s ↦
                      ap (λ c. has_pair (cond c (q ∷ filter (stays marks) ps) (filter (stays marks) ps)) p) s ∙ has_filter ps p
                      ∙ ap (λ b. has_pair ps p && b) (sym e ∙ s) ∙ and_false (has_pair ps p)
                      ∙ sym (ap (λ b. (same_pair p q || has_pair ps p) && b) (sym e ∙ s) ∙ and_false (same_pair p q || has_pair ps p))
                ]
            | inr f ↦
                elim (stays marks q) as
                (λ c. has_pair (cond c (q ∷ filter (stays marks) ps) (filter (stays marks) ps)) p ≡ ((same_pair p q || has_pair ps p) && stays marks p)) [
                  | true ↦ ap (λ b. b || has_pair (filter (stays marks) ps) p) f ∙ has_filter ps p ∙ sym (ap (λ b. (b || has_pair ps p) && stays marks p) f)
                  | false ↦ has_filter ps p ∙ sym (ap (λ b. (b || has_pair ps p) && stays marks p) f)
                ]
          ]
