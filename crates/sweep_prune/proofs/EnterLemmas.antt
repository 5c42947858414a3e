-- A core with one slot more, last on each list.
use Rattle.std.proofs.Common.{ℕ, Bool, true, false, List, refl, sym, ap, arith, inl, inr, subst, append_assoc, ◌≡◌, ◌≢◌, ◌+◌, ◌*◌, ◌<◌, ◌&&◌, ◌||◌}
use Rattle.std.proofs.Common.{◌==◌, ◌∷◌, ◌++◌, ◌∙◌, []}
use Rattle.std.proofs.lemmas.Bool.{eq-eqb, ne_eqb, cases_eq, and_from, or_cases, or_left, or_right, false≢true, and_left, and_right}
use Rattle.endpoint_list.specs.NodeList.{has, IsDistinct}
use Rattle.sweep_prune.specs.Core.{appended, entered}
use Rattle.sweep_prune.specs.CoreKeeps.{IsCore}
use Rattle.sweep_prune.specs.Places.{stands_before, overlap_in, one_if, on}
use Rattle.sweep_prune.specs.declared.axis.Axis.{Axis}
use Rattle.sweep_prune.specs.declared.axis.Axis.TheVariants.{X, Y, Z}
use Rattle.sweep_prune.specs.declared.lists.Lists.{Lists}
use Rattle.sweep_prune.proofs.NodeLists.{has_append, distinct_push}
use Rattle.sweep_prune.proofs.StandsBefore.{absent_first, stands_pushed}

-- both nodes last
pub record Appends (l : List ℕ) (s : ℕ) : Type 0 where
  pub is : appended s l ≡ (l ++ 2 * s ∷ []) ++ (2 * s + 1) ∷ []
  pub distinct : IsDistinct (appended s l)
  pub members : (n : ℕ) → has n (appended s l) ≡ (has n l || (2 * s == n || (2 * s + 1 == n || false)))
  pub ordered : (t : ℕ) → (has (2 * t) l ≡ true → stands_before l (2 * t) (2 * t + 1) ≡ true) → has (2 * t) (appended s l) ≡ true
      → stands_before (appended s l) (2 * t) (2 * t + 1) ≡ true
  pub overlaps : (a b : ℕ) → a ≢ b → overlap_in (appended s l) a b ≡ overlap_in l a b

or_false : (b c : Bool) → c ≡ false → (b || c) ≡ b
or_false true c e = refl
or_false false c e = e

pub appends : (l : List ℕ) (s : ℕ) → IsDistinct l → has (2 * s) l ≡ false → has (2 * s + 1) l ≡ false → Appends l s
appends l s d a b =
    let m = l ++ 2 * s ∷ [] in
    let is : appended s l ≡ m ++ (2 * s + 1) ∷ [] = sym (append_assoc l (2 * s ∷ []) ((2 * s + 1) ∷ [])) in
    let even : (2 * s == 2 * s + 1) ≡ false = ne_eqb (2 * s) (2 * s + 1) (λ e. absurd (omega arith)) in
    let fresh : has (2 * s + 1) m ≡ false = has_append (2 * s + 1) l (2 * s ∷ []) ∙ (rw (b, even) refl) in
    let stands : (u v : ℕ) → stands_before (appended s l) u v ≡ ((stands_before l u v || (has u l && 2 * s == v)) || (has u m && (2 * s + 1) == v)) = λ u v.
    ap (λ x. stands_before x u v) is ∙ stands_pushed m (2 * s + 1) u v ∙ ap (λ x. x || (has u m && (2 * s + 1) == v)) (stands_pushed l (2 * s) u v) in
    -- a minimum against the maximum of another slot than s
    let kept : (c e : ℕ) → e ≢ s → stands_before (appended s l) (2 * c) (2 * e + 1) ≡ stands_before l (2 * c) (2 * e + 1) = λ c e ne.
    let x : (2 * s == 2 * e + 1) ≡ false = ne_eqb (2 * s) (2 * e + 1) (λ q. absurd (omega arith)) in
    let y : ((2 * s + 1) == 2 * e + 1) ≡ false = ne_eqb (2 * s + 1) (2 * e + 1) (λ q. ne (omega arith)) in
    stands (2 * c) (2 * e + 1) ∙ or_false _ _ (and_right (has (2 * c) m) ((2 * s + 1) == 2 * e + 1) y)
    ∙ or_false _ _ (and_right (has (2 * c) l) (2 * s == 2 * e + 1) x) in
    -- the minimum of s stands before no maximum of another slot
    let apart : (c : ℕ) → c ≢ s → (stands_before (appended s l) (2 * s) (2 * c + 1) ≡ false) × (stands_before l (2 * s) (2 * c + 1) ≡ false) = λ c ne.
    let z = absent_first l (2 * s) (2 * c + 1) a in (kept s c ne ∙ z, z) in
    record {
      is = is;
      distinct = subst IsDistinct (sym is) (distinct_push m (2 * s + 1) (distinct_push l (2 * s) d a) fresh);
      members = λ n. has_append n l (2 * s ∷ (2 * s + 1) ∷ []);
      ordered = λ t o h. elim (cases_eq t s) as (λ _. stands_before (appended s l) (2 * t) (2 * t + 1) ≡ true) [
        | inl e ↦ stands (2 * t) (2 * t + 1) ∙ or_right _ (has (2 * t) m && (2 * s + 1) == 2 * t + 1) (and_from (has (2 * t) m) ((2 * s + 1) == 2 * t + 1)
            (has_append (2 * t) l (2 * s ∷ []) ∙ or_right (has (2 * t) l) (2 * s == 2 * t || false)
            (or_left (2 * s == 2 * t) false (eq-eqb (2 * s) (2 * t) (omega arith))))
            (eq-eqb (2 * s + 1) (2 * t + 1) (omega arith)))
        | inr ne ↦
            let x : (2 * s == 2 * t) ≡ false = ne_eqb (2 * s) (2 * t) (λ q. ne (omega arith)) in
            let y : ((2 * s + 1) == 2 * t) ≡ false = ne_eqb (2 * s + 1) (2 * t) (λ q. absurd (omega arith)) in
            let there : has (2 * t) l ≡ true = sym (or_false (has (2 * t) l) (2 * s == 2 * t || ((2 * s + 1) == 2 * t || false)) (rw (x, y) refl))
            ∙ sym (has_append (2 * t) l (2 * s ∷ (2 * s + 1) ∷ [])) ∙ h in
            kept t t ne ∙ o there
      ];
      overlaps = λ c e ne. elim (cases_eq c s) as (λ _. overlap_in (appended s l) c e ≡ overlap_in l c e) [
        | inl q ↦ let w = apart e (λ r. ne (q ∙ sym r)) in
            ap (λ x. overlap_in (appended s l) x e) q
            ∙ and_left _ (stands_before (appended s l) (2 * e) (2 * s + 1)) w.0 ∙ sym (and_left _ (stands_before l (2 * e) (2 * s + 1)) w.1)
            ∙ ap (λ x. overlap_in l x e) (sym q)
        | inr q ↦ elim (cases_eq e s) as (λ _. overlap_in (appended s l) c e ≡ overlap_in l c e) [
          | inl r ↦ let w = apart c q in
              ap (λ x. overlap_in (appended s l) c x) r
              ∙ and_right (stands_before (appended s l) (2 * c) (2 * s + 1)) _ w.0 ∙ sym (and_right (stands_before l (2 * c) (2 * s + 1)) _ w.1)
              ∙ ap (λ x. overlap_in l c x) (sym r)
          | inr r ↦ ap (λ x. x && stands_before (appended s l) (2 * e) (2 * c + 1)) (kept c e r)
              ∙ ap (λ x. stands_before l (2 * c) (2 * e + 1) && x) (kept e c q)
        ]
      ];
    }

on_entered : (s : ℕ) (ls : Lists) (axis : Axis) → on axis (entered s ls) ≡ appended s (on axis ls)
on_entered s ls X = refl
on_entered s ls Y = refl
on_entered s ls Z = refl

-- a list has both nodes of a slot or none
both_nodes : (s t : ℕ) → (2 * s == 2 * t || (2 * s + 1 == 2 * t || false)) ≡ (2 * s == 2 * t + 1 || (2 * s + 1 == 2 * t + 1 || false))
both_nodes s t = elim (cases_eq s t) as (λ _. (2 * s == 2 * t || (2 * s + 1 == 2 * t || false)) ≡ (2 * s == 2 * t + 1 || (2 * s + 1 == 2 * t + 1 || false))) [
  | inl e ↦ or_left (2 * s == 2 * t) (2 * s + 1 == 2 * t || false) (eq-eqb (2 * s) (2 * t) (omega arith))
      ∙ sym (or_right (2 * s == 2 * t + 1) (2 * s + 1 == 2 * t + 1 || false)
      (or_left (2 * s + 1 == 2 * t + 1) false (eq-eqb (2 * s + 1) (2 * t + 1) (omega arith))))
  | inr n ↦
      let a : (2 * s == 2 * t) ≡ false = ne_eqb (2 * s) (2 * t) (λ q. n (omega arith)) in
      let b : (2 * s + 1 == 2 * t) ≡ false = ne_eqb (2 * s + 1) (2 * t) (λ q. absurd (omega arith)) in
      let c : (2 * s == 2 * t + 1) ≡ false = ne_eqb (2 * s) (2 * t + 1) (λ q. absurd (omega arith)) in
      let d : (2 * s + 1 == 2 * t + 1) ≡ false = ne_eqb (2 * s + 1) (2 * t + 1) (λ q. n (omega arith)) in
      rw (a, b, c, d) refl
]

pub core_entered : (ls : Lists) (counts : List (List ℕ)) (s : ℕ) → IsCore ls counts → s < 8192 → ((axis : Axis) → has (2 * s) (on axis ls) ≡ false)
    → IsCore (entered s ls) counts
core_entered ls counts s k lt h =
    let each : (axis : Axis) → Appends (on axis ls) s = λ axis. appends (on axis ls) s (k.whole.distinct axis) (h axis)
    (sym (k.whole.paired axis s) ∙ h axis) in
    let at : (axis : Axis) → on axis (entered s ls) ≡ appended s (on axis ls) = on_entered s ls in
    let mem : (axis : Axis) (n : ℕ) → has n (on axis (entered s ls)) ≡ (has n (on axis ls) || (2 * s == n || (2 * s + 1 == n || false))) =
    λ axis n. ap (has n) (at axis) ∙ (each axis).members n in
    record {
      whole = record {
        distinct = λ axis. subst IsDistinct (sym (at axis)) (each axis).distinct;
        small = λ axis n i. elim (or_cases (has n (on axis ls)) (2 * s == n || (2 * s + 1 == n || false)) (sym (mem axis n) ∙ i)) as (λ _. n < 16384) [
          | inl j ↦ k.whole.small axis n j
          | inr j ↦ elim (cases_eq (2 * s) n) as (λ _. n < 16384) [
            | inl e ↦ omega arith
            | inr ne ↦ elim (cases_eq (2 * s + 1) n) as (λ _. n < 16384) [
              | inl e ↦ omega arith
              | inr mo ↦ let x = ne_eqb (2 * s) n ne in let y = ne_eqb (2 * s + 1) n mo in absurd (false≢true (sym (rw (x, y) refl) ∙ j))
            ]
          ]
        ];
        same = λ axis other n. mem axis n ∙ ap (λ b. b || (2 * s == n || (2 * s + 1 == n || false))) (k.whole.same axis other n) ∙ sym (mem other n);
        paired = λ axis t. mem axis (2 * t) ∙ ap (λ b. b || (2 * s == 2 * t || (2 * s + 1 == 2 * t || false))) (k.whole.paired axis t)
            ∙ ap (λ b. has (2 * t + 1) (on axis ls) || b) (both_nodes s t) ∙ sym (mem axis (2 * t + 1));
        ordered = λ axis t i. ap (λ l. stands_before l (2 * t) (2 * t + 1)) (at axis)
            ∙ (each axis).ordered t (k.whole.ordered axis t) (ap (has (2 * t)) (sym (at axis)) ∙ i);
      };
      counted = λ a b l. k.counted a b l ∙ sym (
          ap (λ v. one_if v + one_if (overlap_in (entered s ls).y a b) + one_if (overlap_in (entered s ls).z a b))
          ((each X).overlaps a b (λ e. absurd (omega arith)))
          ∙ ap (λ v. one_if (overlap_in ls.x a b) + one_if v + one_if (overlap_in (entered s ls).z a b)) ((each Y).overlaps a b (λ e. absurd (omega arith)))
          ∙ ap (λ v. one_if (overlap_in ls.x a b) + one_if (overlap_in ls.y a b) + one_if v) ((each Z).overlaps a b (λ e. absurd (omega arith))));
    }
