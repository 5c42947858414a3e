-- A core with one slot less.
use Rattle.std.proofs.Common.{ℕ, Bool, true, false, cond, not, List, refl, sym, ap, arith, inl, inr, subst, filter, ◌≡◌, ◌≢◌, ◌+◌, ◌*◌, ◌/◌, ◌&&◌}
use Rattle.std.proofs.Common.{◌||◌, ◌==◌, ◌∷◌, ◌++◌, ◌∙◌}
use Rattle.std.proofs.lemmas.Bool.{eq-eqb, ne_eqb, cases_eq, and_parts, or_parts, false≢true, and_left, and_right}
use Rattle.std.proofs.lemmas.Bool.Decides.{eqb_tells}
use lib.Dec.{eqb}
use Rattle.endpoint_list.specs.NodeList.{has, IsDistinct}
use Rattle.overlap_count.specs.Counts.{count_of}
use Rattle.sweep_prune.specs.Core.{withdrawn, left}
use Rattle.sweep_prune.specs.CoreKeeps.{IsCore}
use Rattle.sweep_prune.specs.Places.{stands_before, overlap_in, one_if, on}
use Rattle.sweep_prune.specs.declared.axis.Axis.{Axis}
use Rattle.sweep_prune.specs.declared.axis.Axis.TheVariants.{X, Y, Z}
use Rattle.sweep_prune.specs.declared.lists.Lists.{Lists}
use Rattle.sweep_prune.proofs.NodeLists.{has_first, distinct_without, has_filter, distinct_filter, filter_without, filter_whole}
use Rattle.sweep_prune.proofs.StandsBefore.{absent_first, stands_filter}

-- without its minimum a list still has a slot's maximum
pub still_there : (s : ℕ) (l ys zs : List ℕ) → l ≡ ys ++ 2 * s ∷ zs → has (2 * s + 1) l ≡ true → has (2 * s + 1) (ys ++ zs) ≡ true
still_there s l ys zs e h =
    let apart : (2 * s == 2 * s + 1) ≡ false = ne_eqb (2 * s) (2 * s + 1) (λ q. absurd (omega arith)) in
    let g : (2 * s == 2 * s + 1 || has (2 * s + 1) (ys ++ zs)) ≡ true =
    sym (has_first (2 * s + 1) (2 * s) ys zs) ∙ ap (has (2 * s + 1)) (sym e) ∙ h in
    rw apart at g

pub unlinked_both : (s : ℕ) (l ys zs us vs : List ℕ) → IsDistinct l → l ≡ ys ++ 2 * s ∷ zs → ys ++ zs ≡ us ++ (2 * s + 1) ∷ vs → us ++ vs ≡ withdrawn s l
unlinked_both s l ys zs us vs d e f =
    let p : ℕ → Bool = λ n. not (n / 2 == s) in
    let pm : p (2 * s) ≡ false = ap not (eq-eqb (2 * s / 2) s (omega arith)) in
    let pM : p (2 * s + 1) ≡ false = ap not (eq-eqb ((2 * s + 1) / 2) s (omega arith)) in
    let g = distinct_without (2 * s) ys zs (subst IsDistinct e d) in
    let h = distinct_without (2 * s + 1) us vs (subst IsDistinct f g.1) in
    let no_m : has (2 * s) (us ++ vs) ≡ false = (or_parts (2 * s + 1 == 2 * s) (has (2 * s) (us ++ vs))
    (sym (has_first (2 * s) (2 * s + 1) us vs) ∙ ap (has (2 * s)) (sym f) ∙ g.0)).1 in
    let whole : filter p (us ++ vs) ≡ us ++ vs = filter_whole p (us ++ vs) (λ n i. ap not (ne_eqb (n / 2) s (λ q. elim (cases_eq n (2 * s)) as (λ _. ⊥) [
      | inl r ↦ false≢true (sym no_m ∙ ap (λ m. has m (us ++ vs)) (sym r) ∙ i)
      | inr r ↦ let o : n ≡ 2 * s + 1 = omega arith in false≢true (sym h.0 ∙ ap (λ m. has m (us ++ vs)) (sym o) ∙ i)
    ]))) in
    sym (ap (filter p) e ∙ filter_without p (2 * s) ys zs pm ∙ ap (filter p) f ∙ filter_without p (2 * s + 1) us vs pM ∙ whole)

on_left : (s : ℕ) (ls : Lists) (axis : Axis) → on axis (left s ls) ≡ withdrawn s (on axis ls)
on_left s ls X = refl
on_left s ls Y = refl
on_left s ls Z = refl

overlap_quitted : (s : ℕ) (l : List ℕ) (a b : ℕ) → one_if (overlap_in (withdrawn s l) a b) ≡ cond (eqb a s || eqb b s) 0 (one_if (overlap_in l a b))
overlap_quitted s l a b =
    let p : ℕ → Bool = λ n. not (n / 2 == s) in
    let gone : (c : ℕ) → c ≡ s → has (2 * c) (withdrawn s l) ≡ false = λ c e. has_filter p (2 * c) l
    ∙ and_right (has (2 * c) l) (p (2 * c)) (ap not (eq-eqb (2 * c / 2) s (omega arith))) in
    let stays : (c : ℕ) → c ≢ s → (p (2 * c) ≡ true) × (p (2 * c + 1) ≡ true) =
    λ c ne. (ap not (ne_eqb (2 * c / 2) s (λ q. ne (omega arith))), ap not (ne_eqb ((2 * c + 1) / 2) s (λ q. ne (omega arith)))) in
    elim (eqb_tells a s) as (λ _. one_if (overlap_in (withdrawn s l) a b) ≡ cond (eqb a s || eqb b s) 0 (one_if (overlap_in l a b))) [
      | inl e ↦ rw e.0 (ap one_if (and_left (stands_before (withdrawn s l) (2 * a) (2 * b + 1)) (stands_before (withdrawn s l) (2 * b) (2 * a + 1))
          (absent_first (withdrawn s l) (2 * a) (2 * b + 1) (gone a e.1))))
      | inr n ↦ rw n.0 (elim (eqb_tells b s) as (λ _. one_if (overlap_in (withdrawn s l) a b) ≡ cond (eqb b s) 0 (one_if (overlap_in l a b))) [
        | inl e ↦ rw e.0 (ap one_if (and_right (stands_before (withdrawn s l) (2 * a) (2 * b + 1)) (stands_before (withdrawn s l) (2 * b) (2 * a + 1))
            (absent_first (withdrawn s l) (2 * b) (2 * a + 1) (gone b e.1))))
        | inr m ↦ rw m.0 (
            let qa = stays a n.1 in
            let qb = stays b m.1 in
            ap (λ t. one_if (t && stands_before (withdrawn s l) (2 * b) (2 * a + 1))) (stands_filter p l (2 * a) (2 * b + 1) qa.0 qb.1)
            ∙ ap (λ t. one_if (stands_before l (2 * a) (2 * b + 1) && t)) (stands_filter p l (2 * b) (2 * a + 1) qb.0 qa.1))
      ])
    ]

three_conds : (c : Bool) (x y z : ℕ) → cond c 0 (x + y + z) ≡ cond c 0 x + cond c 0 y + cond c 0 z
three_conds true x y z = refl
three_conds false x y z = refl

pub core_left : (ls : Lists) (counts counts' : List (List ℕ)) (s : ℕ) → IsCore ls counts
    → ((a b : ℕ) → count_of counts' a b ≡ cond (eqb a s || eqb b s) 0 (count_of counts a b)) → IsCore (left s ls) counts'
core_left ls counts counts' s k rec =
    let p : ℕ → Bool = λ n. not (n / 2 == s) in
    let mem : (axis : Axis) (n : ℕ) → has n (on axis (left s ls)) ≡ (has n (on axis ls) && p n) = λ axis n. ap (has n) (on_left s ls axis)
    ∙ has_filter p n (on axis ls) in
    let halves : (t : ℕ) → p (2 * t) ≡ p (2 * t + 1) = λ t. let q : 2 * t / 2 ≡ (2 * t + 1) / 2 = omega arith in ap (λ n. not (n == s)) q in
    record {
      whole = record {
        distinct = λ axis. subst IsDistinct (sym (on_left s ls axis)) (distinct_filter p (on axis ls) (k.whole.distinct axis));
        small = λ axis n i. k.whole.small axis n ((and_parts (has n (on axis ls)) (p n) (sym (mem axis n) ∙ i)).0);
        same = λ axis other n. mem axis n ∙ ap (λ b. b && p n) (k.whole.same axis other n) ∙ sym (mem other n);
        paired = λ axis t. mem axis (2 * t) ∙ ap (λ b. b && p (2 * t)) (k.whole.paired axis t) ∙ ap (λ b. has (2 * t + 1) (on axis ls) && b) (halves t)
            ∙ sym (mem axis (2 * t + 1));
        ordered = λ axis t i.
            let q = and_parts (has (2 * t) (on axis ls)) (p (2 * t)) (sym (mem axis (2 * t)) ∙ i) in
            ap (λ l. stands_before l (2 * t) (2 * t + 1)) (on_left s ls axis) ∙ stands_filter p (on axis ls) (2 * t) (2 * t + 1) q.1 (sym (halves t) ∙ q.1)
            ∙ k.whole.ordered axis t q.0;
      };
      counted = λ a b lt. rec a b ∙ ap (cond (eqb a s || eqb b s) 0) (k.counted a b lt)
          ∙ three_conds (eqb a s || eqb b s) (one_if (overlap_in ls.x a b)) (one_if (overlap_in ls.y a b)) (one_if (overlap_in ls.z a b))
          ∙ sym (ap (λ v. v + one_if (overlap_in (left s ls).y a b) + one_if (overlap_in (left s ls).z a b)) (overlap_quitted s ls.x a b)
          ∙ ap (λ v. cond (eqb a s || eqb b s) 0 (one_if (overlap_in ls.x a b)) + v + one_if (overlap_in (left s ls).z a b)) (overlap_quitted s ls.y a b)
          ∙ ap (λ v. cond (eqb a s || eqb b s) 0 (one_if (overlap_in ls.x a b)) + cond (eqb a s || eqb b s) 0 (one_if (overlap_in ls.y a b)) + v)
          (overlap_quitted s ls.z a b));
    }
