-- Two columns stay those of intervals under each edit of both.
use Rattle.std.proofs.Common.{◌≡◌, ℕ, suc, ◌-◌, ◌<◌, ℤ, pos, List, [], ◌∷◌, ◌++◌, length, take, drop, set, get_or, insert, remove, swap_remove}
use Rattle.std.proofs.Common.{SFits, w32, subst, ap, sym, arith}
use Rattle.std.proofs.Common.{length-append, length-take, length-drop, length-set}
use Rattle.std.specs.Simd.Lanes.{Each1}
use Rattle.std.proofs.lemmas.Simd.{length-zip2, Each1-from_get_or}
use Rattle.std.proofs.lemmas.List.Elements.{All-append, All-cons, All-drop, All-push, All-set, All-take, All-get_or}
use Rattle.lane_boxes.specs.declared.span.Span.{Span}
use Rattle.lane_boxes.specs.Spans.{Spans, spans_of, IsSpan, AreSpans}
use Rattle.lane_boxes.proofs.Beside.{beside_append, beside_at, beside_insert, beside_remove, beside_set, beside_swap_remove}

abbrev pub span : ℤ → ℤ → Span
span lo hi = record { lo = lo; hi = hi }

pub spans_long : (los his : List ℤ) → AreSpans los his → length (spans_of los his) ≡ length los
spans_long los his a = length-zip2 span los his (sym a.same)

pub spans_at : (los his : List ℤ) (at : ℕ) (lo hi : ℤ) → AreSpans los his → get_or (spans_of los his) at (span lo hi) ≡ span (get_or los at lo)
    (get_or his at hi)
spans_at los his at lo hi a = beside_at span los his at lo hi (sym a.same)

pub is_span : (los his : List ℤ) (at : ℕ) (lo hi : ℤ) → at < length los → AreSpans los his → IsSpan (span (get_or los at lo) (get_or his at hi))
is_span los his at lo hi l a = subst IsSpan (spans_at los his at lo hi a) (a.each at (span lo hi) (omega (arith, spans_long los his a)))

pub lows_fit : (los his : List ℤ) → AreSpans los his → Each1 (SFits w32) los
lows_fit los his a = Each1-from_get_or (SFits w32) los (pos 0) (λ at l. (is_span los his at (pos 0) (pos 0) l a).lo)

pub highs_fit : (los his : List ℤ) → AreSpans los his → Each1 (SFits w32) his
highs_fit los his a = Each1-from_get_or (SFits w32) his (pos 0) (λ at l. (is_span los his at (pos 0) (pos 0) (omega (arith, a.same)) a).hi)

pub are_pushed : (los his : List ℤ) (lo hi : ℤ) → AreSpans los his → IsSpan (span lo hi) → AreSpans (los ++ lo ∷ []) (his ++ hi ∷ [])
are_pushed los his lo hi a s = record {
  same = omega (arith, length-append los (lo ∷ []), length-append his (hi ∷ []), a.same);
  each = rw (beside_append span los (lo ∷ []) his (hi ∷ []) (sym a.same)) (All-push IsSpan (spans_of los his) (span lo hi) a.each s);
}

pub are_set : (los his : List ℤ) (at : ℕ) (lo hi : ℤ) → AreSpans los his → IsSpan (span lo hi) → AreSpans (set los at lo) (set his at hi)
are_set los his at lo hi a s = record {
  same = omega (arith, length-set los at lo, length-set his at hi, a.same);
  each = rw (beside_set span los his at lo hi) (All-set IsSpan (spans_of los his) at (span lo hi) s a.each);
}

pub are_inserted : (los his : List ℤ) (at : ℕ) (lo hi : ℤ) → AreSpans los his → IsSpan (span lo hi) → AreSpans (insert los at lo) (insert his at hi)
are_inserted los his at lo hi a s = record {
  same =
      omega (
        arith,
        length-append (take at los) (lo ∷ drop at los),
        length-append (take at his) (hi ∷ drop at his),
        length-take at los,
        length-take at his,
        length-drop at los,
        length-drop at his,
        a.same,
      );
  each =
      rw (beside_insert span los his at lo hi (sym a.same))
      (All-append IsSpan (take at (spans_of los his)) (span lo hi ∷ drop at (spans_of los his)) (All-take IsSpan at (spans_of los his) a.each)
      (All-cons IsSpan (span lo hi) (drop at (spans_of los his)) s (All-drop IsSpan at (spans_of los his) a.each)));
}

pub are_removed : (los his : List ℤ) (at : ℕ) → AreSpans los his → AreSpans (remove los at) (remove his at)
are_removed los his at a = record {
  same =
      omega (
        arith,
        length-append (take at los) (drop (suc at) los),
        length-append (take at his) (drop (suc at) his),
        length-take at los,
        length-take at
            his,
        length-drop (suc at) los,
        length-drop (suc at) his,
        a.same,
      );
  each =
      rw (beside_remove span los his at (sym a.same))
      (All-append IsSpan (take at (spans_of los his)) (drop (suc at) (spans_of los his)) (All-take IsSpan at (spans_of los his) a.each)
      (All-drop IsSpan (suc at) (spans_of los his) a.each));
}

pub are_swapped : (los his : List ℤ) (at : ℕ) (lo hi : ℤ) → at < length los → AreSpans los his → AreSpans (swap_remove los at lo) (swap_remove his at hi)
are_swapped los his at lo hi l a =
    let ss = spans_of los his in
    let n = length ss - 1 in
    let long = spans_long los his a in
    record {
      same = omega (
        arith,
        length-take (length los - 1) (set los at (get_or los (length los - 1) lo)),
        length-take (length his - 1)
            (set his at (get_or his (length his - 1) hi)),
        length-set los at (get_or los (length los - 1) lo),
        length-set his at
            (get_or his (length his - 1) hi),
        a.same,
      );
      each =
          rw (beside_swap_remove span los his at lo hi (sym a.same))
          (All-take IsSpan n (set ss at (get_or ss n (span lo hi)))
          (All-set IsSpan ss at (get_or ss n (span lo hi)) (All-get_or IsSpan ss n (span lo hi) (omega (arith, long)) a.each) a.each));
    }

-- each column has a number of each interval
pub record Ends (los his : List ℤ) (spans : List Span) : Type 0 where
  pub lo : length los ≡ length spans
  pub hi : length his ≡ length spans

pub ends_long : (los his : List ℤ) (spare : ℕ) (s : Spans) → AreSpans los his → ◌≡◌ {A = Spans} (record { spans = spans_of los his; spare = spare }) s →
    Ends los his s.spans
ends_long los his spare s a e =
    let long = spans_long los his a in
    let seen = ap (λ (s : Spans). length s.spans) e in
    record { lo = omega (arith, long, seen); hi = omega (arith, long, seen, a.same) }
