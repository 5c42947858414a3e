-- Serves proofs alone: what holds of distinct numbers, and of links after single writes.
use Rattle.std.proofs.Common.{◌≡◌, ◌≢◌, ℕ, ◌<◌, ◌≤◌, List, [], ◌∷◌, ◌++◌, length, get_or, set, eqb, sym, ◌∙◌, subst, arith, true, false, inl, inr}
use Rattle.std.proofs.lemmas.List.{get_or-set_same, get_or-set_other}
use Rattle.std.proofs.lemmas.Map.Steps.{length-le_from_distinct_below}
use Rattle.std.proofs.lemmas.Bool.Decides.{eqb_tells}
use Rattle.std.specs.List.{IsDistinct as AreDistinct, AllByRecursion, list_any}
use Rattle.slot_lists.specs.Links.{Fresh, Distinct, Below, Links}

pub Fresh-append : (k : ℕ) (xs ys : List ℕ) → Fresh k xs → Fresh k ys → Fresh k (xs ++ ys)
Fresh-append k [] ys h g = g
Fresh-append k (x ∷ xs) ys h g = (h.0, Fresh-append k xs ys h.1 g)

pub Fresh-left : (k : ℕ) (xs ys : List ℕ) → Fresh k (xs ++ ys) → Fresh k xs
Fresh-left k [] ys h = tt
Fresh-left k (x ∷ xs) ys h = (h.0, Fresh-left k xs ys h.1)

pub Fresh-right : (k : ℕ) (xs ys : List ℕ) → Fresh k (xs ++ ys) → Fresh k ys
Fresh-right k [] ys h = h
Fresh-right k (x ∷ xs) ys h = Fresh-right k xs ys h.1

pub Distinct-left : (xs ys : List ℕ) → Distinct (xs ++ ys) → Distinct xs
Distinct-left [] ys d = tt
Distinct-left (x ∷ xs) ys d = (Fresh-left x xs ys d.0, Distinct-left xs ys d.1)

pub Distinct-right : (xs ys : List ℕ) → Distinct (xs ++ ys) → Distinct ys
Distinct-right [] ys d = d
Distinct-right (x ∷ xs) ys d = Distinct-right xs ys d.1

pub Fresh-here : (k x : ℕ) (xs ys : List ℕ) → Fresh k (xs ++ x ∷ ys) → k ≢ x
Fresh-here k x [] ys f = f.0
Fresh-here k x (y ∷ xs) ys f = Fresh-here k x xs ys f.1

pub Distinct-apart : (xs : List ℕ) (k : ℕ) (ys : List ℕ) → Distinct (xs ++ k ∷ ys) → Fresh k xs
Distinct-apart [] k ys d = tt
Distinct-apart (x ∷ xs) k ys d = ((λ e. Fresh-here x k xs ys d.0 (sym e)), Distinct-apart xs k ys d.1)

-- without the one in the middle
pub Fresh-without : (k x : ℕ) (xs ys : List ℕ) → Fresh k (xs ++ x ∷ ys) → Fresh k (xs ++ ys)
Fresh-without k x xs ys f = Fresh-append k xs ys (Fresh-left k xs (x ∷ ys) f) (Fresh-right k xs (x ∷ ys) f).1

pub Distinct-without : (xs : List ℕ) (k : ℕ) (ys : List ℕ) → Distinct (xs ++ k ∷ ys) → Distinct (xs ++ ys)
Distinct-without [] k ys d = d.1
Distinct-without (x ∷ xs) k ys d = (Fresh-without x k xs ys d.0, Distinct-without xs k ys d.1)

pub Below-left : (n : ℕ) (xs ys : List ℕ) → Below n (xs ++ ys) → Below n xs
Below-left n [] ys b = tt
Below-left n (x ∷ xs) ys b = (b.0, Below-left n xs ys b.1)

pub Below-right : (n : ℕ) (xs ys : List ℕ) → Below n (xs ++ ys) → Below n ys
Below-right n [] ys b = b
Below-right n (x ∷ xs) ys b = Below-right n xs ys b.1

pub Below-weaker : (m n : ℕ) (xs : List ℕ) → m ≤ n → Below m xs → Below n xs
Below-weaker m n [] l b = tt
Below-weaker m n (x ∷ xs) l b = (omega arith, Below-weaker m n xs l b.1)

not_in : (x : ℕ) (xs : List ℕ) → Fresh x xs → AllByRecursion (λ y. eqb x y ≡ false) xs
not_in x [] f = tt
not_in x (y ∷ ys) f = (elim (eqb_tells x y) as (λ _. eqb x y ≡ false) [ inl h ↦ absurd (f.0 h.1) | inr h ↦ h.0 ], not_in x ys f.1)

pub distinct_is : (xs : List ℕ) → Distinct xs → AreDistinct eqb xs
unfolding AreDistinct
distinct_is [] d = tt
distinct_is (x ∷ xs) d = (not_in x xs d.0, distinct_is xs d.1)

below_any : (n q : ℕ) (xs : List ℕ) → Below n xs → list_any (eqb q) xs ≡ true → q < n
below_any n q [] b h = cc
below_any n q (x ∷ xs) b h = elim (eqb_tells q x) as (λ _. q < n) [
  | inl t ↦ omega arith
  | inr t ↦ below_any n q xs b.1 (rw t.0 at h)
]

pub length-le : (n : ℕ) (xs : List ℕ) → Distinct xs → Below n xs → length xs ≤ n
length-le n xs d b = length-le_from_distinct_below xs n (distinct_is xs d) (λ q h. below_any n q xs b h)

pub frame_next : (N P : List ℕ) (u : ℕ) (xs : List ℕ) (e k v : ℕ) → k ≢ u → Fresh k xs → Links N P u xs e → Links (set N k v) P u xs e
frame_next N P u [] e k v ku f l = (get_or-set_other N k u v 0 (λ q. ku (sym q)) ∙ l.0, l.1)
frame_next N P u (x ∷ xs) e k v ku f l = (get_or-set_other N k u v 0 (λ q. ku (sym q)) ∙ l.0, l.1, frame_next N P x xs e k v f.0 f.1 l.2)

pub frame_prev : (N P : List ℕ) (u : ℕ) (xs : List ℕ) (e k v : ℕ) → k ≢ e → Fresh k xs → Links N P u xs e → Links N (set P k v) u xs e
frame_prev N P u [] e k v ke f l = (l.0, get_or-set_other P k e v 0 (λ q. ke (sym q)) ∙ l.1)
frame_prev N P u (x ∷ xs) e k v ke f l = (l.0, get_or-set_other P k x v 0 (λ q. f.0 (sym q)) ∙ l.1, frame_prev N P x xs e k v ke f.1 l.2)

-- it is u or one of xs, so what is none of these is another
pub before_end : (N P : List ℕ) (u : ℕ) (xs : List ℕ) (e k : ℕ) → Links N P u xs e → k ≢ u → Fresh k xs → get_or P e 0 ≢ k
before_end N P u [] e k l ku f q = ku (sym (sym l.1 ∙ q))
before_end N P u (x ∷ xs) e k l ku f q = before_end N P x xs e k l.2 f.0 f.1 q

-- the chain from u through xs ends at v in place of e
pub retarget_last : (N P : List ℕ) (u : ℕ) (xs : List ℕ) (e v : ℕ) → Links N P u xs e → Fresh u xs → Distinct xs → Fresh v xs
    → u < length N → Below (length N) xs → v < length P
    → Links (set N (get_or P e 0) v) (set P v (get_or P e 0)) u xs v
retarget_last N P u [] e v l fu d fv un b vp =
    rw l.1 (get_or-set_same N u v 0 un, get_or-set_same P v u 0 vp)
retarget_last N P u (x ∷ xs) e v l fu d fv un b vp =
    let apart : get_or P e 0 ≢ u = before_end N P x xs e u l.2 fu.0 fu.1 in (
      get_or-set_other N (get_or P e 0) u v 0 (λ q. apart (sym q)) ∙ l.0,
      get_or-set_other P v x (get_or P e 0) 0 (λ q. fv.0 (sym q)) ∙ l.1,
      retarget_last N P x xs e v l.2 d.0 d.1 fv.1 b.0 b.1 vp,
    )

-- the chain to e begins at v in place of u
pub retarget_first : (N P : List ℕ) (u : ℕ) (xs : List ℕ) (e v m : ℕ) → get_or N u 0 ≡ m → Links N P u xs e → Fresh v xs → Distinct xs → Fresh e xs
    → v < length N → e < length P → Below (length P) xs
    → Links (set N v m) (set P m v) v xs e
retarget_first N P u [] e v m q l fv d fe vn ep b =
    let same : m ≡ e = sym q ∙ l.0 in
    rw same (get_or-set_same N v e 0 vn, get_or-set_same P e v 0 ep)
retarget_first N P u (x ∷ xs) e v m q l fv d fe vn ep b =
    let same : m ≡ x = sym q ∙ l.0 in
    let F : ℕ → Type 0 = λ w. Links (set N v w) (set P w v) v (x ∷ xs) e in
    subst F (sym same) (
      get_or-set_same N v x 0 vn,
      get_or-set_same P x v 0 b.0,
      frame_next N (set P x v) x xs e v x fv.0 fv.1 (frame_prev N P x xs e x v (λ r. fe.0 (sym r)) d.0 l.2),
    )

pub Links-append : (N P : List ℕ) (u : ℕ) (xs : List ℕ) (y : ℕ) (ys : List ℕ) (e : ℕ) → Links N P u xs y → Links N P y ys e → Links N P u (xs ++ y ∷ ys) e
Links-append N P u [] y ys e l m = (l.0, l.1, m)
Links-append N P u (x ∷ xs) y ys e l m = (l.0, l.1, Links-append N P x xs y ys e l.2 m)

pub Links-left : (N P : List ℕ) (u : ℕ) (xs : List ℕ) (y : ℕ) (ys : List ℕ) (e : ℕ) → Links N P u (xs ++ y ∷ ys) e → Links N P u xs y
Links-left N P u [] y ys e l = (l.0, l.1)
Links-left N P u (x ∷ xs) y ys e l = (l.0, l.1, Links-left N P x xs y ys e l.2)

pub Links-right : (N P : List ℕ) (u : ℕ) (xs : List ℕ) (y : ℕ) (ys : List ℕ) (e : ℕ) → Links N P u (xs ++ y ∷ ys) e → Links N P y ys e
Links-right N P u [] y ys e l = l.2
Links-right N P u (x ∷ xs) y ys e l = Links-right N P x xs y ys e l.2

pub after_start : (N P : List ℕ) (u : ℕ) (xs : List ℕ) (e k : ℕ) → Links N P u xs e → k ≢ e → Fresh k xs → get_or N u 0 ≢ k
after_start N P u [] e k l ke f q = ke (sym q ∙ l.0)
after_start N P u (x ∷ xs) e k l ke f q = f.0 (sym q ∙ l.0)
