-- Many questions are answered one after another, and end.
use Rattle.std.proofs.Common.{◌≡◌, ◌≢◌, inl, inr, ℕ, ◌+◌, ◌<◌, ◌≤◌, Bool, true, false, List, [], ◌∷◌, ◌++◌, length, take, drop, get_or, set}
use Rattle.std.proofs.Common.{is_some, refl, sym, ap, ◌∙◌, arith, subst}
use Rattle.std.proofs.lemmas.List.{append-nil, append_assoc, drop-set-lt, drop-drop, get_or_default, get_or-set_same, get_or-set_other, take_more}
use Rattle.fixed_box.proofs.Numbers.{nat_next}
use Rattle.live_table.specs.declared.handle.Handle.{Handle}
use Rattle.live_table.specs.declared.live.Live.{Live}
use Rattle.held_world.specs.declared.TheConstants.{OK}
use Rattle.held_world.specs.declared.answers.Reply.{Reply}
use Rattle.held_world.specs.declared.plain.PwHandle.{PwHandle}
use Rattle.held_world.specs.declared.plain.PwHit.{PwHit}
use Rattle.held_world.specs.declared.plain.PwQuery.{PwQuery}
use Rattle.held_world.specs.Copies.{copied}
use Rattle.held_world.specs.Many.{AnswersAll, AnswersEach, IsAnswered, IsNoAnswer, hits_in, hits_in_all, no_hit}
use Rattle.held_world.specs.Plain.{handle_out, query_in}

-- what is left behind the next place is what was
left_behind : {X : Type 0} (out room : List X) (n : ℕ) (x : X) → drop n out ≡ drop n room → drop (n + 1) (set out n x) ≡ drop (n + 1) room
left_behind out room n x same =
    drop-set-lt (n + 1) out n x (omega arith) ∙ sym (drop-drop 1 n out) ∙ ap (drop 1) same ∙ drop-drop 1 n room

-- ---- first hits
-- The first `count` questions are answered.
pub record AreAnswered {A : Type 0} (Says : A → Reply → PwHit → PwHit → Type 0) (asked : List A) (count : ℕ) (room out : List PwHit) : Type 0 where
  pub most : count ≤ length asked
  pub each : (k : ℕ) (d : A) → k < count → IsAnswered (Says (get_or asked k d)) (get_or out k no_hit)
  pub rest : drop count out ≡ drop count room

pub none_answered : {A : Type 0} (Says : A → Reply → PwHit → PwHit → Type 0) (asked : List A) (room : List PwHit) → AreAnswered Says asked 0 room room
none_answered Says asked room = record { most = omega arith; each = λ k d lt. absurd (omega arith); rest = refl }

pub one_answered : {A : Type 0} (Says : A → Reply → PwHit → PwHit → Type 0) (asked : List A) (d : A) (count : ℕ) (reply : Reply) (room out : List PwHit)
    (hit : PwHit) → AreAnswered Says asked count room out → count < length asked → count < length out → reply.status ≡ OK
    → Says (get_or asked count d) reply no_hit hit → AreAnswered Says asked (count + 1) room (set out count hit)
one_answered {A} Says asked d count reply room out hit u some inside ok told = record {
  most = omega arith;
  each = λ k e lt. elim (nat_next k count lt) as (λ _. IsAnswered (Says (get_or asked k e)) (get_or (set out count hit) k no_hit)) [
    | inl below ↦ subst (IsAnswered (Says (get_or asked k e)))
        (sym (get_or-set_other out count k hit no_hit (λ i. absurd (omega arith)))) (u.each k e below)
    | inr at ↦ subst (λ n. IsAnswered (Says (get_or asked n e)) (get_or (set out count hit) n no_hit)) (sym at)
        (subst (IsAnswered (Says (get_or asked count e))) (sym (get_or-set_same out count hit no_hit inside)) (here e))
  ];
  rest = left_behind out room count hit u.rest;
}
  where
    here : (e : A) → IsAnswered (Says (get_or asked count e)) hit
    here e = record {
      met = reply.count;
      told = subst (λ a. Says a (record { status = OK; count = reply.count }) no_hit hit) (get_or_default asked count d e some)
          (subst (λ s. Says (get_or asked count d) (record { status = s; count = reply.count }) no_hit hit) ok told);
    }

pub all_answered : {A : Type 0} (Says : A → Reply → PwHit → PwHit → Type 0) (asked : List A) (count : ℕ) (room out : List PwHit)
    → AreAnswered Says asked count room out → length asked ≤ count → AnswersEach Says asked (record { status = OK; count = count }) room out
all_answered Says asked count room out u all =
    let most = u.most in
    record { most = most; each = u.each; rest = u.rest; ended = inl (refl, omega arith) }

pub one_refused : {A : Type 0} (Says : A → Reply → PwHit → PwHit → Type 0) (asked : List A) (d : A) (count : ℕ) (reply : Reply) (room out : List PwHit)
    (hit : PwHit) → AreAnswered Says asked count room out → count < length asked → reply.status ≢ OK → Says (get_or asked count d) reply no_hit hit
    → AnswersEach Says asked (record { status = reply.status; count = count }) room out
one_refused Says asked d count reply room out hit u some why told = record {
  most = u.most;
  each = u.each;
  rest = u.rest;
  ended = inr (
    some,
    λ e. record {
      met = reply.count;
      left = hit;
      why = why;
      told = subst (λ a. Says a reply no_hit hit) (get_or_default asked count d e some) told;
    },
  );
}

-- ---- all hits
-- What the first `count` questions found stands in a list, and where each answer ends in another.
pub record AreFound (entries : List Live) (spent : Bool) (queries : List PwQuery) (count : ℕ) (found : List Handle) (before ends : List ℕ) : Type 0 where
  pub most : count ≤ length queries
  pub asked : (k : ℕ) (d : PwQuery) → k < count → is_some (query_in (get_or queries k d)) ≡ true
  pub sound : 0 < count → spent ≡ false
  pub found_is : found ≡ hits_in_all entries (take count queries)
  pub ends_at : (k : ℕ) → k < count → get_or ends k 0 ≡ length (hits_in_all entries (take (k + 1) queries))
  pub rest : drop count ends ≡ drop count before

-- the answers of one question more
one_more_found : (entries : List Live) (queries : List PwQuery) (query : PwQuery)
    → hits_in_all entries (queries ++ query ∷ []) ≡ hits_in_all entries queries ++ hits_in entries query
unfolding hits_in_all
one_more_found entries [] query = append-nil (hits_in entries query)
one_more_found entries (q ∷ qs) query = ap (λ l. hits_in entries q ++ l) (one_more_found entries qs query)
    ∙ sym (append_assoc (hits_in entries q) (hits_in_all entries qs) (hits_in entries query))

pub none_found : (entries : List Live) (spent : Bool) (queries : List PwQuery) (found : List Handle) (before : List ℕ) → found ≡ []
    → AreFound entries spent queries 0 found before before
unfolding hits_in_all
none_found entries spent queries found before none = record {
  most = omega arith;
  asked = λ k d lt. absurd (omega arith);
  sound = λ lt. absurd (omega arith);
  found_is = none;
  ends_at = λ k lt. absurd (omega arith);
  rest = refl;
}

pub one_found : (entries : List Live) (spent : Bool) (queries : List PwQuery) (d : PwQuery) (count len : ℕ) (was found : List Handle) (before ends : List ℕ)
    → AreFound entries spent queries count was before ends → count < length queries → count < length ends → spent ≡ false
    → found ≡ was ++ hits_in entries (get_or queries count d) → is_some (query_in (get_or queries count d)) ≡ true → len ≡ length found
    → AreFound entries spent queries (count + 1) found before (set ends count len)
one_found entries spent queries d count len was found before ends u some inside sound more is_query is = record {
  most = omega arith;
  asked = λ k e lt. elim (nat_next k count lt) as (λ _. is_some (query_in (get_or queries k e)) ≡ true) [
    | inl below ↦ u.asked k e below
    | inr at ↦ ap (λ n. is_some (query_in (get_or queries n e))) at ∙ ap (λ q. is_some (query_in q)) (get_or_default queries count e d some) ∙ is_query
  ];
  sound = λ lt. sound;
  found_is = all;
  ends_at = λ k lt. elim (nat_next k count lt) as (λ _. get_or (set ends count len) k 0 ≡ length (hits_in_all entries (take (k + 1) queries))) [
    | inl below ↦ get_or-set_other ends count k len 0 (λ i. absurd (omega arith)) ∙ u.ends_at k below
    | inr at ↦ ap (λ n. get_or (set ends count len) n 0) at ∙ get_or-set_same ends count len 0 inside ∙ is ∙ ap length all
        ∙ ap (λ n. length (hits_in_all entries (take (n + 1) queries))) (sym at)
  ];
  rest = left_behind ends before count len u.rest;
}
  where
    all : found ≡ hits_in_all entries (take (count + 1) queries)
    all = more ∙ ap (λ l. l ++ hits_in entries (get_or queries count d)) u.found_is
        ∙ sym (ap (hits_in_all entries) (take_more queries count d some) ∙ one_more_found entries (take count queries) (get_or queries count d))

pub all_found : (entries : List Live) (spent : Bool) (queries : List PwQuery) (count : ℕ) (found : List Handle) (before ends : List ℕ)
    (room out : List PwHandle) → AreFound entries spent queries count found before ends → length queries ≤ count → out ≡ copied handle_out found room
    → AnswersAll entries spent queries (record { status = OK; count = count }) room out before ends
all_found entries spent queries count found before ends room out u all is =
    let most = u.most in
    record {
      most = most;
      asked = u.asked;
      sound = u.sound;
      copied = is ∙ ap (λ l. copied handle_out l room) u.found_is;
      ends_at = u.ends_at;
      rest = u.rest;
      ended = inl (refl, omega arith);
    }

pub one_unanswered : (entries : List Live) (spent : Bool) (queries : List PwQuery) (d : PwQuery) (count status : ℕ) (was found : List Handle)
    (before ends : List ℕ) (room out : List PwHandle) → AreFound entries spent queries count was before ends → count < length queries → found ≡ was
    → IsNoAnswer (get_or queries count d) status → out ≡ copied handle_out found room
    → AnswersAll entries spent queries (record { status = status; count = count }) room out before ends
one_unanswered entries spent queries d count status was found before ends room out u some same why is = record {
  most = u.most;
  asked = u.asked;
  sound = u.sound;
  copied = is ∙ ap (λ l. copied handle_out l room) (same ∙ u.found_is);
  ends_at = u.ends_at;
  rest = u.rest;
  ended = inr (some, λ e. subst (λ q. IsNoAnswer q status) (get_or_default queries count d e some) why);
}
