-- Serves proofs alone: slots behind what was in a list, as one search after the other appends them.
use Rattle.std.proofs.Common.{◌≡◌, ◌⊎◌, inl, inr, ℕ, ◌≤◌, true, List, [], ◌++◌, length, take, drop, map, Some}
use Rattle.std.proofs.Common.{subst, sym, ap, ◌∙◌, arith, Result, Ok, Err, OnErr}
use Rattle.std.proofs.Math.Seq.{take-append_seam, drop-append_seam}
use Rattle.std.proofs.lemmas.List.{append_assoc, append-nil, length-append, length-take-le, take-append-drop}
use Rattle.std.specs.Ordering.{nat_cmp}
use Rattle.std.specs.FinMap.{FinMap, get}
use Rattle.broad_index.specs.Members.{has_slot}
use Rattle.grid_cells.specs.Appended.{Appends, HasWhere, Stays}
use Rattle.grid_cells.specs.SlotLaws.{more_left, more_right}

-- what was in a list begins it where slots were appended
begun : (old new slots : List ℕ) → new ≡ old ++ slots → Stays old new
begun old new slots is = ap (take (length old)) is ∙ take-append_seam old slots

split : (old new : List ℕ) → Stays old new → new ≡ old ++ drop (length old) new
split old new s = sym (take-append-drop (length old) new) ∙ ap (λ l. l ++ drop (length old) new) s

joined : (old now new xs ys : List ℕ) → now ≡ old ++ xs → new ≡ now ++ ys → new ≡ old ++ (xs ++ ys)
joined old now new xs ys first second = second ∙ ap (λ l. l ++ ys) first ∙ append_assoc old xs ys

pub begins : (Has : List ℕ → Type 0) (old new : List ℕ) → Appends Has old new → Stays old new
begins Has old new a = begun old new a.slots a.appended

pub stays_on : (old now new : List ℕ) → Stays old now → Stays now new → Stays old new
stays_on old now new first second =
    begun old new (drop (length old) now ++ drop (length now) new)
    (joined old now new (drop (length old) now) (drop (length now) new) (split old now first) (split now new second))

-- what holds anyway holds where memory ran out
pub anyway : {T E P : Type 0} (r : Result T E) → P → OnErr r P
anyway (Ok t) p = tt
anyway (Err e) p = p

-- what was sought is more than what is
pub among : (More Has : List ℕ → Type 0) (old new : List ℕ) → ((xs : List ℕ) → More xs → Has xs) → Appends More old new → Appends Has old new
among More Has old new t a = record { slots = a.slots; appended = a.appended; has = t a.slots a.has }

-- what two searches append
pub both : (First Second Has : List ℕ → Type 0) (old now new : List ℕ) → ((xs ys : List ℕ) → First xs → Second ys → Has (xs ++ ys))
    → Appends First old now → Appends Second now new → Appends Has old new
both First Second Has old now new t a b = record {
  slots = a.slots ++ b.slots;
  appended = joined old now new a.slots b.slots a.appended b.appended;
  has = t a.slots b.slots a.has b.has;
}

-- the slots whose values meet a condition
module _ {X : Type 0} (table : FinMap nat_cmp X) where
  -- no value meets it
  pub none_where : (Meets : X → Type 0) (old : List ℕ) → ((q : ℕ) (x : X) → get table q ≡ Some x → Meets x → ⊥) → Appends (HasWhere table Meets) old old
  none_where Meets old nowhere = record { slots = []; appended = sym (append-nil old); has = λ q x e m. absurd (nowhere q x e m) }

  -- fewer values meet a stronger one
  pub fewer_where : (Wider Meets : X → Type 0) (old new : List ℕ) → ((q : ℕ) (x : X) → get table q ≡ Some x → Meets x → Wider x)
      → Appends (HasWhere table Wider) old new → Appends (HasWhere table Meets) old new
  fewer_where Wider Meets old new t = among (HasWhere table Wider) (HasWhere table Meets) old new (λ xs has q x e m. has q x e (t q x e m))

  -- what meets it meets that of one search or that of another
  pub either_where : (First Second Meets : X → Type 0) (old now new : List ℕ) → ((q : ℕ) (x : X) → get table q ≡ Some x → Meets x → First x ⊎ Second x)
      → Appends (HasWhere table First) old now → Appends (HasWhere table Second) now new → Appends (HasWhere table Meets) old new
  either_where First Second Meets old now new t = both (HasWhere table First) (HasWhere table Second) (HasWhere table Meets) old now new
      (λ xs ys first second q x e m. elim (t q x e m) as (λ _. has_slot (xs ++ ys) q ≡ true) [
        | inl f ↦ more_left xs ys q (first q x e f)
        | inr s ↦ more_right xs ys q (second q x e s)
      ])

-- the list was empty
pub from_none : (Has : List ℕ → Type 0) (old new : List ℕ) → old ≡ [] → Appends Has old new → Has new
from_none Has old new bare a = subst Has (sym (a.appended ∙ ap (λ l. l ++ a.slots) bare)) a.has

-- what stands behind has all that is sought
pub behind : (Has : List ℕ → Type 0) (old new : List ℕ) → Appends Has old new → Has (drop (length old) new)
behind Has old new a = subst Has (sym (ap (drop (length old)) a.appended ∙ drop-append_seam old a.slots)) a.has

-- ---- items that are replaced behind what was there
pub put_behind : (f : ℕ → ℕ) (old now xs : List ℕ) (n : ℕ) → n ≡ length old → now ≡ old ++ xs → take n now ++ map f (drop n now) ≡ old ++ map f xs
put_behind f old now xs n len is =
    ap (λ k. take k now ++ map f (drop k now)) len ∙ ap (λ l. take (length old) l ++ map f (drop (length old) l)) is
    ∙ ap (λ l. l ++ map f (drop (length old) (old ++ xs))) (take-append_seam old xs) ∙ ap (λ l. old ++ map f l) (drop-append_seam old xs)

-- ---- items of a list that are kept from one on
module _ {X : Type 0} where
  pub take_kept : (n : ℕ) (old new xs : List X) → n ≤ length old → new ≡ take n old ++ xs → take n new ≡ take n old
  take_kept n old new xs within is =
      let len = length-take-le n old within in
      ap (take n) is ∙ ap (λ k. take k (take n old ++ xs)) (sym len) ∙ take-append_seam (take n old) xs

  pub drop_kept : (n : ℕ) (old new xs : List X) → n ≤ length old → new ≡ take n old ++ xs → drop n new ≡ xs
  drop_kept n old new xs within is =
      let len = length-take-le n old within in
      ap (drop n) is ∙ ap (λ k. drop k (take n old ++ xs)) (sym len) ∙ drop-append_seam (take n old) xs

  pub still_within : (n : ℕ) (old new xs : List X) → n ≤ length old → new ≡ take n old ++ xs → n ≤ length new
  still_within n old new xs within is =
      let len = length-take-le n old within in
      let all = ap length is in
      let sum = length-append (take n old) xs in
      omega (arith, len, all, sum)
