-- The pairs that an index lists are those of the bodies that touch, by the law of which pairs `near` has.
use Rattle.std.proofs.Common.{◌≡◌, ◌<◌, true, List, [], ◌++◌, Option, Some, None, nat_lt, refl, sym, ap, ap₂, ◌∙◌, subst, arith}
use Rattle.std.specs.List.{Contains}
use Rattle.std.specs.Ordering.{nat_cmp}
use Rattle.std.specs.FinMap.{FinMap, get}
use Rattle.std.proofs.lemmas.Bool.{and_from, and_parts}
use Rattle.std.proofs.lemmas.Bool.Decides.{nat_tests}
use Rattle.std.proofs.lemmas.Cmp.{and_equiv, nat_eq_equiv, on_equiv}
use Rattle.std.proofs.lemmas.Map.Views.{Contains-from_any, list_any-from_Contains}
use Rattle.fixed_box.specs.Bounds.{Bounds}
use Rattle.broad_index.specs.declared.pair.Pair.{Pair}
use Rattle.broad_index.specs.Members.{both_meet, has_pair, is_near, same_pair}
use Rattle.broad_index.specs.Near.{near}
use Rattle.engine_tick.specs.Touching.{AreTouching, DoTouch}

-- a pair is in a list, said by a test and by its place
had : (pairs : List Pair) (p : Pair) → Contains pairs p → has_pair pairs p ≡ true
had pairs p c = list_any-from_Contains (and_equiv (on_equiv (λ q. q.a) nat_eq_equiv) (on_equiv (λ q. q.b) nat_eq_equiv)) p pairs c

contained : ((p q : Pair) → same_pair p q ≡ true → p ≡ q) → (pairs : List Pair) (p : Pair) → has_pair pairs p ≡ true → Contains pairs p
contained same pairs p h = Contains-from_any same p pairs h

-- both bodies are there, and their boxes meet
both_there : (bodies : FinMap nat_cmp Bounds) (p : Pair) → p.a < p.b → (a b : Option Bounds) → get bodies p.a ≡ a → get bodies p.b ≡ b
    → both_meet a b ≡ true → DoTouch bodies p
both_there bodies p lt None b ea eb met = cc
both_there bodies p lt (Some a) None ea eb met = cc
both_there bodies p lt (Some a) (Some b) ea eb met = record { first = a; second = b; order = lt; has_first = ea; has_second = eb; met = met }

touching : (bodies : FinMap nat_cmp Bounds) (p : Pair) → is_near bodies p ≡ true → DoTouch bodies p
touching bodies p h =
    let parts = and_parts (nat_lt p.a p.b) (both_meet (get bodies p.a) (get bodies p.b)) h in
    let lt : p.a < p.b = (let first = parts.0 in grind (arith, nat_tests)) in
    both_there bodies p lt (get bodies p.a) (get bodies p.b) refl refl parts.1

touched : (bodies : FinMap nat_cmp Bounds) (p : Pair) → DoTouch bodies p → is_near bodies p ≡ true
touched bodies p t =
    let lt : nat_lt p.a p.b ≡ true = (let order = t.order in grind (arith, nat_tests)) in
    and_from (nat_lt p.a p.b) (both_meet (get bodies p.a) (get bodies p.b)) lt (ap₂ both_meet t.has_first t.has_second ∙ t.met)

-- as an index appends them to an empty list
pub listed_touch : ((p q : Pair) → same_pair p q ≡ true → p ≡ q)
    → ((bodies : FinMap nat_cmp Bounds) (p : Pair) → has_pair (near bodies) p ≡ is_near bodies p)
    → (old new : FinMap nat_cmp Bounds) (before listed : List Pair) → before ≡ [] → new ≡ old → listed ≡ before ++ near old
    → AreTouching new listed
listed_touch one law old new before listed none same is =
    subst (AreTouching new) (sym (is ∙ ap (λ b. b ++ near old) none ∙ ap near (sym same))) (record {
      none_missed = λ p t. contained one (near new) p (law new p ∙ touched new p t);
      no_other = λ p c. touching new p (sym (law new p) ∙ had (near new) p c);
    })
