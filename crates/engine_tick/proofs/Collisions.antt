-- Of the pairs that touch, those whose kinds let them collide are the pairs of bodies that collide.
use Rattle.std.proofs.Common.{◌≡◌, ◌+◌, ◌<◌, Bool, true, cond, List, ◌∷◌, take, drop, length, refl, sym, ap, ◌∙◌, subst, arith}
use Rattle.std.specs.List.{Contains, filter}
use Rattle.std.specs.Ordering.{nat_cmp}
use Rattle.std.specs.FinMap.{FinMap}
use Rattle.std.proofs.lemmas.List.{drop_more, take-append-drop}
use Rattle.std.proofs.lemmas.List.Elements.{All-contains, All-contains_itself, All-filter, Contains-append_right, filter-append, filter_passes}
use Rattle.fixed_box.specs.Bounds.{Bounds}
use Rattle.slot_lists.specs.RisingLaws.{filtered_rise}
use Rattle.broad_index.specs.declared.pair.Pair.{Pair}
use Rattle.broad_index.specs.Near.{precedes, rises}
use Rattle.engine_tick.specs.declared.kind.Kind.{Kind}
use Rattle.engine_tick.specs.Colliding.{is_let, AreColliding}
use Rattle.engine_tick.specs.Touching.{AreTouching}

-- what passes the test stays among what passes it
passed : (test : Pair → Bool) (pairs : List Pair) (p : Pair) → Contains pairs p → test p ≡ true → Contains (filter test pairs) p
passed test pairs p c h =
    let k = c.0 in
    let first : 0 < length (p ∷ filter test (drop (k + 1) pairs)) = omega arith in
    let here : Contains (filter test (drop k pairs)) p =
    subst (λ ps. Contains (filter test ps) p) (sym (drop_more pairs k p c.1 ∙ ap (λ q. q ∷ drop (k + 1) pairs) c.2))
    (subst (λ t. Contains (cond t (p ∷ filter test (drop (k + 1) pairs)) (filter test (drop (k + 1) pairs))) p) (sym h) (0, first, refl))
    in
    subst (λ ps. Contains ps p) (sym (filter-append test (take k pairs) (drop k pairs)) ∙ ap (filter test) (take-append-drop k pairs))
    (Contains-append_right (filter test (take k pairs)) (filter test (drop k pairs)) p here)

-- a list that is what passes the test of the pairs that touch
pub let_collide : (bodies : FinMap nat_cmp Bounds) (kinds : List Kind) (touching now : List Pair) → AreTouching bodies touching → rises touching ≡ true
    → now ≡ filter (is_let kinds) touching → AreColliding bodies kinds now
let_collide bodies kinds touching now touch up is = subst (AreColliding bodies kinds) (sym is) (record {
  none_missed = λ p both. passed (is_let kinds) touching p (touch.none_missed p both.touch) both.let_them;
  no_other =
      λ p c. record {
        touch = touch.no_other p (All-contains (Contains touching) (filter (is_let kinds) touching) p
            (All-filter (is_let kinds) (Contains touching) touching (All-contains_itself touching)) c);
        let_them = All-contains (λ q. is_let kinds q ≡ true) (filter (is_let kinds) touching) p (filter_passes (is_let kinds) touching) c;
      };
  in_order = filtered_rise precedes (is_let kinds) touching up;
})
