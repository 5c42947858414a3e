-- Serves proofs alone: boxes in skins, and what is found by the skins.
use Rattle.std.proofs.Common.{◌≡◌, ℕ, Bool, true, false, cond, ◌&&◌, ◌||◌, ◌==◌, nat_lt, List, [], ◌∷◌, Option, Some, None, is_some}
use Rattle.std.proofs.Common.{refl, sym, ap, ◌∙◌, inl, inr, arith, ◌++◌, length, take, drop}
use Rattle.std.proofs.lemmas.Grind.{common_steps}
use Rattle.std.specs.List.{list_any, filter}
use Rattle.std.specs.Ordering.{nat_cmp}
use Rattle.std.specs.FinMap.{FinMap, get, contains_key, empty, insert, remove, get-empty, get-insert, get-remove}
use Rattle.std.proofs.lemmas.Bool.{eqb-true, cases_Bool, and_parts, false≢true}
use Rattle.std.proofs.lemmas.Cmp.{nat_cmp_total}
use Rattle.fixed_box.specs.Bounds.{Bounds, encloses, meets}
use Rattle.fixed_box.proofs.Bools.{and_false}
use Rattle.fixed_box.proofs.Numbers.{eq_cmp}
use Rattle.broad_index.specs.declared.pair.Pair.{Pair}
use Rattle.broad_index.specs.declared.query.Query.{Query}
use Rattle.broad_index.specs.Found.{query_meets}
use Rattle.broad_index.specs.Members.{same_pair, has_pair, has_slot, both_meet, is_near, meets_query, is_found}
use Rattle.skin_index.specs.Skins.{is_inside, boxes_meet, AreSkins}

-- ---- the members of a filtered list
absorb : (any px : Bool) → ((px && true) || (any && px)) ≡ px
absorb any true = refl
absorb true false = refl
absorb false false = refl

spread : (py s any px : Bool) → (s ≡ true → py ≡ px) → ((py && s) || (any && px)) ≡ ((s || any) && px)
spread py true any px h = ap (λ b. (b && true) || (any && px)) (h refl) ∙ absorb any px
spread py false any px h = ap (λ b. b || (any && px)) (and_false py)

module _ {X : Type 0} (same : X → X → Bool) (means : (x y : X) → same x y ≡ true → x ≡ y) (p : X → Bool) where
  any_head : (x y : X) (zs : List X) (b : Bool) → list_any (same x) (cond b (y ∷ zs) zs) ≡ ((b && same x y) || list_any (same x) zs)
  any_head x y zs true = refl
  any_head x y zs false = refl

  pub any_filter : (x : X) (ys : List X) → list_any (same x) (filter p ys) ≡ (list_any (same x) ys && p x)
  any_filter x [] = refl
  any_filter x (y ∷ ys) =
      any_head x y (filter p ys) (p y) ∙ ap (λ b. (p y && same x y) || b) (any_filter x ys)
      ∙ spread (p y) (same x y) (list_any (same x) ys) (p x) (λ s. sym (ap p (means x y s)))

same_is : (p q : Pair) → same_pair p q ≡ true → p ≡ q
same_is p q h =
    let r = and_parts (p.a == q.a) (p.b == q.b) h in
    ap (λ x. record { a = x; b = p.b }) (eqb-true p.a q.a r.0) ∙ ap (λ y. record { a = q.a; b = y }) (eqb-true p.b q.b r.1)

-- ---- what boxes meet, their skins meet
module _ (met : (outer inner other : Bounds) → encloses outer inner ≡ true → meets inner other ≡ true → meets outer other ≡ true)
    (either : (a b : Bounds) → meets a b ≡ meets b a) where
  meets_out : (s t a b : Bounds) → encloses s a ≡ true → encloses t b ≡ true → meets a b ≡ true → meets s t ≡ true
  meets_out s t a b ha hb m = either s t ∙ met t b s hb (either b s ∙ met s a b ha m)

  outer_meet : (sa sb : Option Bounds) (a b : Bounds) → is_inside sa a ≡ true → is_inside sb b ≡ true → meets a b ≡ true → both_meet sa sb ≡ true
  outer_meet None sb a b ha hb m = absurd (false≢true ha)
  outer_meet (Some s) None a b ha hb m = absurd (false≢true hb)
  outer_meet (Some s) (Some t) a b ha hb m = meets_out s t a b ha hb m

  kept_meet : (oa ob sa sb : Option Bounds) → ((b : Bounds) → oa ≡ Some b → is_inside sa b ≡ true)
      → ((b : Bounds) → ob ≡ Some b → is_inside sb b ≡ true) → (both_meet sa sb && both_meet oa ob) ≡ both_meet oa ob
  kept_meet None ob sa sb ha hb = and_false (both_meet sa sb)
  kept_meet (Some a) None sa sb ha hb = and_false (both_meet sa sb)
  kept_meet (Some a) (Some b) sa sb ha hb =
      elim (cases_Bool (meets a b)) as (λ _. (both_meet sa sb && meets a b) ≡ meets a b) [
        | inl t ↦ ap (λ x. x && meets a b) (outer_meet sa sb a b (ha a refl) (hb b refl) t)
        | inr f ↦ ap (λ x. both_meet sa sb && x) f ∙ and_false (both_meet sa sb) ∙ sym f
      ]

  pub near_kept : (bodies skins : FinMap nat_cmp Bounds) → AreSkins bodies skins → (pairs : List Pair) → ((p : Pair) → has_pair pairs p ≡ is_near skins p)
      → (p : Pair) → has_pair (filter (boxes_meet bodies) pairs) p ≡ is_near bodies p
  near_kept bodies skins h pairs are p =
      any_filter same_pair same_is (boxes_meet bodies) p pairs ∙ ap (λ b. b && boxes_meet bodies p) (are p)
      ∙ by_order (nat_lt p.a p.b)
    where
      by_order : (lt : Bool) → ((lt && both_meet (get skins p.a) (get skins p.b)) && boxes_meet bodies p) ≡ (lt && boxes_meet bodies p)
      by_order true = kept_meet (get bodies p.a) (get bodies p.b) (get skins p.a) (get skins p.b) (h.inside p.a) (h.inside p.b)
      by_order false = refl

-- ---- what a query meets of boxes, it meets of their skins
module _ (enclosed :
    (query : Query) (outer inner : Bounds) → encloses outer inner ≡ true → query_meets query inner ≡ true → query_meets query outer ≡ true) where
  outer_found : (query : Query) (s : Option Bounds) (b : Bounds) → is_inside s b ≡ true → query_meets query b ≡ true → meets_query query s ≡ true
  outer_found query None b h m = absurd (false≢true h)
  outer_found query (Some s) b h m = enclosed query s b h m

  kept_found : (query : Query) (o s : Option Bounds) → ((b : Bounds) → o ≡ Some b → is_inside s b ≡ true)
      → (meets_query query s && meets_query query o) ≡ meets_query query o
  kept_found query None s h = and_false (meets_query query s)
  kept_found query (Some b) s h =
      elim (cases_Bool (query_meets query b)) as (λ _. (meets_query query s && query_meets query b) ≡ query_meets query b) [
        | inl t ↦ ap (λ x. x && query_meets query b) (outer_found query s b (h b refl) t)
        | inr f ↦ ap (λ x. meets_query query s && x) f ∙ and_false (meets_query query s) ∙ sym f
      ]

  pub found_kept : (bodies skins : FinMap nat_cmp Bounds) → AreSkins bodies skins → (query : Query) (slots : List ℕ)
      → ((k : ℕ) → has_slot slots k ≡ is_found skins query k) → (k : ℕ) → has_slot (filter (is_found bodies query) slots) k ≡ is_found bodies query k
  found_kept bodies skins h query slots are k =
      any_filter (λ j x. j == x) (λ j x e. eqb-true j x e) (is_found bodies query) k slots ∙ ap (λ b. b && is_found bodies query k) (are k)
      ∙ kept_found query (get bodies k) (get skins k) (h.inside k)

-- ---- boxes stay in skins
after_insert : (m : FinMap nat_cmp Bounds) (k j : ℕ) (v : Bounds) → get (insert m k v) j ≡ cond (j == k) (Some v) (get m j)
after_insert m k j v = get-insert nat_cmp_total m k v j ∙ ap (λ b. cond b (Some v) (get m j)) (eq_cmp j k)

after_remove : (m : FinMap nat_cmp Bounds) (k j : ℕ) → get (remove m k) j ≡ cond (j == k) None (get m j)
after_remove m k j = get-remove nat_cmp_total m k j ∙ ap (λ b. cond b None (get m j)) (eq_cmp j k)

pub skins_none : AreSkins empty empty
skins_none = record { same = λ k. refl; inside = λ k b e. none k b (sym (get-empty nat_cmp k) ∙ e) }
  where
    none : (k : ℕ) (b : Bounds) → None ≡ Some b → is_inside (get (empty {R = nat_cmp}) k) b ≡ true
    none k b e = cc

module _ (bodies skins : FinMap nat_cmp Bounds) (h : AreSkins bodies skins) where
  pub skins_put : (k : ℕ) (body skin : Bounds) → encloses skin body ≡ true → AreSkins (insert bodies k body) (insert skins k skin)
  skins_put k body skin within = record {
    same = λ j. ap is_some (after_insert skins k j skin)
        ∙ by_slot (j == k) (get skins j) (get bodies j) (h.same j)
        ∙ sym (ap is_some (after_insert bodies k j body));
    inside = λ j b e. ap (λ o. is_inside o b) (after_insert skins k j skin)
        ∙ by_box (j == k) (get skins j) (get bodies j) b (h.inside j b) (sym (after_insert bodies k j body) ∙ e);
  }
    where
      by_slot : (t : Bool) (s o : Option Bounds) → is_some s ≡ is_some o → is_some (cond t (Some skin) s) ≡ is_some (cond t (Some body) o)
      by_slot true s o e = refl
      by_slot false s o e = e

      by_box : (t : Bool) (s o : Option Bounds) (b : Bounds) → (o ≡ Some b → is_inside s b ≡ true) → cond t (Some body) o ≡ Some b
          → is_inside (cond t (Some skin) s) b ≡ true
      by_box true s o b i e = let is : body ≡ b = cc in ap (encloses skin) (sym is) ∙ within
      by_box false s o b i e = i e

  pub skins_moved : (k : ℕ) (body : Bounds) → contains_key bodies k ≡ true → is_inside (get skins k) body ≡ true → AreSkins (insert bodies k body) skins
  skins_moved k body there within = record {
    same = λ j. by_slot j ∙ sym (ap is_some (after_insert bodies k j body));
    inside = λ j b e. by_box j b (sym (after_insert bodies k j body) ∙ e);
  }
    where
      by_slot : (j : ℕ) → is_some (get skins j) ≡ is_some (cond (j == k) (Some body) (get bodies j))
      by_slot j = elim (cases_Bool (j == k)) as (λ _. is_some (get skins j) ≡ is_some (cond (j == k) (Some body) (get bodies j))) [
        | inl t ↦ h.same j ∙ ap (contains_key bodies) (eqb-true j k t) ∙ there ∙ sym (ap (λ b. is_some (cond b (Some body) (get bodies j))) t)
        | inr f ↦ h.same j ∙ sym (ap (λ b. is_some (cond b (Some body) (get bodies j))) f)
      ]

      by_box : (j : ℕ) (b : Bounds) → cond (j == k) (Some body) (get bodies j) ≡ Some b → is_inside (get skins j) b ≡ true
      by_box j b e = elim (cases_Bool (j == k)) as (λ _. is_inside (get skins j) b ≡ true) [
        | inl t ↦
            let here : Some body ≡ Some b = sym (ap (λ x. cond x (Some body) (get bodies j)) t) ∙ e in
            let is : body ≡ b = cc in
            ap (λ x. is_inside (get skins x) b) (eqb-true j k t) ∙ ap (is_inside (get skins k)) (sym is) ∙ within
        | inr f ↦ h.inside j b (sym (ap (λ x. cond x (Some body) (get bodies j)) f) ∙ e)
      ]

  pub skins_taken : (k : ℕ) → AreSkins (remove bodies k) (remove skins k)
  skins_taken k = record {
    same = λ j. ap is_some (after_remove skins k j) ∙ by_slot (j == k) (get skins j) (get bodies j) (h.same j) ∙ sym (ap is_some (after_remove bodies k j));
    inside = λ j b e. ap (λ o. is_inside o b) (after_remove skins k j)
        ∙ by_box (j == k) (get skins j) (get bodies j) b (h.inside j b) (sym (after_remove bodies k j) ∙ e);
  }
    where
      by_slot : (t : Bool) (s o : Option Bounds) → is_some s ≡ is_some o → is_some (cond t None s) ≡ is_some (cond t None o)
      by_slot true s o e = refl
      by_slot false s o e = e

      by_box : (t : Bool) (s o : Option Bounds) (b : Bounds) → (o ≡ Some b → is_inside s b ≡ true) → cond t None o ≡ Some b
          → is_inside (cond t None s) b ≡ true
      by_box true s o b i e = cc
      by_box false s o b i e = i e

-- ---- what was appended, filtered
pub kept_behind : {X : Type 0} (p : X → Bool) (xs ys zs : List X) (n : ℕ)
    → n ≡ length xs → zs ≡ xs ++ ys → take n zs ++ filter p (drop n zs) ≡ xs ++ filter p ys
kept_behind p xs ys zs n long is =
    let front : take n zs ≡ xs = grind (arith, common_steps) in
    let rest : drop n zs ≡ ys = grind (arith, common_steps) in
    ap (λ l. take n zs ++ filter p l) rest ∙ ap (λ l. l ++ filter p ys) front
