-- The steps of a descent with a query.
use Rattle.std.proofs.Common.{◌≡◌, ℕ, ◌+◌, ◌≤◌, max, true, false, cond, Option, None, Some, List, [], ◌∷◌, ◌++◌}
use Rattle.std.proofs.Common.{is_some, map, length, get_or, length-append, append_assoc, refl, sym, ap, ◌∙◌, subst, arith, ⊎_elim}
use Rattle.std.specs.List.{filter}
use Rattle.std.proofs.Common.{take, drop, Result, Ok, Err, OnErr}
use Rattle.std.proofs.Math.Seq.{take-append_seam}
use Rattle.std.proofs.lemmas.List.{same_from_push, append-nil, length_push, map-append, take-append-drop}
use Rattle.std.proofs.lemmas.List.Elements.{filter-append}
use Rattle.fixed_box.specs.Bounds.{Bounds, encloses, hull as union}
use Rattle.broad_index.specs.declared.query.Query.{Query}
use Rattle.broad_index.specs.Found.{query_meets, found_of}
use Rattle.broad_index.specs.Members.{meets_query}
use Rattle.tree_nodes.specs.declared.node_view.NodeView.{NodeView}
use Rattle.tree_nodes.specs.declared.node_view.NodeView.TheVariants.{Leaf as LeafNode, Inner}
use Rattle.tree_nodes.specs.Tree.{Tree, tip, fork, top, leaves, Leaf, height, bounds, view_of, view_in, IsTree, Balanced, Within}
use Rattle.tree_search.specs.Descent.{all_leaves, owed, all_owed, views, Wait, Stands, Popped, Laws, met_in, found_at, meets_node}
use Rattle.tree_search.specs.Visits.{visits_by, visits_by_in}
use Rattle.tree_search.specs.Exact.{entry_of, exact, exact_in, IsInside, IsLeafInside}

-- what holds anyway holds where memory ran out
pub anyway : {T E P : Type 0} (r : Result T E) → P → OnErr r P
anyway (Ok t) p = tt
anyway (Err e) p = p

-- what was in a list begins it still where more is appended
pub still : (before now more : List ℕ) → take (length before) now ≡ before → take (length before) (now ++ more) ≡ before
still before now more begins =
    let later = drop (length before) now in
    ap (λ l. take (length before) (l ++ more)) (sym (take-append-drop (length before) now) ∙ ap (λ l. l ++ later) begins)
    ∙ ap (take (length before)) (append_assoc before later more)
    ∙ take-append_seam before (later ++ more)

pub found_append : (q : Query) (es fs : List (ℕ × Bounds)) → found_of (es ++ fs) q ≡ found_of es q ++ found_of fs q
found_append q es fs =
    ap (map (λ (e : ℕ × Bounds). e.0)) (filter-append (λ (e : ℕ × Bounds). query_meets q e.1) es fs)
    ∙ map-append (λ (e : ℕ × Bounds). e.0) (filter (λ (e : ℕ × Bounds). query_meets q e.1) es) (filter (λ (e : ℕ × Bounds). query_meets q e.1) fs)

-- what a fat box keeps out is not met
pub not_met : (q : Query) → ((outer inner : Bounds) → encloses outer inner ≡ true → query_meets q outer ≡ false → query_meets q inner ≡ false)
    → (f : Bounds) (o : Option Bounds) → ((b : Bounds) → o ≡ Some b → encloses f b ≡ true) → query_meets q f ≡ false → meets_query q o ≡ false
not_met q missed f None inside out = refl
not_met q missed f (Some b) inside out = missed f b (inside b refl) out

module _ (bodies : List (Option Bounds)) where
  pub exact_append : (xs ys : List Leaf) → exact bodies (xs ++ ys) ≡ exact bodies xs ++ exact bodies ys
  exact_append [] ys = refl
  exact_append (x ∷ xs) ys =
      ap (λ es. entry_of x.slot (get_or bodies x.slot None) ++ es) (exact_append xs ys)
      ∙ sym (append_assoc (entry_of x.slot (get_or bodies x.slot None)) (exact bodies xs) (exact bodies ys))

  module _ (q : Query) where
    abbrev met : List Leaf → List ℕ
    met xs = found_of (exact bodies xs) q

    met_append : (xs ys : List Leaf) → met (xs ++ ys) ≡ met xs ++ met ys
    met_append xs ys = ap (λ es. found_of es q) (exact_append xs ys) ∙ found_append q (exact bodies xs) (exact bodies ys)

    one_met : (s : ℕ) (o : Option Bounds) → found_of (entry_of s o) q ≡ cond (meets_query q o) (s ∷ []) []
    one_met s None = refl
    one_met s (Some b) =
        elim (query_meets q b) as (λ m. map (λ (e : ℕ × Bounds). e.0) (cond m ((s, b) ∷ []) []) ≡ cond m (s ∷ []) []) [ true ↦ refl | false ↦ refl ]

    first_met : (x : Leaf) (xs : List Leaf) → met (x ∷ xs) ≡ cond (meets_query q (get_or bodies x.slot None)) (x.slot ∷ []) [] ++ met xs
    first_met x xs =
        found_append q (entry_of x.slot (get_or bodies x.slot None)) (exact bodies xs)
        ∙ ap (λ ys. ys ++ met xs) (one_met x.slot (get_or bodies x.slot None))

    module _ (w : Laws q) where
      -- below a hull that is missed nothing is found
      none_met : (t : Tree) → Balanced t → IsInside bodies t → query_meets q (bounds t) ≡ false → met (leaves t) ≡ []
      none_met (tip n s f) bal inside out =
          first_met (record { node = n; slot = s; fat = f }) []
          ∙ ap (λ m. cond m (s ∷ []) [] ++ []) (not_met q w.missed f (get_or bodies s None) inside.inside out)
      none_met (fork n h k l r) bal inside out =
          let e : query_meets q (union (bounds l) (bounds r)) ≡ false = subst (λ x. query_meets q x ≡ false) bal.0.hull_is out in
          let a = none_met l bal.1 inside.0 (w.missed (union (bounds l) (bounds r)) (bounds l) (w.this (bounds l) (bounds r)) e) in
          let b = none_met r bal.2 inside.1 (w.missed (union (bounds l) (bounds r)) (bounds r) (w.that (bounds l) (bounds r)) e) in
          met_append (leaves l) (leaves r) ∙ ap (λ xs. xs ++ met (leaves r)) a ∙ b

      inside_within : (t u : Tree) → IsInside bodies t → Within t u → IsInside bodies u
      inside_within (tip n s b) u inside x = subst (IsInside bodies) (sym x) inside
      inside_within (fork n h k l r) u inside x =
          ⊎_elim (λ e. subst (IsInside bodies) (sym e) inside) (λ v. ⊎_elim (inside_within l u inside.0) (inside_within r u inside.1) v) x

      -- and no node is looked at
      none_owed : (t : Tree) → query_meets q (bounds t) ≡ false → owed t q ≡ 0
      none_owed (tip n s f) out = refl
      none_owed (fork n h k l r) out = ap (λ m. cond m (visits_by l q + visits_by r q) 0) out

      owed_of : (u : Tree) → visits_by u q ≡ 1 + owed u q
      owed_of (tip n s f) = refl
      owed_of (fork n h k l r) = refl

      met_top : (o : Option Tree) (u : Tree) → view_in o (top u) ≡ Some (view_of u)
          → met_in q (view_in o (top u)) ≡ cond (query_meets q (bounds u)) (view_of u ∷ []) []
      met_top o (tip n s f) e = ap (met_in q) e
      met_top o (fork n h k l r) e = ap (met_in q) e

      -- a tree waits where it is met
      onto : (t : Tree) (stack : List NodeView) (us : List Tree) (u : Tree) → Wait q t stack us → height u + length us ≤ 18 → Within t u → Balanced u
          → IsInside bodies u → (vs : List Tree) × Wait q t (stack ++ cond (query_meets q (bounds u)) (view_of u ∷ []) []) vs
          × (met (all_leaves vs) ≡ met (leaves u) ++ met (all_leaves us)) × (all_owed vs q ≡ owed u q + all_owed us q) × (length vs ≤ length us + 1)
      onto t stack us u s low here bal inside =
          elim (query_meets q (bounds u)) as
          (λ m. query_meets q (bounds u) ≡ m → (vs : List Tree) × Wait q t (stack ++ cond m (view_of u ∷ []) []) vs
          × (met (all_leaves vs) ≡ met (leaves u) ++ met (all_leaves us)) × (all_owed vs q ≡ owed u q + all_owed us q) × (length vs ≤ length us + 1)) [
            | true ↦ λ m. (
              u ∷ us,
              record {
                stack_is = ap (λ xs. xs ++ view_of u ∷ []) s.stack_is;
                low = (low, s.low);
                within = (here, s.within);
                met = (m, s.met);
              },
              met_append (leaves u) (all_leaves us),
              refl,
              omega arith,
            )
            | false ↦ λ m. (
              us,
              record { stack_is = append-nil stack ∙ s.stack_is; low = s.low; within = s.within; met = s.met },
              sym (ap (λ xs. xs ++ met (all_leaves us)) (none_met u bal inside m)),
              (let e = none_owed u m in omega arith),
              omega arith,
            )
          ] refl

      -- the next tree comes off the stack
      popped : (o : Option Tree) (rest : List NodeView) (node : NodeView) (before now : List ℕ) (count : ℕ)
          → Stands o bodies q (rest ++ node ∷ []) before now count → Popped o bodies q rest node before now count
      popped o rest node before now count s = by_list s.us s.wait s.found_is s.count_is
        where
          by_list : (us : List Tree) → Wait q s.t (rest ++ node ∷ []) us → now ++ met (all_leaves us) ≡ before ++ met (leaves s.t)
              → count + all_owed us q ≡ visits_by s.t q → Popped o bodies q rest node before now count
          by_list [] wa fo co =
              let len : length (rest ++ node ∷ []) ≡ 0 = ap length wa.stack_is in
              let l = length_push rest node in
              absurd (omega arith)
          by_list (u ∷ us) wa fo co =
              let p = same_from_push rest (views us) node (view_of u) wa.stack_is in
              record {
                t = s.t;
                u = u;
                us = us;
                is = s.is;
                is_tree = s.is_tree;
                inside = s.inside;
                node_is = p.1;
                wait = record { stack_is = p.0; low = wa.low.1; within = wa.within.1; met = wa.met.1 };
                low_here = wa.low.0;
                here = wa.within.0;
                met_here = wa.met.0;
                found_is = fo;
                count_is = co;
              }

      few_visits : (t : Tree) → (1 ≤ visits_by t q) × (visits_by t q + 1 ≤ length (leaves t) + length (leaves t))
      few_visits (tip n s b) = (omega arith, omega arith)
      few_visits (fork n h k l r) =
          let a = few_visits l in
          let b = few_visits r in
          let len : length (leaves l ++ leaves r) ≡ length (leaves l) + length (leaves r) = length-append (leaves l) (leaves r) in
          elim (query_meets q h) as
          (λ m. (1 ≤ 1 + cond m (visits_by l q + visits_by r q) 0)
          × (1 + cond m (visits_by l q + visits_by r q) 0 + 1 ≤ length (leaves l ++ leaves r) + length (leaves l ++ leaves r))) [
            | true ↦ (omega arith, omega arith)
            | false ↦ (omega arith, omega arith)
          ]

      length_views : (us : List Tree) → length (views us) ≡ length us
      length_views [] = refl
      length_views (u ∷ us) = length_push (views us) (view_of u) ∙ (let l = length_views us in omega arith)

      pub one_more : (rest : List NodeView) (o : Option NodeView) → length (rest ++ met_in q o) ≤ length rest + 1
      one_more rest o =
          let all = length-append rest (met_in q o) in
          let s = short o in
          omega arith
        where
          short : (o : Option NodeView) → length (met_in q o) ≤ 1
          short None = omega arith
          short (Some v) = elim (meets_node q v) as (λ x. length (cond x (v ∷ []) []) ≤ 1) [ true ↦ omega arith | false ↦ omega arith ]

      pub two_more : (rest : List NodeView) (a b : Option NodeView) → length ((rest ++ met_in q a) ++ met_in q b) ≤ length rest + 2
      two_more rest a b =
          let x = one_more rest a in
          let y = one_more (rest ++ met_in q a) b in
          omega arith

      -- where a descent stands after a leaf, and after an inner node
      abbrev pub After : Option Tree → List NodeView → List ℕ → List ℕ → ℕ → NodeView → Type 0
      After o rest before now count (LeafNode slot fat) =
          IsLeafInside bodies slot fat × Stands o bodies q rest before (now ++ found_at bodies q slot) count
      After o rest before now count (Inner left right h k) =
          (count + 2 ≤ visits_by_in o q) × (visits_by_in o q ≤ 16383) × (length rest ≤ 17)
          × (is_some (view_in o left) ≡ true) × (is_some (view_in o right) ≡ true)
          × Stands o bodies q ((rest ++ met_in q (view_in o right)) ++ met_in q (view_in o left)) before now (count + 2)

      -- one node more
      looked_on : (o : Option Tree) (rest : List NodeView) (node : NodeView) (before now : List ℕ) (count : ℕ)
          → Popped o bodies q rest node before now count → After o rest before now count node
      looked_on o rest node before now count p =
          subst (After o rest before now count) (sym p.node_is) (by_tree p.u (w.within p.t p.u p.here p.is_tree.balanced)
          (inside_within p.t p.u p.inside p.here) p.low_here p.here p.met_here p.found_is p.count_is)
        where
          shown : (u : Tree) → Within p.t u → view_in o (top u) ≡ Some (view_of u)
          shown u here = rw p.is (w.shown p.t u here p.is_tree.apart)

          by_tree : (u : Tree) → Balanced u → IsInside bodies u → height u + length p.us ≤ 18 → Within p.t u → query_meets q (bounds u) ≡ true
              → now ++ met (leaves u ++ all_leaves p.us) ≡ before ++ met (leaves p.t) → count + (owed u q + all_owed p.us q) ≡ visits_by p.t q
              → After o rest before now count (view_of u)
          by_tree (tip n s f) bal inside low here m fo co =
              let x : Leaf = record { node = n; slot = s; fat = f } in (
                inside,
                record {
                  t = p.t;
                  us = p.us;
                  is = p.is;
                  is_tree = p.is_tree;
                  inside = p.inside;
                  wait = p.wait;
                  found_is = append_assoc now (found_at bodies q s) (met (all_leaves p.us))
                      ∙ ap (λ xs. now ++ xs) (sym (first_met x (all_leaves p.us))) ∙ fo;
                  count_is = omega arith;
                },
              )
          by_tree (fork n h k l r) bal inside low here m fo co =
              let kk : k ≡ 1 + max (height l) (height r) = bal.0.height_is in
              let c = w.children n k h l r in
              let within_l = w.deeper p.t (fork n h k l r) l here c.0 in
              let within_r = w.deeper p.t (fork n h k l r) r here c.1 in
              let a = onto p.t rest p.us r p.wait (grind (arith)) within_r bal.2 inside.1 in
              let short = a.4 in
              let b = onto p.t (rest ++ cond (query_meets q (bounds r)) (view_of r ∷ []) []) a.0 l a.1 (grind (arith)) within_l bal.1 inside.0 in
              let due : cond (query_meets q h) (visits_by l q + visits_by r q) 0 ≡ visits_by l q + visits_by r q =
              ap (λ x. cond x (visits_by l q + visits_by r q) 0) m in
              let vl = few_visits l in
              let vr = few_visits r in
              let all = few_visits p.t in
              let few = p.is_tree.few in
              let owed_l = owed_of l in
              let owed_r = owed_of r in
              let owed_a = a.3 in
              let owed_b = b.3 in (
                rw p.is (omega arith),
                rw p.is (omega arith),
                rw p.wait.stack_is (let len = length_views p.us in omega arith),
                ap is_some (shown l within_l),
                ap is_some (shown r within_r),
                rw (met_top o r (shown r within_r), met_top o l (shown l within_l)) (record {
                  t = p.t;
                  us = b.0;
                  is = p.is;
                  is_tree = p.is_tree;
                  inside = p.inside;
                  wait = b.1;
                  found_is = ap (λ xs. now ++ xs) (b.2 ∙ ap (λ xs. met (leaves l) ++ xs) a.2
                      ∙ sym (append_assoc (met (leaves l)) (met (leaves r)) (met (all_leaves p.us)))
                      ∙ ap (λ xs. xs ++ met (all_leaves p.us)) (sym (met_append (leaves l) (leaves r)))
                      ∙ sym (met_append (leaves l ++ leaves r) (all_leaves p.us))) ∙ fo;
                  count_is = omega arith;
                }),
              )

      -- the same of the node that comes off the stack
      module _ (rest : List NodeView) (node : NodeView) {o : Option Tree} {stack : List NodeView} {before now : List ℕ} {count : ℕ}
          (s : Stands o bodies q stack before now count) (is : stack ≡ rest ++ node ∷ []) where
        after : After o rest before now count node
        after = looked_on o rest node before now count (popped o rest node before now count (subst (λ xs. Stands o bodies q xs before now count) is s))

        pub at_leaf : {slot : ℕ} {fat : Bounds} → node ≡ LeafNode slot fat → After o rest before now count (LeafNode slot fat)
        at_leaf e = subst (After o rest before now count) e after

        pub at_inner : {left right k : ℕ} {h : Bounds} → node ≡ Inner left right h k → After o rest before now count (Inner left right h k)
        at_inner e = subst (After o rest before now count) e after

      -- the start
      pub begun : (o : Option Tree) (before : List ℕ) (root : ℕ) (t : Tree) → o ≡ Some t → root ≡ top t → IsTree t → IsInside bodies t
          → Stands o bodies q (met_in q (view_in o root)) before before 1
      begun o before root t is at is_tree inside =
          let low = is_tree.low in
          let a = onto t [] [] t (record { stack_is = refl; low = tt; within = tt; met = tt }) (omega arith) (w.itself t) is_tree.balanced inside in
          let owed_a = a.3 in
          let owed_t = owed_of t in
          rw at (rw (met_top o t (rw is (w.shown t t (w.itself t) is_tree.apart))) (record {
            t = t;
            us = a.0;
            is = is;
            is_tree = is_tree;
            inside = inside;
            wait = a.1;
            found_is = ap (λ xs. before ++ xs) (a.2 ∙ append-nil (met (leaves t)));
            count_is = omega arith;
          }))

      -- the end
      pub done_ok : (o : Option Tree) (before now : List ℕ) (count : ℕ) → Stands o bodies q [] before now count
          → (now ≡ before ++ found_of (exact_in bodies o) q) × (count ≡ visits_by_in o q)
      done_ok o before now count s = by_list s.us s.wait.stack_is s.found_is s.count_is
        where
          by_list : (us : List Tree) → [] ≡ views us → now ++ met (all_leaves us) ≡ before ++ met (leaves s.t)
              → count + all_owed us q ≡ visits_by s.t q → (now ≡ before ++ found_of (exact_in bodies o) q) × (count ≡ visits_by_in o q)
          by_list [] st fo co = rw s.is (sym (append-nil now) ∙ fo, omega arith)
          by_list (u ∷ us) st fo co =
              let len : length (views us ++ view_of u ∷ []) ≡ 0 = ap length (sym st) in
              let l = length_push (views us) (view_of u) in
              absurd (omega arith)
