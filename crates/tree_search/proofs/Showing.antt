-- The steps of a descent that shows boxes to a visitor.
use Rattle.std.proofs.Common.{◌≡◌, ℕ, zero, suc, ◌+◌, ◌^◌, ◌<◌, ◌≤◌, max, true, Option, None, Some, List, [], ◌∷◌, ◌++◌, is_some, option_to_list, option_map}
use Rattle.std.proofs.Common.{length, append_assoc, refl, sym, ap, ◌∙◌, subst, arith, ⊎_elim, slice_index_or}
use Rattle.std.specs.List.{All, AllByRecursion}
use Rattle.std.specs.List.Sorted.{IsPermutation}
use Rattle.std.proofs.lemmas.List.{same_from_push, append-nil, length_push}
use Rattle.std.proofs.lemmas.List.Elements.{All-from_recursion}
use Rattle.std.proofs.lemmas.List.Sorted.{IsPermutation-refl, IsPermutation-trans, IsPermutation-append, IsPermutation-append_comm}
use Rattle.fixed_box.specs.Bounds.{Bounds, encloses, hull as union}
use Rattle.broad_index.specs.declared.query.Query.{Query}
use Rattle.tree_nodes.specs.declared.node_view.NodeView.{NodeView}
use Rattle.tree_nodes.specs.declared.node_view.NodeView.TheVariants.{Leaf as LeafNode, Inner}
use Rattle.tree_nodes.specs.Shown.{shown_as}
use Rattle.tree_nodes.specs.declared.node.Role.{Role}
use Rattle.tree_nodes.specs.declared.node.Role.TheVariants.{Leaf, Inner as InnerRole}
use Rattle.tree_nodes.specs.Tree.{Tree, tip, fork, top, leaves, height, bounds, view_of, view_in, IsTree, IsTreeIn, Balanced, Within}
use Rattle.tree_search.specs.Descent.{all_leaves, views, AreLow, AllWithin, Laws}
use Rattle.tree_search.specs.Exact.{entry_of, exact, exact_in, IsInside, IsInsideIn}
use Rattle.tree_search.specs.Visiting.{weight, weights, Shows, NextShown}
use Rattle.tree_search.proofs.Descents.{exact_append}

-- ---- weights

threefold : (m n : ℕ) → m ≤ n → 3 ^ m ≤ 3 ^ n
threefold zero zero l = omega arith
threefold zero (suc n) l = let h = threefold zero n (omega arith) in omega arith
threefold (suc m) zero l = absurd (omega arith)
threefold (suc m) (suc n) l = let h = threefold m n (omega arith) in omega arith

weight_is : (u : Tree) → Balanced u → weight (view_of u) ≡ 3 ^ height u
weight_is (tip n s f) bal = refl
weight_is (fork n h k l r) bal = refl

some_weight : (n : ℕ) → 1 ≤ 3 ^ n
some_weight zero = omega arith
some_weight (suc n) = let h = some_weight n in omega arith

-- two children have less than their parent
lighter : (n : ℕ) (h : Bounds) (k : ℕ) (l r : Tree) → k ≡ 1 + max (height l) (height r) → 3 ^ height l + 3 ^ height r < 3 ^ k
lighter n h k l r e =
    let m = max (height l) (height r) in
    let a = threefold (height l) m (omega arith) in
    let b = threefold (height r) m (omega arith) in
    let c = some_weight m in
    let one_more : k ≡ suc m = omega arith in
    let d : 3 ^ k ≡ 3 ^ suc m = ap (λ x. 3 ^ x) one_more in
    omega arith

pub weights_push : (xs : List NodeView) (y : NodeView) → weights (xs ++ y ∷ []) ≡ weights xs + weight y
weights_push [] y = omega arith
weights_push (x ∷ xs) y = let h = weights_push xs y in omega arith

-- ---- what a hull that isn't admitted keeps out

module _ (chain : (a b c : Bounds) → encloses a b ≡ true → encloses b c ≡ true → encloses a c ≡ true) (bodies : List (Option Bounds)) where
  one_inside : (s : ℕ) (f : Bounds) (o : Option Bounds) → ((b : Bounds) → o ≡ Some b → encloses f b ≡ true) → AllByRecursion (λ e. encloses f e.1 ≡ true) (entry_of s o)
  one_inside s f None h = tt
  one_inside s f (Some b) h = (h b refl, tt)

  all_append : (P : ℕ × Bounds → Type 0) (xs ys : List (ℕ × Bounds)) → AllByRecursion P xs → AllByRecursion P ys → AllByRecursion P (xs ++ ys)
  all_append P [] ys a b = b
  all_append P (x ∷ xs) ys a b = (a.0, all_append P xs ys a.1 b)

  wider : (a b : Bounds) (xs : List (ℕ × Bounds)) → encloses a b ≡ true → AllByRecursion (λ e. encloses b e.1 ≡ true) xs → AllByRecursion (λ e. encloses a e.1 ≡ true) xs
  wider a b [] h all = tt
  wider a b (x ∷ xs) h all = (chain a b x.1 h all.0, wider a b xs h all.1)

  module _ (q : Query) (w : Laws q) where
    below : (u : Tree) → Balanced u → IsInside bodies u → AllByRecursion (λ e. encloses (bounds u) e.1 ≡ true) (exact bodies (leaves u))
    below (tip n s f) bal inside = all_append (λ e. encloses f e.1 ≡ true) (entry_of s (slice_index_or bodies s None)) [] (one_inside s f (slice_index_or bodies s None) inside.inside) tt
    below (fork n h k l r) bal inside =
        subst (AllByRecursion (λ e. encloses h e.1 ≡ true)) (sym (exact_append bodies (leaves l) (leaves r)))
        (all_append (λ e. encloses h e.1 ≡ true) (exact bodies (leaves l)) (exact bodies (leaves r))
        (subst (λ x. AllByRecursion (λ e. encloses x e.1 ≡ true) (exact bodies (leaves l))) (sym bal.0.hull_is)
        (wider (union (bounds l) (bounds r)) (bounds l) (exact bodies (leaves l)) (w.this (bounds l) (bounds r)) (below l bal.1 inside.0)))
        (subst (λ x. AllByRecursion (λ e. encloses x e.1 ≡ true) (exact bodies (leaves r))) (sym bal.0.hull_is)
        (wider (union (bounds l) (bounds r)) (bounds r) (exact bodies (leaves r)) (w.that (bounds l) (bounds r)) (below r bal.2 inside.1))))

    inside_within : (t u : Tree) → IsInside bodies t → Within t u → IsInside bodies u
    inside_within (tip n s b) u inside x = subst (IsInside bodies) (sym x) inside
    inside_within (fork n h k l r) u inside x =
        ⊎_elim (λ e. subst (IsInside bodies) (sym e) inside) (λ v. ⊎_elim (inside_within l u inside.0) (inside_within r u inside.1) v) x

-- ---- steps

-- the box of a node is that of its tree
box_is : (b : Bounds) (r : Role) (u : Tree) → shown_as b r ≡ view_of u → b ≡ bounds u
box_is b (Leaf slot) (tip n s f) e = cc
box_is b (Leaf slot) (fork n h k l r) e = let no : ⊥ = cc in absurd no
box_is b (InnerRole left right height) (tip n s f) e = let no : ⊥ = cc in absurd no
box_is b (InnerRole left right height) (fork n h k l r) e = cc

pub popped : (o : Option Tree) (bodies : List (Option Bounds)) {before now : List (ℕ × Bounds) → Type 0} (rest : List NodeView) (node : NodeView)
    → Shows o bodies before now (rest ++ node ∷ []) → NextShown o bodies before now rest node
popped o bodies {before = before} {now = now} rest node s = by_list s.us s.stack_is s.low s.within s.all
  where
    by_list : (us : List Tree) → rest ++ node ∷ [] ≡ views us → AreLow us → AllWithin s.t us
        → IsPermutation (s.shown ++ exact bodies (all_leaves us)) (exact bodies (leaves s.t)) → NextShown o bodies before now rest node
    by_list [] st lo wi al =
        let len : length (rest ++ node ∷ []) ≡ 0 = ap length st in
        let l = length_push rest node in
        absurd (omega arith)
    by_list (u ∷ us) st lo wi al =
        let p = same_from_push rest (views us) node (view_of u) st in
        record {
          t = s.t;
          u = u;
          us = us;
          is = s.is;
          is_tree = s.is_tree;
          inside = s.inside;
          node_is = p.1;
          rest_is = p.0;
          low_here = lo.0;
          low = lo.1;
          here = wi.0;
          within = wi.1;
          shown = s.shown;
          all = al;
          saw = s.saw;
        }

-- what stands below the next tree counts as shown
stepped : {o : Option Tree} {bodies : List (Option Bounds)} {before now then : List (ℕ × Bounds) → Type 0} {rest : List NodeView} {node : NodeView}
    → (p : NextShown o bodies before now rest node) → ((seen : List (ℕ × Bounds)) → now seen → then (seen ++ exact bodies (leaves p.u)))
    → Shows o bodies before then rest
stepped {bodies = bodies} {then = then} p step =
    let here = exact bodies (leaves p.u) in
    record {
      t = p.t;
      us = p.us;
      is = p.is;
      is_tree = p.is_tree;
      inside = p.inside;
      stack_is = p.rest_is;
      low = p.low;
      within = p.within;
      shown = p.shown ++ here;
      all = subst (λ l. IsPermutation l (exact bodies (leaves p.t)))
          (ap (λ l. p.shown ++ l) (exact_append bodies (leaves p.u) (all_leaves p.us)) ∙ sym (append_assoc p.shown here (exact bodies (all_leaves p.us)))) p.all;
      saw = λ seen b. subst then (append_assoc seen p.shown here) (step (seen ++ p.shown) (p.saw seen b));
    }

leaf_entry : (bodies : List (Option Bounds)) (slot : ℕ) (fat : Bounds) (u : Tree) → LeafNode slot fat ≡ view_of u → exact bodies (leaves u) ≡ entry_of slot (slice_index_or bodies slot None)
leaf_entry bodies slot fat (tip n s f) e =
    let same : s ≡ slot = cc in
    append-nil (entry_of s (slice_index_or bodies s None)) ∙ ap (λ x. entry_of x (slice_index_or bodies x None)) same
leaf_entry bodies slot fat (fork n h k l r) e = let no : ⊥ = cc in absurd no

leaf_small : (bodies : List (Option Bounds)) (slot : ℕ) (fat : Bounds) (u : Tree) → LeafNode slot fat ≡ view_of u → IsInside bodies u → slot < length bodies
leaf_small bodies slot fat (tip n s f) e inside = let same : s ≡ slot = cc in subst (λ x. x < length bodies) same inside.small
leaf_small bodies slot fat (fork n h k l r) e inside = let no : ⊥ = cc in absurd no

module _ (chain : (a b c : Bounds) → encloses a b ≡ true → encloses b c ≡ true → encloses a c ≡ true) (q : Query) (w : Laws q)
    {o : Option Tree} {bodies : List (Option Bounds)} {before now : List (ℕ × Bounds) → Type 0} {rest : List NodeView} where
  pub kept_out : (b : Bounds) (r : Role) → NextShown o bodies before now rest (shown_as b r)
      → ((seen more : List (ℕ × Bounds)) → now seen → All (λ e. encloses b e.1 ≡ true) more → now (seen ++ more)) → Shows o bodies before now rest
  kept_out b r p passed =
      let u = p.u in
      let out : All (λ e. encloses b e.1 ≡ true) (exact bodies (leaves u)) =
      subst (λ x. All (λ e. encloses x e.1 ≡ true) (exact bodies (leaves u))) (sym (box_is b r u p.node_is))
      (All-from_recursion (λ e. encloses (bounds u) e.1 ≡ true) (exact bodies (leaves u))
      (below chain bodies q w u (w.within p.t u p.here p.is_tree.balanced) (inside_within chain bodies q w p.t u p.inside p.here))) in
      stepped p (λ seen n. passed seen (exact bodies (leaves u)) n out)

  pub small_slot : {slot : ℕ} {fat : Bounds} → NextShown o bodies before now rest (LeafNode slot fat) → slot < length bodies
  small_slot {slot = slot} {fat = fat} p = leaf_small bodies slot fat p.u p.node_is (inside_within chain bodies q w p.t p.u p.inside p.here)

  pub leaf_shown : {then : List (ℕ × Bounds) → Type 0} {slot : ℕ} {fat : Bounds} → NextShown o bodies before now rest (LeafNode slot fat)
      → ((seen : List (ℕ × Bounds)) → now seen → then (seen ++ entry_of slot (slice_index_or bodies slot None))) → Shows o bodies before then rest
  leaf_shown {then = then} {slot = slot} {fat = fat} p step =
      stepped p (λ seen n. subst (λ l. then (seen ++ l)) (sym (leaf_entry bodies slot fat p.u p.node_is)) (step seen n))

-- what waits where two children do, one of them first
pub record Opens (o : Option Tree) (bodies : List (Option Bounds)) (before now : List (ℕ × Bounds) → Type 0) (rest : List NodeView) (left right k : ℕ) : Type 0 where
  pub room : length rest + 1 < 19
  pub left_is : is_some (view_in o left) ≡ true
  pub right_is : is_some (view_in o right) ≡ true
  pub left_first : Shows o bodies before now ((rest ++ option_to_list (view_in o right)) ++ option_to_list (view_in o left))
  pub right_first : Shows o bodies before now ((rest ++ option_to_list (view_in o left)) ++ option_to_list (view_in o right))
  pub left_lighter : weights ((rest ++ option_to_list (view_in o right)) ++ option_to_list (view_in o left)) < weights rest + 3 ^ k
  pub right_lighter : weights ((rest ++ option_to_list (view_in o left)) ++ option_to_list (view_in o right)) < weights rest + 3 ^ k

swapped : (ls rs zs : List (ℕ × Bounds)) → IsPermutation (rs ++ (ls ++ zs)) (ls ++ (rs ++ zs))
swapped ls rs zs =
    subst (λ l. IsPermutation l (ls ++ (rs ++ zs))) (append_assoc rs ls zs)
    (subst (IsPermutation ((rs ++ ls) ++ zs)) (append_assoc ls rs zs)
    (IsPermutation-append (rs ++ ls) (ls ++ rs) zs zs (IsPermutation-append_comm rs ls) (IsPermutation-refl zs)))

length_views : (us : List Tree) → length (views us) ≡ length us
length_views [] = refl
length_views (u ∷ us) = length_push (views us) (view_of u) ∙ (let l = length_views us in omega arith)

two_weights : (rest : List NodeView) (a b : NodeView) → weights ((rest ++ a ∷ []) ++ b ∷ []) ≡ weights rest + weight a + weight b
two_weights rest a b = weights_push (rest ++ a ∷ []) b ∙ ap (λ n. n + weight b) (weights_push rest a)

module _ (q : Query) (w : Laws q) {o : Option Tree} {bodies : List (Option Bounds)} {before now : List (ℕ × Bounds) → Type 0} {rest : List NodeView} where
  opened_by : {left right k : ℕ} {hull : Bounds} (p : NextShown o bodies before now rest (Inner left right hull k)) (u : Tree) → Inner left right hull k ≡ view_of u
      → Within p.t u → Balanced u → height u + length p.us ≤ 18
      → IsPermutation (p.shown ++ exact bodies (leaves u ++ all_leaves p.us)) (exact bodies (leaves p.t))
      → Opens o bodies before now rest left right k
  opened_by p (tip n s f) e here bal low al = let no : ⊥ = cc in absurd no
  opened_by {left = left} {right = right} {k = k} p (fork n h m l r) e here bal low al =
      let c = w.children n m h l r in
      let within_l = w.deeper p.t (fork n h m l r) l here c.0 in
      let within_r = w.deeper p.t (fork n h m l r) r here c.1 in
      let left_top : top l ≡ left = cc in
      let right_top : top r ≡ right = cc in
      let same : m ≡ k = cc in
      let view_l : view_in o left ≡ Some (view_of l) = subst (λ x. view_in o x ≡ Some (view_of l)) left_top (rw p.is (w.shown p.t l within_l p.is_tree.apart)) in
      let view_r : view_in o right ≡ Some (view_of r) = subst (λ x. view_in o x ≡ Some (view_of r)) right_top (rw p.is (w.shown p.t r within_r p.is_tree.apart)) in
      let list_l : option_to_list (view_in o left) ≡ view_of l ∷ [] = ap option_to_list view_l in
      let list_r : option_to_list (view_in o right) ≡ view_of r ∷ [] = ap option_to_list view_r in
      let left_is : (rest ++ option_to_list (view_in o right)) ++ option_to_list (view_in o left) ≡ (rest ++ view_of r ∷ []) ++ view_of l ∷ [] =
      λ i. (rest ++ list_r i) ++ list_l i in
      let right_is : (rest ++ option_to_list (view_in o left)) ++ option_to_list (view_in o right) ≡ (rest ++ view_of l ∷ []) ++ view_of r ∷ [] =
      λ i. (rest ++ list_l i) ++ list_r i in
      let kk : m ≡ 1 + max (height l) (height r) = bal.0.height_is in
      let len : length rest ≡ length p.us = ap length p.rest_is ∙ length_views p.us in
      let ls = exact bodies (leaves l) in
      let rs = exact bodies (leaves r) in
      let zs = exact bodies (all_leaves p.us) in
      let split : exact bodies ((leaves l ++ leaves r) ++ all_leaves p.us) ≡ ls ++ (rs ++ zs) =
      exact_append bodies (leaves l ++ leaves r) (all_leaves p.us) ∙ ap (λ xs. xs ++ zs) (exact_append bodies (leaves l) (leaves r)) ∙ append_assoc ls rs zs in
      let to_left : exact bodies (leaves l ++ (leaves r ++ all_leaves p.us)) ≡ ls ++ (rs ++ zs) =
      exact_append bodies (leaves l) (leaves r ++ all_leaves p.us) ∙ ap (λ xs. ls ++ xs) (exact_append bodies (leaves r) (all_leaves p.us)) in
      let to_right : exact bodies (leaves r ++ (leaves l ++ all_leaves p.us)) ≡ rs ++ (ls ++ zs) =
      exact_append bodies (leaves r) (leaves l ++ all_leaves p.us) ∙ ap (λ xs. rs ++ xs) (exact_append bodies (leaves l) (all_leaves p.us)) in
      let goal = exact bodies (leaves p.t) in
      let all_left : IsPermutation (p.shown ++ exact bodies (leaves l ++ (leaves r ++ all_leaves p.us))) goal =
      subst (λ x. IsPermutation (p.shown ++ x) goal) (split ∙ sym to_left) al in
      let all_right : IsPermutation (p.shown ++ exact bodies (leaves r ++ (leaves l ++ all_leaves p.us))) goal =
      subst (λ x. IsPermutation (p.shown ++ x) goal) (sym to_right)
      (IsPermutation-trans (p.shown ++ (rs ++ (ls ++ zs))) (p.shown ++ (ls ++ (rs ++ zs))) goal
      (IsPermutation-append p.shown p.shown (rs ++ (ls ++ zs)) (ls ++ (rs ++ zs)) (IsPermutation-refl p.shown) (swapped ls rs zs))
      (subst (λ x. IsPermutation (p.shown ++ x) goal) split al)) in
      let wl = weight_is l bal.1 in
      let wr = weight_is r bal.2 in
      let less = lighter n h k l r (sym same ∙ kk) in
      let tl = two_weights rest (view_of r) (view_of l) in
      let tr = two_weights rest (view_of l) (view_of r) in
      record {
        room = omega arith;
        left_is = ap is_some view_l;
        right_is = ap is_some view_r;
        left_first = subst (Shows o bodies before now) (sym left_is) (record {
          t = p.t;
          us = l ∷ r ∷ p.us;
          is = p.is;
          is_tree = p.is_tree;
          inside = p.inside;
          stack_is = ap (λ xs. (xs ++ view_of r ∷ []) ++ view_of l ∷ []) p.rest_is;
          low = (grind (arith), (grind (arith), p.low));
          within = (within_l, (within_r, p.within));
          shown = p.shown;
          all = all_left;
          saw = p.saw;
        });
        right_first = subst (Shows o bodies before now) (sym right_is) (record {
          t = p.t;
          us = r ∷ l ∷ p.us;
          is = p.is;
          is_tree = p.is_tree;
          inside = p.inside;
          stack_is = ap (λ xs. (xs ++ view_of l ∷ []) ++ view_of r ∷ []) p.rest_is;
          low = (grind (arith), (grind (arith), p.low));
          within = (within_r, (within_l, p.within));
          shown = p.shown;
          all = all_right;
          saw = p.saw;
        });
        left_lighter = rw left_is (omega arith);
        right_lighter = rw right_is (omega arith);
      }

  pub opened : {left right k : ℕ} {hull : Bounds} → NextShown o bodies before now rest (Inner left right hull k) → Opens o bodies before now rest left right k
  opened p = opened_by p p.u p.node_is p.here (w.within p.t p.u p.here p.is_tree.balanced) p.low_here p.all

-- the start
pub begun : (q : Query) → Laws q → (bodies : List (Option Bounds)) {before : List (ℕ × Bounds) → Type 0} (o : Option Tree) (root : ℕ) (t : Tree) → o ≡ Some t → root ≡ top t
    → IsTree t → IsInside bodies t → Shows o bodies before before (option_to_list (view_in o root))
begun q w bodies {before = before} o root t is at is_tree inside =
    let view : view_in o root ≡ Some (view_of t) = rw at (rw is (w.shown t t (w.itself t) is_tree.apart)) in
    record {
      t = t;
      us = t ∷ [];
      is = is;
      is_tree = is_tree;
      inside = inside;
      stack_is = ap option_to_list view;
      low = ((let l = is_tree.low in omega arith), tt);
      within = (w.itself t, tt);
      shown = [];
      all = subst (λ xs. IsPermutation (exact bodies xs) (exact bodies (leaves t))) (sym (append-nil (leaves t))) (IsPermutation-refl (exact bodies (leaves t)));
      saw = λ seen b. subst before (sym (append-nil seen)) b;
    }

-- the end
pub ended : {o : Option Tree} {bodies : List (Option Bounds)} {before now : List (ℕ × Bounds) → Type 0} → Shows o bodies before now []
    → ((seen other : List (ℕ × Bounds)) → IsPermutation seen other → now seen → now other) → (seen : List (ℕ × Bounds)) → before seen → now (seen ++ exact_in bodies o)
ended {o = o} {bodies = bodies} {before = before} {now = now} s any_order seen b = by_list s.us s.stack_is s.all
  where
    by_list : (us : List Tree) → [] ≡ views us → IsPermutation (s.shown ++ exact bodies (all_leaves us)) (exact bodies (leaves s.t)) → now (seen ++ exact_in bodies o)
    by_list [] st al =
        rw s.is (any_order (seen ++ s.shown) (seen ++ exact bodies (leaves s.t))
        (IsPermutation-append seen seen s.shown (exact bodies (leaves s.t)) (IsPermutation-refl seen)
        (subst (λ l. IsPermutation l (exact bodies (leaves s.t))) (append-nil s.shown) al)) (s.saw seen b))
    by_list (u ∷ us) st al =
        let len : length (views us ++ view_of u ∷ []) ≡ 0 = ap length (sym st) in
        let l = length_push (views us) (view_of u) in
        absurd (omega arith)

pub some_node : (v : NodeView) → 1 ≤ weight v
some_node (LeafNode slot fat) = omega arith
some_node (Inner left right hull k) = some_weight k

-- a stack that is taken from to its end
pub none_left : {R : Type 0} (f : R → NodeView) (xs : List NodeView) (o : Option R) → o ≡ None → xs ≡ [] → xs ++ option_to_list (option_map f o) ≡ []
none_left f xs o e none = ap (λ x. xs ++ option_to_list (option_map f x)) e ∙ ap (λ ys. ys ++ []) none

-- the top of a tree that is there
pub tree_there : (bodies : List (Option Bounds)) (o : Option Tree) (n : ℕ) → option_map top o ≡ Some n → IsTreeIn o → IsInsideIn bodies o
    → (x : Tree) × (o ≡ Some x) × (n ≡ top x) × IsTree x × IsInside bodies x
tree_there bodies None n e s i = cc
tree_there bodies (Some t) n e s i = (t, cc, cc, s, i)
