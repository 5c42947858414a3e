-- What stands in a list in preorder, and what a search that reads it onwards finds.
use Rattle.std.proofs.Common.{◌≡◌, ℕ, ◌+◌, ◌*◌, ◌^◌, ◌<◌, ◌≤◌, ◌==◌, Bool, true, false, not, cond, Option, None, Some, List, [], ◌∷◌, ◌++◌}
use Rattle.std.proofs.Common.{length, get_or, set, take, ◌-◌, refl, sym, ap, ◌∙◌, subst, arith, append_assoc}
use Rattle.std.specs.Prelude.{count_ones, drop}
use Rattle.std.specs.List.{filter}
use Rattle.std.proofs.lemmas.List.{append-nil, length-append}
use Rattle.std.proofs.lemmas.List.Elements.{filter-append}
use Rattle.fixed_box.specs.Bounds.{Bounds}
use Rattle.broad_index.specs.declared.pair.Pair.{Pair}
use Rattle.broad_index.specs.Touched.{ordered_pairs}
use Rattle.tree_nodes.specs.Tree.{Tree, tip, fork, leaves, Balanced}
use Rattle.tree_search.specs.declared.preorder.ListedNode.{ListedNode}
use Rattle.tree_search.specs.declared.preorder.NodeKind.{NodeKind}
use Rattle.tree_search.specs.declared.preorder.NodeKind.TheVariants.{Leaf as LeafKind, Inner as InnerKind}
use Rattle.tree_search.specs.Looked.{raised}
use Rattle.tree_search.specs.Exact.{entry_of, exact, exact_in, IsInside}
use Rattle.tree_search.specs.Descent.{all_leaves}
use Rattle.tree_search.specs.Group.{undone, picked, left_pairs, all_below, BoxLaws}
use Rattle.tree_search.specs.Crossed.{others_met, crossed}
use Rattle.tree_search.specs.Preorder.{leaf_node, preorder, preorder_in, entry_at, listed}
use Rattle.tree_search.specs.Reading.{all_preorder, AllSound, below_each, IsListed, Reads}
use Rattle.tree_search.proofs.Counts.{raised_again, raised_none}
use Rattle.tree_search.proofs.CrossedPairs.{crossed_append}
use Rattle.tree_search.proofs.Descents.{exact_append}
use Rattle.tree_search.proofs.Groups.{bits_of, none_below, picked_crossed, picked_none, quiet_from, quiet_none, looks_on, take_all}

-- the first node of a list, and those behind it
pub first_node : (rest : List ListedNode) (node : ListedNode) (kind : NodeKind) → 1 ≤ length rest → node ≡ get_or rest 0 node → node.kind ≡ kind
    → rest ≡ record { bounds = node.bounds; kind = kind } ∷ take (length rest - 1) (drop 1 rest)
first_node [] node kind l e ek = absurd (omega arith)
first_node (x ∷ xs) node kind l e ek =
    let fewer : length (x ∷ xs) - 1 ≡ length xs = omega arith in
    ap (λ (y : ListedNode). y ∷ xs) (sym e)
    ∙ ap (λ k. record { bounds = node.bounds; kind = k } ∷ xs) ek
    ∙ ap (λ ys. record { bounds = node.bounds; kind = kind } ∷ ys)
    (sym (ap (λ n. take n xs) fewer ∙ take_all (length xs) xs (omega arith)))

leaf_few : (s : ℕ) (p : Option Bounds) → length (leaf_node s p) ≤ 1
leaf_few s None = omega arith
leaf_few s (Some b) = omega arith

-- There are fewer than twice as many nodes as leaves.
pub preorder_few : (bodies : List (Option Bounds)) (t : Tree) → length (preorder bodies t) + 1 ≤ 2 * length (leaves t)
preorder_few bodies (tip n s f) = let a = leaf_few s (get_or bodies s None) in omega arith
preorder_few bodies (fork n h k l r) =
    let a = preorder_few bodies l in
    let b = preorder_few bodies r in
    let c = length-append (preorder bodies l) (preorder bodies r) in
    let d = length-append (leaves l) (leaves r) in
    omega arith

-- an inner node's own entry, written behind those below it
set_after : (xs ls rs : List ListedNode) (y z : ListedNode) → set (((xs ++ y ∷ []) ++ ls) ++ rs) (length xs) z ≡ xs ++ z ∷ (ls ++ rs)
set_after [] ls rs y z = refl
set_after (x ∷ xs) ls rs y z = ap (λ l. x ∷ l) (set_after xs ls rs y z)

pub inner_listed : (bodies : List (Option Bounds)) (n k place len : ℕ) (h : Bounds) (l r t : Tree) (out pushed one two : List ListedNode)
    (node last : ListedNode) → t ≡ fork n h k l r → pushed ≡ out ++ node ∷ [] → one ≡ pushed ++ preorder bodies l → two ≡ one ++ preorder bodies r
    → place ≡ length out → len ≡ length two → last ≡ record { bounds = h; kind = InnerKind (len - place - 1) }
    → set two place last ≡ out ++ preorder bodies t
inner_listed bodies n k place len h l r t out pushed one two node last is ep e1 e2 eplace elen elast =
    let parts = preorder bodies l ++ preorder bodies r in
    let whole : two ≡ ((out ++ node ∷ []) ++ preorder bodies l) ++ preorder bodies r =
    e2 ∙ ap (λ xs. xs ++ preorder bodies r) (e1 ∙ ap (λ xs. xs ++ preorder bodies l) ep) in
    let size : len - place - 1 ≡ length parts = sizes bodies place len l r out node (eplace) (elen ∙ ap length whole) in
    ap (λ xs. set xs place last) whole
    ∙ ap (λ m. set (((out ++ node ∷ []) ++ preorder bodies l) ++ preorder bodies r) m last) eplace
    ∙ set_after out (preorder bodies l) (preorder bodies r) node last
    ∙ ap (λ x. out ++ x ∷ parts) (elast ∙ ap (λ m. record { bounds = h; kind = InnerKind m }) size)
    ∙ sym (ap (λ u. out ++ preorder bodies u) is)
  where
    sizes : (bodies : List (Option Bounds)) (place len : ℕ) (l r : Tree) (out : List ListedNode) (node : ListedNode) → place ≡ length out
        → len ≡ length (((out ++ node ∷ []) ++ preorder bodies l) ++ preorder bodies r) → len - place - 1 ≡ length (preorder bodies l ++ preorder bodies r)
    sizes bodies place len l r out node ep el =
        let a = length-append ((out ++ node ∷ []) ++ preorder bodies l) (preorder bodies r) in
        let b = length-append (out ++ node ∷ []) (preorder bodies l) in
        let c = length-append out (node ∷ []) in
        let d = length-append (preorder bodies l) (preorder bodies r) in
        omega arith

listed_append : (xs ys : List ListedNode) → listed (xs ++ ys) ≡ listed xs ++ listed ys
listed_append [] ys = refl
listed_append (x ∷ xs) ys =
    ap (λ l. entry_at x.bounds x.kind ++ l) (listed_append xs ys)
    ∙ sym (append_assoc (entry_at x.bounds x.kind) (listed xs) (listed ys))

listed_leaf : (s : ℕ) (p : Option Bounds) → listed (leaf_node s p) ≡ entry_of s p ++ []
listed_leaf s None = refl
listed_leaf s (Some b) = refl

-- The leaves are listed in their order.
listed_preorder : (bodies : List (Option Bounds)) (t : Tree) → listed (preorder bodies t) ≡ exact bodies (leaves t)
listed_preorder bodies (tip n s f) = listed_leaf s (get_or bodies s None)
listed_preorder bodies (fork n h k l r) =
    listed_append (preorder bodies l) (preorder bodies r)
    ∙ ap (λ xs. xs ++ listed (preorder bodies r)) (listed_preorder bodies l)
    ∙ ap (λ ys. exact bodies (leaves l) ++ ys) (listed_preorder bodies r)
    ∙ sym (exact_append bodies (leaves l) (leaves r))

pub listed_in : (bodies : List (Option Bounds)) (o : Option Tree) → listed (preorder_in bodies o) ≡ exact_in bodies o
listed_in bodies None = refl
listed_in bodies (Some t) = listed_preorder bodies t

undone_append : (done : List Bool) (xs ys : List (ℕ × Bounds)) → undone done (xs ++ ys) ≡ undone done xs ++ undone done ys
undone_append done xs ys = filter-append (λ (e : ℕ × Bounds). not (get_or done e.0 false)) xs ys

-- a slot is not done, or it is and adds nothing
undone_one : (es : List (ℕ × Bounds)) (done : List Bool) (slot mask : ℕ) (b : Bounds) → mask ≡ bits_of b es
    → left_pairs done slot mask es ≡ crossed es (undone done ((slot, b) ∷ []))
undone_one es done slot mask b em =
    elim (get_or done slot false) as
    (λ d. cond d [] (ordered_pairs slot (filter (λ s. not (s == slot)) (picked mask es))) ≡ crossed es (cond (not d) ((slot, b) ∷ []) [])) [
      | true ↦ refl
      | false ↦ picked_crossed es slot mask b em
    ]

-- and with no bit set there is no pair
pub no_pairs : (done : List Bool) (slot : ℕ) (es : List (ℕ × Bounds)) → left_pairs done slot 0 es ≡ []
no_pairs done slot es =
    ap (λ ks. cond (get_or done slot false) [] (ordered_pairs slot (filter (λ s. not (s == slot)) ks))) (picked_none es)
    ∙ (elim (get_or done slot false) as (λ d. cond {A = List Pair} d [] [] ≡ []) [ true ↦ refl | false ↦ refl ])

-- Where no pair is found, none is found among fewer.
undone_none : (es : List (ℕ × Bounds)) (done : List Bool) (xs : List (ℕ × Bounds)) → crossed es xs ≡ [] → crossed es (undone done xs) ≡ []
undone_none es done [] e = refl
undone_none es done (x ∷ xs) e =
    let first = left_none (ordered_pairs x.0 (others_met es x)) (crossed es xs) e in
    let rest = undone_none es done xs (right_none (ordered_pairs x.0 (others_met es x)) (crossed es xs) e) in
    elim (get_or done x.0 false) as (λ d. crossed es (cond (not d) (x ∷ undone done xs) (undone done xs)) ≡ []) [
      | true ↦ rest
      | false ↦ ap (λ ps. ps ++ crossed es (undone done xs)) first ∙ rest
    ]
  where
    left_none : (ps qs : List Pair) → ps ++ qs ≡ [] → ps ≡ []
    left_none [] qs h = refl
    left_none (p ∷ ps) qs h = cc

    right_none : (ps qs : List Pair) → ps ++ qs ≡ [] → qs ≡ []
    right_none [] qs h = h
    right_none (p ∷ ps) qs h = cc

-- What a search that reads on comes to next.

-- a leaf, before the trees that come after it
record AtLeaf (bodies : List (Option Bounds)) (us : List Tree) (slot : ℕ) (b : Bounds) (more : List ListedNode) : Type 0 where
  vs : List Tree
  more_is : more ≡ all_preorder bodies vs
  sound : AllSound bodies vs
  exact_is : exact bodies (all_leaves us) ≡ (slot, b) ∷ exact bodies (all_leaves vs)
  below_is : (es : List (ℕ × Bounds)) → below_each us es ≡ below_each vs es

-- or an inner node, before what stands below it and those trees
record AtInner (bodies : List (Option Bounds)) (us : List Tree) (h : Bounds) (below : ℕ) (more : List ListedNode) : Type 0 where
  n : ℕ
  k : ℕ
  l : Tree
  r : Tree
  vs : List Tree
  more_is : more ≡ (preorder bodies l ++ preorder bodies r) ++ all_preorder bodies vs
  below_len : below ≡ length (preorder bodies l ++ preorder bodies r)
  balanced : Balanced (fork n h k l r)
  inside : IsInside bodies (fork n h k l r)
  sound : AllSound bodies vs
  exact_is : exact bodies (all_leaves us) ≡ exact bodies (leaves (fork n h k l r)) ++ exact bodies (all_leaves vs)
  below_is : (es : List (ℕ × Bounds)) → below_each us es ≡ all_below (fork n h k l r) es + below_each vs es

head_same : (x y : ListedNode) (xs ys : List ListedNode) → x ∷ xs ≡ y ∷ ys → x ≡ y
head_same x y xs ys e = cc

slot_same : (a b : ℕ) → LeafKind a ≡ LeafKind b → b ≡ a
slot_same a b e = cc

below_same : (a b : ℕ) → InnerKind a ≡ InnerKind b → a ≡ b
below_same a b e = cc

kinds_apart : (n s : ℕ) → InnerKind n ≡ LeafKind s → ⊥
kinds_apart n s e = cc

module _ (bodies : List (Option Bounds)) where
  -- a leaf whose slot has no box is passed by
  past_none : (n s : ℕ) (f : Bounds) (us : List Tree) → get_or bodies s None ≡ None → exact bodies (all_leaves (tip n s f ∷ us)) ≡ exact bodies (all_leaves us)
  past_none n s f us e = ap (λ p. entry_of s p ++ exact bodies (all_leaves us)) e

  below_tip : (n s : ℕ) (f : Bounds) (us : List Tree) (es : List (ℕ × Bounds)) → below_each (tip n s f ∷ us) es ≡ below_each us es
  below_tip n s f us es = let a = none_below n s f es in omega arith

  leaf_first : (us : List Tree) (slot : ℕ) (b : Bounds) (more : List ListedNode) → AllSound bodies us
      → record { bounds = b; kind = LeafKind slot } ∷ more ≡ all_preorder bodies us → AtLeaf bodies us slot b more
  leaf_first [] slot b more sound e = cc
  leaf_first (fork n h k l r ∷ us) slot b more sound e =
      let parts = preorder bodies l ++ preorder bodies r in
      let first = head_same (record { bounds = b; kind = LeafKind slot }) (record { bounds = h; kind = InnerKind (length parts) }) more
      (parts ++ all_preorder bodies us) e in
      absurd (kinds_apart (length parts) slot (sym (ap (λ (x : ListedNode). x.kind) first)))
  leaf_first (tip n s f ∷ us) slot b more sound e = by_body (leaf_first us slot b more sound.1) (get_or bodies s None) refl e
    where
      by_body : (record { bounds = b; kind = LeafKind slot } ∷ more ≡ all_preorder bodies us → AtLeaf bodies us slot b more) → (p : Option Bounds)
          → get_or bodies s None ≡ p → record { bounds = b; kind = LeafKind slot } ∷ more ≡ leaf_node s p ++ all_preorder bodies us
          → AtLeaf bodies (tip n s f ∷ us) slot b more
      by_body later None none h =
          let rest = later h in
          record {
            vs = rest.vs;
            more_is = rest.more_is;
            sound = rest.sound;
            exact_is = past_none n s f us none ∙ rest.exact_is;
            below_is = λ es. below_tip n s f us es ∙ rest.below_is es;
          }
      by_body later (Some c) some h =
          let first = head_same (record { bounds = b; kind = LeafKind slot }) (record { bounds = c; kind = LeafKind s }) more (all_preorder bodies us) h in
          let same_slot = slot_same slot s (ap (λ (x : ListedNode). x.kind) first) in
          let same_box : c ≡ b = sym (ap (λ (x : ListedNode). x.bounds) first) in
          record {
            vs = us;
            more_is = cc;
            sound = sound.1;
            exact_is = ap (λ p. entry_of s p ++ exact bodies (all_leaves us)) some
                ∙ ap (λ k. (k, c) ∷ exact bodies (all_leaves us)) same_slot ∙ ap (λ d. (slot, d) ∷ exact bodies (all_leaves us)) same_box;
            below_is = below_tip n s f us;
          }

  inner_first : (us : List Tree) (h : Bounds) (below : ℕ) (more : List ListedNode) → AllSound bodies us
      → record { bounds = h; kind = InnerKind below } ∷ more ≡ all_preorder bodies us → AtInner bodies us h below more
  inner_first [] h below more sound e = cc
  inner_first (tip n s f ∷ us) h below more sound e = by_body (inner_first us h below more sound.1) (get_or bodies s None) refl e
    where
      by_body : (record { bounds = h; kind = InnerKind below } ∷ more ≡ all_preorder bodies us → AtInner bodies us h below more) → (p : Option Bounds)
          → get_or bodies s None ≡ p → record { bounds = h; kind = InnerKind below } ∷ more ≡ leaf_node s p ++ all_preorder bodies us
          → AtInner bodies (tip n s f ∷ us) h below more
      by_body later None none i =
          let rest = later i in
          record {
            n = rest.n;
            k = rest.k;
            l = rest.l;
            r = rest.r;
            vs = rest.vs;
            more_is = rest.more_is;
            below_len = rest.below_len;
            balanced = rest.balanced;
            inside = rest.inside;
            sound = rest.sound;
            exact_is = past_none n s f us none ∙ rest.exact_is;
            below_is = λ es. below_tip n s f us es ∙ rest.below_is es;
          }
      by_body later (Some c) some i =
          let first = head_same (record { bounds = h; kind = InnerKind below }) (record { bounds = c; kind = LeafKind s }) more (all_preorder bodies us) i in
          absurd (kinds_apart below s (ap (λ (x : ListedNode). x.kind) first))
  inner_first (fork n g k l r ∷ us) h below more sound e =
      let parts = preorder bodies l ++ preorder bodies r in
      let first = head_same (record { bounds = h; kind = InnerKind below }) (record { bounds = g; kind = InnerKind (length parts) }) more
      (parts ++ all_preorder bodies us) e in
      let same_hull : g ≡ h = sym (ap (λ (x : ListedNode). x.bounds) first) in
      record {
        n = n;
        k = k;
        l = l;
        r = r;
        vs = us;
        more_is = cc;
        below_len = below_same below (length parts) (ap (λ (x : ListedNode). x.kind) first);
        balanced = subst (λ b. Balanced (fork n b k l r)) same_hull sound.0.0;
        inside = sound.0.1;
        sound = sound.1;
        exact_is = exact_append bodies (leaves l ++ leaves r) (all_leaves us);
        below_is = λ es. ap (λ b. all_below (fork n b k l r) es + below_each us es) same_hull;
      }

  -- Where the list has ended, no tree is left with anything to find.
  ended : (us : List Tree) → all_preorder bodies us ≡ [] → (exact bodies (all_leaves us) ≡ []) × ((es : List (ℕ × Bounds)) → below_each us es ≡ 0)
  ended [] e = (refl, λ es. refl)
  ended (fork n h k l r ∷ us) e = cc
  ended (tip n s f ∷ us) e = by_body (ended us) (get_or bodies s None) refl e
    where
      by_body : (all_preorder bodies us ≡ [] → (exact bodies (all_leaves us) ≡ []) × ((es : List (ℕ × Bounds)) → below_each us es ≡ 0))
          → (p : Option Bounds) → get_or bodies s None ≡ p → leaf_node s p ++ all_preorder bodies us ≡ []
          → (exact bodies (all_leaves (tip n s f ∷ us)) ≡ []) × ((es : List (ℕ × Bounds)) → below_each (tip n s f ∷ us) es ≡ 0)
      by_body later None none h =
          let rest = later h in
          (past_none n s f us none ∙ rest.0, λ es. below_tip n s f us es ∙ rest.1 es)
      by_body later (Some c) some h = cc

drop_past : {X : Type 0} (xs ys : List X) → drop (length xs) (xs ++ ys) ≡ ys
drop_past [] ys = refl
drop_past (x ∷ xs) ys = drop_past xs ys

module _ (bodies : List (Option Bounds)) (t : Tree) (done : List Bool) (group : List (ℕ × Bounds)) where
  abbrev crosses : List (ℕ × Bounds) → List Pair
  crosses es = crossed group (undone done es)

  crosses_append : (xs ys : List (ℕ × Bounds)) → crosses (xs ++ ys) ≡ crosses xs ++ crosses ys
  crosses_append xs ys = ap (crossed group) (undone_append done xs ys) ∙ crossed_append group (undone done xs) (undone done ys)

  pub reads_first : (list : List ListedNode) (before : List Pair) (looked : ℕ) → IsListed bodies t list
      → Reads bodies t done group list before before looked looked
  reads_first list before looked i = record {
    us = t ∷ [];
    rest_is = i.list_is ∙ sym (append-nil (preorder bodies t));
    sound = ((i.balanced, i.inside), tt);
    found_is = ap (λ xs. before ++ crosses (exact bodies xs)) (append-nil (leaves t));
    count_is = ap (raised looked) (omega arith);
  }

  pub reads_last : (rest : List ListedNode) (before now : List Pair) (looked number : ℕ) → rest ≡ [] → number < 2 ^ 64
      → Reads bodies t done group rest before now looked number
      → (now ≡ before ++ crosses (exact bodies (leaves t))) × (number ≡ raised looked (all_below t group))
  reads_last rest before now looked number none fits i =
      let over = ended bodies i.us (sym i.rest_is ∙ none) in (
        sym (ap (λ es. now ++ crosses es) over.0 ∙ append-nil now) ∙ i.found_is,
        sym (ap (raised number) (over.1 group) ∙ raised_none number fits) ∙ i.count_is,
      )

  pub reads_leaf : (more : List ListedNode) (slot mask : ℕ) (b : Bounds) (before now new : List Pair) (looked number : ℕ)
      → mask ≡ bits_of b group → new ≡ now ++ left_pairs done slot mask group
      → Reads bodies t done group (record { bounds = b; kind = LeafKind slot } ∷ more) before now looked number
      → Reads bodies t done group more before new looked number
  reads_leaf more slot mask b before now new looked number em en i =
      let a = leaf_first bodies i.us slot b more i.sound i.rest_is in
      record {
        us = a.vs;
        rest_is = a.more_is;
        sound = a.sound;
        found_is = ap (λ ps. ps ++ crosses (exact bodies (all_leaves a.vs))) (en ∙ ap (λ ps. now ++ ps) (undone_one group done slot mask b em))
            ∙ append_assoc now (crosses ((slot, b) ∷ [])) (crosses (exact bodies (all_leaves a.vs)))
            ∙ ap (λ ps. now ++ ps) (sym (crosses_append ((slot, b) ∷ []) (exact bodies (all_leaves a.vs))))
            ∙ ap (λ es. now ++ crosses es) (sym a.exact_is)
            ∙ i.found_is;
        count_is = ap (raised number) (sym (a.below_is group)) ∙ i.count_is;
      }

  module _ (w : BoxLaws) where
    -- a hull that none meets: what stands below it is jumped over
    pub reads_over : (more : List ListedNode) (below mask : ℕ) (h : Bounds) (before now : List Pair) (looked number : ℕ)
        → mask ≡ bits_of h group → mask ≡ 0
        → Reads bodies t done group (record { bounds = h; kind = InnerKind below } ∷ more) before now looked number
        → Reads bodies t done group (drop below more) before now looked number
    reads_over more below mask h before now looked number em z i =
        let a = inner_first bodies i.us h below more i.sound i.rest_is in
        let none = quiet_none w bodies group (fork a.n h a.k a.l a.r) a.balanced a.inside (quiet_from h group (sym em ∙ z)) in
        let parts = preorder bodies a.l ++ preorder bodies a.r in
        record {
          us = a.vs;
          rest_is = ap (λ n. drop n more) a.below_len ∙ ap (drop (length parts)) a.more_is ∙ drop_past parts (all_preorder bodies a.vs);
          sound = a.sound;
          found_is = ap (λ ps. now ++ (ps ++ crosses (exact bodies (all_leaves a.vs))))
              (sym (undone_none group done (exact bodies (leaves (fork a.n h a.k a.l a.r))) none.0))
              ∙ ap (λ ps. now ++ ps) (sym (crosses_append (exact bodies (leaves (fork a.n h a.k a.l a.r))) (exact bodies (all_leaves a.vs))))
              ∙ ap (λ es. now ++ crosses es) (sym a.exact_is)
              ∙ i.found_is;
          count_is = ap (raised number) (let all = a.below_is group in let here = none.1 in omega arith) ∙ i.count_is;
        }

    -- a hull that some meet: each of these looks at both children
    pub reads_in : (more : List ListedNode) (below mask ones : ℕ) (h : Bounds) (before now : List Pair) (looked number new : ℕ)
        → mask ≡ bits_of h group → ones ≡ count_ones mask → new ≡ raised number (2 * ones)
        → Reads bodies t done group (record { bounds = h; kind = InnerKind below } ∷ more) before now looked number
        → Reads bodies t done group more before now looked new
    reads_in more below mask ones h before now looked number new em eo en i =
        let a = inner_first bodies i.us h below more i.sound i.rest_is in
        let rest = below_each a.vs group in
        let looks = looks_on w group a.n a.k mask ones h a.l a.r (fork a.n h a.k a.l a.r) refl a.balanced.0 em eo in
        record {
          us = a.l ∷ a.r ∷ a.vs;
          rest_is = a.more_is ∙ append_assoc (preorder bodies a.l) (preorder bodies a.r) (all_preorder bodies a.vs);
          sound = ((a.balanced.1, a.inside.0), ((a.balanced.2, a.inside.1), a.sound));
          found_is = ap (λ xs. now ++ crosses (exact bodies xs)) (sym (append_assoc (leaves a.l) (leaves a.r) (all_leaves a.vs)))
              ∙ ap (λ es. now ++ crosses es) (exact_append bodies (leaves a.l ++ leaves a.r) (all_leaves a.vs))
              ∙ ap (λ es. now ++ crosses es) (sym a.exact_is)
              ∙ i.found_is;
          count_is = ap (λ m. raised m (all_below a.l group + (all_below a.r group + rest))) en
              ∙ raised_again number (2 * ones) (all_below a.l group + (all_below a.r group + rest))
              ∙ ap (raised number) (sym (a.below_is group ∙ ap (λ m. m + rest) looks ∙ omega arith))
              ∙ i.count_is;
        }
