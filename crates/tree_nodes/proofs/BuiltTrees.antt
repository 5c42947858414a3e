-- Steps of a build: the leaves are halved, each half is built, and both trees come below a node.
use Rattle.std.proofs.Common.{◌≡◌, ℕ, suc, ◌+◌, ◌-◌, ◌/◌, ◌<◌, ◌≤◌, IsSome, List, [], ◌∷◌, ◌++◌, length, length-append, refl, sym, ap}
use Rattle.std.proofs.Common.{◌∙◌, subst, arith, get_or}
use Rattle.std.specs.List.Sorted.{IsPermutation}
use Rattle.std.proofs.lemmas.List.{map-append, length-map}
use Rattle.std.proofs.lemmas.List.Sorted.{IsPermutation-refl, IsPermutation-map, IsPermutation-trans, IsPermutation-append}
use Rattle.std.proofs.lemmas.List.Sorted.{length_permutation, sum_by-IsPermutation}
use Rattle.std.proofs.lemmas.List.Sums.{sum_by-cons, sum_by-append}
use Rattle.slab.specs.Slab.{Slab, get}
use Rattle.tree_nodes.specs.declared.leaf_key.LeafKey.{LeafKey}
use Rattle.tree_nodes.specs.declared.node_view.NodeView.{NodeView}
use Rattle.tree_nodes.specs.Moved.{refitted}
use Rattle.tree_nodes.specs.Rebuilt.{numbers, uses, shown_leaf, shown_leaves, ToBuild, Built}
use Rattle.tree_nodes.specs.Rotation.{Children}
use Rattle.tree_nodes.specs.Stored.{Holds}
use Rattle.tree_nodes.specs.Tree.{Tree, tip, fork, height, leaves, count_of, one}
use Rattle.tree_nodes.proofs.Balance.{refitted_balanced}
use Rattle.tree_nodes.proofs.Frames.{one_same}
use Rattle.tree_nodes.proofs.Halving.{left_near, right_near, enough_above, least_above}
use Rattle.tree_nodes.proofs.Heights.{low}

pub uses_cons : (n : ℕ) (ns : List ℕ) (k : ℕ) → uses (n ∷ ns) k ≡ one n k + uses ns k
uses_cons n ns k = sum_by-cons (λ m. one m k) n ns

pub uses_append : (ns ms : List ℕ) (k : ℕ) → uses (ns ++ ms) k ≡ uses ns k + uses ms k
uses_append ns ms k = sum_by-append (λ m. one m k) ns ms

-- how often a number stands in the parts of the inner nodes
pub uses_parted : (at : ℕ) (li ri : List ℕ) (k : ℕ) → uses (at ∷ (li ++ ri)) k ≡ one at k + (uses li k + uses ri k)
uses_parted at li ri k = let a = uses_cons at (li ++ ri) k in let b = uses_append li ri k in omega (arith, a, b)

permuted : (slab : Slab NodeView) (ns ms inner : List ℕ) → IsPermutation ns ms → ToBuild slab ns inner → ToBuild slab ms inner
permuted slab ns ms inner p b =
    let same : (k : ℕ) → uses ms k ≡ uses ns k = λ k. sum_by-IsPermutation (λ m. one m k) ns ms p in
    let l = length_permutation ns ms p in
    record {
      leaves_there = λ n h. let e = same n in b.leaves_there n (omega (arith, e, h));
      room = b.room;
      apart = λ k. let e = same k in let a = b.apart k in omega (arith, e, a);
      count = let c = b.count in omega (arith, l, c);
      few = let c = b.few in omega (arith, l, c);
    }

-- the leaves in two halves, each with its inner nodes
pub record Halves (slab : Slab NodeView) (ns inner : List ℕ) (at : ℕ) (front back li ri : List ℕ) : Type 0 where
  pub both : ToBuild slab (front ++ back) (at ∷ (li ++ ri))
  pub order : IsPermutation ns (front ++ back)
  pub inner_is : inner ≡ at ∷ (li ++ ri)
  pub fits : length front ≡ length li + 1
  pub least : length front ≤ length back
  pub most : length back ≤ length front + 1

pub halves : (slab : Slab NodeView) (keys divided f b : List LeafKey) (inner : List ℕ) (at : ℕ) (rest li ri : List ℕ) → ToBuild slab (numbers keys) inner
    → IsPermutation keys divided → divided ≡ f ++ b → length f ≡ length keys / 2 → inner ≡ at ∷ rest → rest ≡ li ++ ri → length li ≡ length keys / 2 - 1
    → Halves slab (numbers keys) inner at (numbers f) (numbers b) li ri
halves slab keys divided f b inner at rest li ri w p e half i r l =
    let order : IsPermutation (numbers keys) (numbers f ++ numbers b) =
    subst (IsPermutation (numbers keys)) (map-append (λ (k : LeafKey). k.number) f b)
    (IsPermutation-map (λ (k : LeafKey). k.number) keys (f ++ b) (subst (IsPermutation keys) e p)) in
    let parts : inner ≡ at ∷ (li ++ ri) = i ∙ ap (λ xs. at ∷ xs) r in
    let all : length (f ++ b) ≡ length keys = sym (ap length e) ∙ length_permutation keys divided p in
    let sum : length (f ++ b) ≡ length f + length b = length-append f b in
    let nf : length (numbers f) ≡ length f = length-map f (λ (k : LeafKey). k.number) in
    let nb : length (numbers b) ≡ length b = length-map b (λ (k : LeafKey). k.number) in
    let nk : length (numbers keys) ≡ length keys = length-map keys (λ (k : LeafKey). k.number) in
    let count = w.count in
    let some : length inner ≡ suc (length rest) = ap length i in
    record {
      both = subst (ToBuild slab (numbers f ++ numbers b)) parts (permuted slab (numbers keys) (numbers f ++ numbers b) inner order w);
      order = order;
      inner_is = parts;
      fits = omega (arith, nf, half, l, nk, count, some);
      least = omega (arith, nf, nb, half, all, sum);
      most = omega (arith, nf, nb, half, all, sum);
    }

pub front_ready : {slab : Slab NodeView} {ns inner : List ℕ} {at : ℕ} {front back li ri : List ℕ} → Halves slab ns inner at front back li ri
    → ToBuild slab front li
front_ready {slab} {ns} {inner} {at} {front} {back} {li} {ri} h =
    let w = h.both in
    record {
      leaves_there = λ n u. let a = uses_append front back n in w.leaves_there n (omega (arith, a, u));
      room = λ n u. let a = uses_parted at li ri n in w.room n (omega (arith, a, u));
      apart = λ k. let a = uses_append front back k in let b = uses_parted at li ri k in let c = w.apart k in omega (arith, a, b, c);
      count = h.fits;
      few = let a = w.few in let b = length-append front back in omega (arith, a, b);
    }

-- the second half, once the first is built
pub back_ready : {old : Slab NodeView} {ns inner : List ℕ} {at : ℕ} {front back li ri : List ℕ} → Halves old ns inner at front back li ri
    → (mid : Slab NodeView)
    → ((k : ℕ) → uses li k ≡ 0 → get mid k ≡ get old k) → ((k : ℕ) → IsSome (get old k) → IsSome (get mid k)) → ToBuild mid back ri
back_ready {old} {ns} {inner} {at} {front} {back} {li} {ri} h mid others here =
    let w = h.both in
    record {
      leaves_there = λ n u.
          let a = uses_append front back n in
          let b = uses_parted at li ri n in
          let c = w.apart n in
          let g = w.leaves_there n (omega (arith, a, u)) in
          (g.0, g.1, others n (omega (arith, a, b, c, u)) ∙ g.2);
      room = λ n u. let a = uses_parted at li ri n in here n (w.room n (omega (arith, a, u)));
      apart = λ k. let a = uses_append front back k in let b = uses_parted at li ri k in let c = w.apart k in omega (arith, a, b, c);
      count =
          let a = w.count in
          let b : length (front ++ back) ≡ length front + length back = length-append front back in
          let c : length (li ++ ri) ≡ length li + length ri = length-append li ri in
          let f = h.fits in
          omega (arith, a, b, c, f);
      few = let a = w.few in let b = length-append front back in omega (arith, a, b);
    }

-- what stands where nothing was written still stands
pub unwritten : (old new : Slab NodeView) (t : Tree) → ((k : ℕ) → 1 ≤ count_of t k → get new k ≡ get old k) → Holds old t → Holds new t
unwritten old new (tip n s b) same h = let o : one n n ≡ 1 = one_same n in same n (omega (arith, o)) ∙ h
unwritten old new (fork n hu k l r) same h =
    let o : one n n ≡ 1 = one_same n in (
      same n (omega (arith, o)) ∙ h.0,
      unwritten old new l (λ j u. same j (omega (arith, u))) h.1,
      unwritten old new r (λ j u. same j (omega (arith, u))) h.2,
    )

-- so many leaves
pub many : (old new : Slab NodeView) (at : ℕ) (ns inner : List ℕ) (t : Tree) → Built old new at ns inner t → length (leaves t) ≡ length ns
many old new at ns inner t b = length_permutation (shown_leaves old ns) (leaves t) b.leaves_are ∙ length-map ns (λ n. shown_leaf n (get old n))

-- each half has fewer inner nodes
pub front_fewer : {slab : Slab NodeView} {ns inner : List ℕ} {at : ℕ} {front back li ri : List ℕ} → Halves slab ns inner at front back li ri
    → length li < length inner
front_fewer {slab} {ns} {inner} {at} {front} {back} {li} {ri} h =
    let a : length inner ≡ suc (length (li ++ ri)) = ap length h.inner_is in let b = length-append li ri in omega (arith, a, b)

pub back_fewer : {slab : Slab NodeView} {ns inner : List ℕ} {at : ℕ} {front back li ri : List ℕ} → Halves slab ns inner at front back li ri
    → length ri < length inner
back_fewer {slab} {ns} {inner} {at} {front} {back} {li} {ri} h =
    let a : length inner ≡ suc (length (li ++ ri)) = ap length h.inner_is in let b = length-append li ri in omega (arith, a, b)

-- the two trees may come below the node
pub children_built : {old mid new : Slab NodeView} {ns inner : List ℕ} {at left right : ℕ} {front back li ri : List ℕ} {u v : Tree}
    → Halves old ns inner at front back li ri → Built old mid left front li u → Built mid new right back ri v
    → ((k : ℕ) → uses ri k ≡ 0 → get new k ≡ get mid k)
    → ((k : ℕ) → IsSome (get old k) → IsSome (get mid k)) → ((k : ℕ) → IsSome (get mid k) → IsSome (get new k)) → Children new at left right u v
children_built {old} {mid} {new} {ns} {inner} {at} {left} {right} {front} {back} {li} {ri} {u} {v} h p q others here here2 =
    let w = h.both in
    let all = w.few in
    let sum : length (front ++ back) ≡ length front + length back = length-append front back in
    let mu = many old mid left front li u p in
    let mv = many mid new right back ri v q in
    let hu = low u p.balanced (omega (arith, all, sum, mu)) in
    let hv = low v q.balanced (omega (arith, all, sum, mv)) in
    record {
      room =
          let a = uses_parted at li ri at in
          let o : one at at ≡ 1 = one_same at in
          here2 at (here at (w.room at (omega (arith, a, o))));
      left_kept = record {
        holds = unwritten mid new u
            (λ k used.
            let a = uses_append front back k in
            let b = uses_parted at li ri k in
            let c = w.apart k in
            let d = p.counts_are k in
            others k (omega (arith, a, b, c, d, used))) p.kept.holds;
        is_at = p.kept.is_at;
      };
      right_kept = q.kept;
      apart = λ k.
          let a = uses_append front back k in
          let b = uses_parted at li ri k in
          let c = w.apart k in
          let d = p.counts_are k in
          let e = q.counts_are k in
          omega (arith, a, b, c, d, e);
      left_small = omega (arith, hu);
      right_small = omega (arith, hv);
    }

-- what the numbers show is the same where nothing was written
same_shown : (old new : Slab NodeView) (ns : List ℕ) → ((k : ℕ) → 1 ≤ uses ns k → get new k ≡ get old k) → shown_leaves new ns ≡ shown_leaves old ns
same_shown old new [] same = refl
same_shown old new (n ∷ ns) same =
    let o : one n n ≡ 1 = one_same n in
    let c = uses_cons n ns n in
    ap (λ g. shown_leaf n g ∷ shown_leaves new ns) (same n (omega (arith, o, c)))
    ∙ ap (λ xs. shown_leaf n (get old n) ∷ xs) (same_shown old new ns (λ k u. let d = uses_cons n ns k in same k (omega (arith, d, u))))

pub whole_built : {old mid new : Slab NodeView} {ns inner : List ℕ} {at left right : ℕ} {front back li ri : List ℕ} {u v : Tree}
    → (last : Slab NodeView) → Halves old ns inner at front back li ri → Built old mid left front li u → Built mid new right back ri v
    → ((k : ℕ) → uses li k ≡ 0 → get mid k ≡ get old k) → Holds last (refitted at u v) → Built old last at ns inner (refitted at u v)
whole_built {old} {mid} {new} {ns} {inner} {at} {left} {right} {front} {back} {li} {ri} {u} {v} last h p q others held =
    let w = h.both in
    let sum : length (front ++ back) ≡ length front + length back = length-append front back in
    let all : length (front ++ back) ≡ length ns = length_permutation ns (front ++ back) h.order in
    let some : 1 ≤ length front = let f = h.fits in omega (arith, f) in
    let shown : shown_leaves mid back ≡ shown_leaves old back = same_shown old mid back
    (λ k used.
    let a = uses_append front back k in
    let b = uses_parted at li ri k in
    let c = w.apart k in
    others k (omega (arith, a, b, c, used))) in
    let parts : IsPermutation (shown_leaves old front ++ shown_leaves old back) (leaves u ++ leaves v) =
    IsPermutation-append (shown_leaves old front) (leaves u) (shown_leaves old back) (leaves v) p.leaves_are
    (subst (λ xs. IsPermutation xs (leaves v)) shown q.leaves_are) in
    let order : IsPermutation (shown_leaves old ns) (shown_leaves old front ++ shown_leaves old back) =
    subst (IsPermutation (shown_leaves old ns)) (map-append (λ n. shown_leaf n (get old n)) front back)
    (IsPermutation-map (λ n. shown_leaf n (get old n)) ns (front ++ back) h.order) in
    record {
      kept = record { holds = held; is_at = refl };
      balanced = refitted_balanced at u v p.balanced q.balanced
          (left_near (length front) (length back) (height u) (height v) h.least some p.least q.enough)
          (right_near (length front) (length back) (height u) (height v) h.most some p.enough q.least);
      counts_are = λ k.
          let a : uses (front ++ back) k ≡ uses front k + uses back k = uses_append front back k in
          let b : uses (at ∷ (li ++ ri)) k ≡ one at k + (uses li k + uses ri k) = uses_parted at li ri k in
          let c : uses (front ++ back) k ≡ uses ns k = sum_by-IsPermutation (λ m. one m k) ns (front ++ back) h.order in
          let d = p.counts_are k in
          let e = q.counts_are k in
          let i : uses inner k ≡ uses (at ∷ (li ++ ri)) k = ap (λ xs. uses xs k) h.inner_is in
          omega (arith, a, b, c, d, e, i);
      leaves_are = IsPermutation-trans (shown_leaves old ns) (shown_leaves old front ++ shown_leaves old back) (leaves u ++ leaves v) order parts;
      enough = let e = enough_above (length front) (length back) (height u) (height v) p.enough q.enough in omega (arith, e, sum, all);
      least =
          let e = least_above (length front) (length back) (height u) (height v) h.least h.most some p.least q.least in
          omega (arith, e, sum, all);
    }

-- one leaf is a tree
leaf_built : (slab : Slab NodeView) (ns : List ℕ) (n : ℕ) → ToBuild slab ns [] → ns ≡ n ∷ [] → (t : Tree) × Built slab slab n ns [] t
leaf_built slab ns n w e =
    let o : one n n ≡ 1 = one_same n in
    let c = uses_cons n [] n in
    let u : uses ns n ≡ uses (n ∷ []) n = ap (λ xs. uses xs n) e in
    let g = w.leaves_there n (omega (arith, o, c, u)) in (
      tip n g.0 g.1,
      record {
        kept = record { holds = g.2; is_at = refl };
        balanced = tt;
        counts_are = λ k. let d = uses_cons n [] k in let f : uses ns k ≡ uses (n ∷ []) k = ap (λ xs. uses xs k) e in omega (arith, d, f);
        leaves_are = subst (λ xs. IsPermutation xs (record { node = n; slot = g.0; fat = g.1 } ∷ []))
            (sym (ap (shown_leaves slab) e ∙ ap (λ o. shown_leaf n o ∷ []) g.2)) (IsPermutation-refl _);
        enough = let l : length ns ≡ 1 = ap length e in omega (arith, l);
        least = let l : length ns ≡ 1 = ap length e in omega (arith, l);
      },
    )

-- a key that is alone
alone : (keys : List LeafKey) (inner : List ℕ) (d : LeafKey) → length (numbers keys) ≡ length inner + 1 → length inner < 1
    → numbers keys ≡ (get_or keys 0 d).number ∷ []
alone [] inner d e l = absurd (omega arith)
alone (x ∷ []) inner d e l = refl
alone (x ∷ y ∷ zs) inner d e l = absurd (omega arith)

none : (xs : List ℕ) → length xs < 1 → xs ≡ []
none [] l = refl
none (x ∷ xs) l = absurd (omega arith)

pub leaf_alone : (slab : Slab NodeView) (keys : List LeafKey) (inner : List ℕ) (d : LeafKey) → ToBuild slab (numbers keys) inner → length inner < 1
    → (t : Tree) × Built slab slab (get_or keys 0 d).number (numbers keys) inner t
leaf_alone slab keys inner d w l =
    let e = none inner l in
    subst (λ xs. (t : Tree) × Built slab slab (get_or keys 0 d).number (numbers keys) xs t) (sym e)
    (leaf_built slab (numbers keys) (get_or keys 0 d).number (subst (ToBuild slab (numbers keys)) e w) (alone keys inner d w.count l))

-- what is written elsewhere than at the inner nodes
pub others_built : {old : Slab NodeView} {ns inner : List ℕ} {at : ℕ} {front back li ri : List ℕ} (mid new last : Slab NodeView)
    → Halves old ns inner at front back li ri
    → ((k : ℕ) → uses li k ≡ 0 → get mid k ≡ get old k) → ((k : ℕ) → uses ri k ≡ 0 → get new k ≡ get mid k)
    → ((k : ℕ) → one at k ≡ 0 → get last k ≡ get new k) → (k : ℕ) → uses inner k ≡ 0 → get last k ≡ get old k
others_built {old} {ns} {inner} {at} {front} {back} {li} {ri} mid new last h first second third k none =
    let b = uses_parted at li ri k in
    let i : uses inner k ≡ uses (at ∷ (li ++ ri)) k = ap (λ xs. uses xs k) h.inner_is in
    third k (omega (arith, b, i, none))
    ∙ (second k (omega (arith, b, i, none)) ∙ first k (omega (arith, b, i, none)))
