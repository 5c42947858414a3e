-- Links of a list: what single writes change, what stands at the ends, and the list that they keep.
use Rattle.std.proofs.Common.{◌≡◌, ℕ, zero, suc, ◌+◌, ◌<◌, ◌≤◌, List, [], ◌∷◌, ◌++◌, length, get_or}
use Rattle.std.proofs.Common.{not, eqb, refl, sym, ap, ◌∙◌, subst, arith, true, eq-eqb, ne_eqb, lt-ltb, inl, inr}
use Rattle.std.proofs.lemmas.Bool.{cases_eq, cases_Bool}
use Rattle.endpoint_list.specs.declared.TheConstants.{NODES}
use Rattle.endpoint_list.specs.NodeList.{has, first_of, last_of, IsNodeList}
use Rattle.slot_lists.specs.Links.{Fresh, Distinct, Below, Links}
use Rattle.slot_lists.specs.LinkLaws.{Distinct-apart, Distinct-without, Below-left, Below-right, Below-weaker, length-le, before_end, Links-left, Links-right}
use Rattle.endpoint_list.specs.Links.{walk, listed, neighbour, AreLinked}
use Rattle.endpoint_list.proofs.NodeLemmas.{has_fresh, node_list}

pub before_end_below : (N P : List ℕ) (u : ℕ) (xs : List ℕ) (e n : ℕ) → Links N P u xs e → u < n → Below n xs → get_or P e 0 < n
before_end_below N P u [] e n l un b = rw l.1 un
before_end_below N P u (x ∷ xs) e n l un b = before_end_below N P x xs e n l.2 b.0 b.1

pub after_below : (N P : List ℕ) (u : ℕ) (xs : List ℕ) (e n : ℕ) → Links N P u xs e → e < n → Below n xs → get_or N u 0 < n
after_below N P u [] e n l en b = rw l.0 en
after_below N P u (x ∷ xs) e n l en b = rw l.0 b.0

-- what stands before the end is none of the later ones
pub before_end_fresh : (N P : List ℕ) (u : ℕ) (xs : List ℕ) (e : ℕ) (ws : List ℕ) → Links N P u xs e → Below u ws → Distinct (xs ++ ws)
    → Fresh (get_or P e 0) ws
before_end_fresh N P u xs e [] l b d = tt
before_end_fresh N P u xs e (w ∷ ws) l b d =
    (before_end N P u xs e w l (λ q. absurd (omega arith)) (Distinct-apart xs w ws d), before_end_fresh N P u xs e ws l b.1 (Distinct-without xs w ws d))

-- what stands after the start is none of the earlier ones
pub after_start_fresh : (N P : List ℕ) (u : ℕ) (xs : List ℕ) (e : ℕ) (ws : List ℕ) → Links N P u xs e → Fresh e ws → Distinct (ws ++ xs)
    → Fresh (get_or N u 0) ws
after_start_fresh N P u [] e ws l f d = rw l.0 f
after_start_fresh N P u (x ∷ xs) e ws l f d = rw l.0 (Distinct-apart ws x xs d)

-- ---- the list that is kept

walk_is : (N P : List ℕ) (u : ℕ) (xs : List ℕ) (n : ℕ) → Links N P u xs NODES → Below NODES xs → length xs ≤ n → walk N n (get_or N u 0) ≡ xs
unfolding walk
walk_is N P u [] zero l b le = refl
walk_is N P u [] (suc n) l b le = rw l.0 refl
walk_is N P u (x ∷ xs) zero l b le = absurd (omega arith)
walk_is N P u (x ∷ xs) (suc n) l b le = rw (l.0, lt-ltb x NODES b.0, walk_is N P x xs n l.2 b.1 (omega arith)) refl

pub listed_is : (N P xs : List ℕ) → AreLinked N P xs → listed N ≡ xs
listed_is N P xs k = walk_is N P NODES xs NODES k.linked k.below (length-le NODES xs k.distinct k.below)

-- links that were computed from others keep what these do
pub kept : (M N Q P xs : List ℕ) → M ≡ N → Q ≡ P → AreLinked N P xs → AreLinked M Q (listed M)
kept M N Q P xs m q k = rw (m, q, listed_is N P xs k) k

pub seen : (M N P xs : List ℕ) → M ≡ N → AreLinked N P xs → listed M ≡ xs
seen M N P xs m k = ap listed m ∙ listed_is N P xs k

pub seen_list : (M N P xs : List ℕ) → M ≡ N → AreLinked N P xs → IsNodeList (listed M)
seen_list M N P xs m k = subst IsNodeList (sym (seen M N P xs m k)) (node_list N P xs k)

-- ---- reads

next_below : (N P : List ℕ) (u : ℕ) (xs : List ℕ) (e k n : ℕ) → Links N P u xs e → has k xs ≡ true → e < n → Below n xs → get_or N k 0 < n
next_below N P u [] e k n l h en b = absurd (cc)
next_below N P u (x ∷ xs) e k n l h en b =
    elim (cases_eq x k) [
      | inl same ↦ subst (λ i. get_or N i 0 < n) same (after_below N P x xs e n l.2 en b.1)
      | inr o ↦ next_below N P x xs e k n l.2 (rw (ne_eqb x k o) at h) en b.1
    ]

pub has_read : (N P xs : List ℕ) (k : ℕ) → AreLinked N P xs → k < NODES → not (eqb (get_or N k 0) (NODES + 1)) ≡ has k xs
has_read N P xs k h lt =
    elim (cases_Bool (has k xs)) [
      | inl there ↦
          let near : get_or N k 0 < NODES + 1 =
          next_below N P NODES xs NODES k (NODES + 1) h.linked there (omega arith) (Below-weaker NODES (NODES + 1) xs (omega arith) h.below) in
          rw (ne_eqb (get_or N k 0) (NODES + 1) (λ e. absurd (omega arith)), there) refl
      | inr none ↦ rw (eq-eqb (get_or N k 0) (NODES + 1) (h.absent k lt (has_fresh k xs none)), none) refl
    ]

-- what stands behind u is the first of these
pub first_read : (N P : List ℕ) (u : ℕ) (xs : List ℕ) → Links N P u xs NODES → Below NODES xs → neighbour (get_or N u 0) ≡ first_of xs
first_read N P u [] l b = rw l.0 refl
first_read N P u (x ∷ xs) l b = rw (l.0, ne_eqb x NODES (λ e. absurd (omega (arith, b.0)))) refl

-- what stands before e is the last of these
pub last_read : (N P : List ℕ) (xs : List ℕ) (e : ℕ) → Links N P NODES xs e → Below NODES xs → neighbour (get_or P e 0) ≡ last_of xs
last_read N P [] e l b = rw l.1 refl
last_read N P (x ∷ xs) e l b = later NODES x xs l b
  where
    later : (u x : ℕ) (xs : List ℕ) → Links N P u (x ∷ xs) e → Below NODES (x ∷ xs) → neighbour (get_or P e 0) ≡ last_of (x ∷ xs)
    later u x [] l b = rw (l.2.1, ne_eqb x NODES (λ e. absurd (omega (arith, b.0)))) refl
    later u x (y ∷ ys) l b = later x y ys l.2 b.1

-- a node of the list, and its neighbours
pub record IsBeside (N P : List ℕ) (node : ℕ) : Type 0 where
  pub small : node < NODES
  pub before : get_or P node 0 ≤ NODES
  pub after : get_or N node 0 ≤ NODES

pub beside : (N P ys : List ℕ) (node : ℕ) (zs : List ℕ) → AreLinked N P (ys ++ node ∷ zs) → IsBeside N P node
beside N P ys node zs k =
    let wide : (xs : List ℕ) → Below NODES xs → Below (NODES + 1) xs = λ xs b. Below-weaker NODES (NODES + 1) xs (omega arith) b in
    let left = Links-left N P NODES ys node zs NODES k.linked in
    let right = Links-right N P NODES ys node zs NODES k.linked in
    let below = Below-right NODES ys (node ∷ zs) k.below in
    record {
      small = below.0;
      before = omega (arith, before_end_below N P NODES ys node (NODES + 1) left (omega arith) (wide ys (Below-left NODES ys (node ∷ zs) k.below)));
      after = omega (arith, after_below N P node zs NODES (NODES + 1) right (omega arith) (wide zs below.1));
    }
