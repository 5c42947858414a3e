-- A write elsewhere leaves a tree as it stands.
use Rattle.std.proofs.Common.{◌≡◌, ◌≢◌, ℕ, ◌+◌, ◌≤◌, true, false, cond, eqb, refl, ◌∙◌, subst, arith, inl, inr, ⊎_elim, ◌⊎◌}
use Rattle.std.proofs.lemmas.Bool.Decides.{nat_tests}
use Rattle.slab.specs.Slab.{Slab, get}
use Rattle.tree_nodes.specs.declared.node_view.NodeView.{NodeView}
use Rattle.tree_nodes.specs.Moved.{refitted}
use Rattle.tree_nodes.specs.Stored.{Holds, KeepsKeys, Writes}
use Rattle.tree_nodes.specs.Tree.{Tree, tip, fork, top, count_of, one}

pub one_same : (n : ℕ) → one n n ≡ 1
one_same n = let e : eqb n n ≡ true = grind (arith, nat_tests) in rw e refl

pub one_apart : (n k : ℕ) → one n k ≡ 0 → n ≢ k
one_apart n k none same = let e : one n k ≡ 1 = subst (λ x. one n x ≡ 1) same (one_same n) in absurd (omega arith)

pub one_cases : (n k : ℕ) → (n ≡ k) ⊎ (one n k ≡ 0)
one_cases n k =
    elim (eqb n k) as (λ b. eqb n k ≡ b → (n ≡ k) ⊎ (◌≡◌ {A = ℕ} (cond b 1 0) 0))
    [ true ↦ λ e. inl (let s : n ≡ k = grind (arith, nat_tests) in s) | false ↦ λ e. inr refl ] refl

-- a number that a tree has isn't one that it doesn't have
pub one_free : (n : ℕ) (t : Tree) (k : ℕ) → count_of t n ≡ 0 → 1 ≤ count_of t k → one n k ≡ 0
one_free n t k none used =
    ⊎_elim (λ e. let z : count_of t k ≡ 0 = subst (λ x. count_of t x ≡ 0) e none in absurd (omega arith)) (λ z. z) (one_cases n k)

pub frame : (old new : Slab NodeView) (at : ℕ) → ((k : ℕ) → k ≢ at → get new k ≡ get old k) → (t : Tree) → count_of t at ≡ 0 → Holds old t → Holds new t
frame old new at kept (tip n s b) free h = kept n (one_apart n at free) ∙ h
frame old new at kept (fork n hu k l r) free h =
    (kept n (one_apart n at (omega arith)) ∙ h.0, frame old new at kept l (omega arith) h.1, frame old new at kept r (omega arith) h.2)

-- a tree that has none of the keys stays
pub elsewhere_held : (old new : Slab NodeView) (keys : ℕ → ℕ) → Writes old new keys → (t : Tree) → ((k : ℕ) → 1 ≤ count_of t k → keys k ≡ 0)
    → Holds old t → Holds new t
elsewhere_held old new keys w (tip n s b) free h = w.others n (free n (let o = one_same n in omega arith)) ∙ h
elsewhere_held old new keys w (fork n hu k l r) free h = (
  w.others n (free n (let o = one_same n in omega arith)) ∙ h.0,
  elsewhere_held old new keys w l (λ j u. free j (omega arith)) h.1,
  elsewhere_held old new keys w r (λ j u. free j (omega arith)) h.2,
)

-- a tree that shares no key with another, below which all is written
pub apart_held : (old new : Slab NodeView) (keys : ℕ → ℕ) → Writes old new keys → (t : Tree) → ((k : ℕ) → keys k + count_of t k ≤ 1) → Holds old t → Holds new t
apart_held old new keys w t free h = elsewhere_held old new keys w t (λ k u. let f = free k in omega arith) h

-- the node at the top is one of the tree's
pub top_free : (t : Tree) (k : ℕ) → count_of t k ≡ 0 → one (top t) k ≡ 0
top_free (tip n s b) k none = none
top_free (fork n hu j l r) k none = omega arith

pub keys_kept : (old mid new : Slab NodeView) → KeepsKeys old mid → KeepsKeys mid new → KeepsKeys old new
keys_kept old mid new a b = record { here = λ k some. b.here k (a.here k some); len = b.len ∙ a.len }

-- one write after another
pub writes_both : (old mid new : Slab NodeView) (first second keys : ℕ → ℕ) → Writes old mid first → Writes mid new second
    → ((k : ℕ) → keys k ≡ 0 → (first k ≡ 0) × (second k ≡ 0)) → Writes old new keys
writes_both old mid new first second keys a b free = record {
  others = λ k none. let z = free k none in b.others k z.1 ∙ a.others k z.0;
  kept = keys_kept old mid new a.kept b.kept;
}

-- fewer keys than may be written
pub writes_fewer : (old new : Slab NodeView) (some keys : ℕ → ℕ) → Writes old new some → ((k : ℕ) → keys k ≡ 0 → some k ≡ 0) → Writes old new keys
writes_fewer old new some keys w free = record { others = λ k none. w.others k (free k none); kept = w.kept }

pub writes_none : (slab : Slab NodeView) (keys : ℕ → ℕ) → Writes slab slab keys
writes_none slab keys = record { others = λ k none. refl; kept = record { here = λ k some. some; len = refl } }

pub refitted_free : (at : ℕ) (l r : Tree) → ((k : ℕ) → count_of (refitted at l r) k ≤ 1) → (count_of l at ≡ 0) × (count_of r at ≡ 0)
refitted_free at l r apart =
    let h : one at at + (count_of l at + count_of r at) ≤ 1 = apart at in
    let e : one at at ≡ 1 = one_same at in
    (omega arith, omega arith)
