-- The slab holds what a node of its tree shows.
use Rattle.std.proofs.Common.{◌≡◌, ℕ, true, false, cond, eqb, IsSome, Option, None, Some, refl, ◌∙◌, subst, arith}
use Rattle.std.proofs.lemmas.Bool.Decides.{nat_tests}
use Rattle.slab.specs.Slab.{Slab, get}
use Rattle.tree_nodes.specs.declared.node_view.NodeView.{NodeView}
use Rattle.tree_nodes.specs.Stored.{Holds, SoundIn}
use Rattle.tree_nodes.specs.Tree.{Tree, tip, fork, view_at, view_in, or_else, view_of}

pub or_cases : {A : Type 0} (P : A → Type 0) (x y : Option A) (v : A) → ((u : A) → x ≡ Some u → P u) → ((u : A) → y ≡ Some u → P u) → or_else x y ≡ Some v → P v
or_cases P None y v f g e = g v e
or_cases P (Some u) y v f g e = f v e

pub viewed_in_slab : (slab : Slab NodeView) (t : Tree) (k : ℕ) (v : NodeView) → Holds slab t → view_at t k ≡ Some v → get slab k ≡ Some v
viewed_in_slab slab (tip n s b) k v h e =
    elim (eqb n k) as (λ x. eqb n k ≡ x → cond x (Some (view_of (tip n s b))) None ≡ Some v → get slab k ≡ Some v) [
      | true ↦ λ same e. let at : n ≡ k = grind (arith, nat_tests) in subst (λ m. get slab m ≡ Some v) at (h ∙ e)
      | false ↦ λ _ e. cc
    ] refl e
viewed_in_slab slab (fork n hu j l r) k v h e =
    elim (eqb n k) as (λ x. eqb n k ≡ x → cond x (Some (view_of (fork n hu j l r))) (or_else (view_at l k) (view_at r k)) ≡ Some v → get slab k ≡ Some v) [
      | true ↦ λ same e. let at : n ≡ k = grind (arith, nat_tests) in subst (λ m. get slab m ≡ Some v) at (h.0 ∙ e)
      | false ↦ λ _ e. or_cases (λ u. get slab k ≡ Some u) (view_at l k) (view_at r k) v (λ u e. viewed_in_slab slab l k u h.1 e)
          (λ u e. viewed_in_slab slab r k u h.2 e) e
    ] refl e

pub some_is : {A : Type 0} (x : Option A) → IsSome x → (v : A) × (x ≡ Some v)
some_is None h = cc
some_is (Some v) h = (v, refl)

-- a kept tree under_root its root
pub sound_viewed : (slab : Slab NodeView) (root : Option ℕ) (t : Option Tree) (k : ℕ) (v : NodeView) → SoundIn slab root t → view_in t k ≡ Some v
    → get slab k ≡ Some v
sound_viewed slab None None k v h e = cc
sound_viewed slab None (Some t) k v h e = absurd h.0
sound_viewed slab (Some n) None k v h e = absurd h
sound_viewed slab (Some n) (Some t) k v h e = viewed_in_slab slab t k v h.1.holds e
