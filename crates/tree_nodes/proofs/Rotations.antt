-- Three trees come below two nodes.
use Rattle.std.proofs.Common.{◌≡◌, ℕ, ◌+◌, ◌≤◌, max, nat_lt, true, false, cond, Some, IsSome, refl, sym, subst, arith}
use Rattle.slab.specs.Slab.{Slab, get}
use Rattle.fixed_box.specs.Bounds.{Bounds}
use Rattle.tree_nodes.specs.declared.node_view.NodeView.{NodeView}
use Rattle.tree_nodes.specs.declared.node_view.NodeView.TheVariants.{Inner}
use Rattle.tree_nodes.specs.Moved.{refitted}
use Rattle.tree_nodes.specs.Rotation.{Children, FitsByte, RotationParts, rotated, lower, higher}
use Rattle.tree_nodes.specs.Stored.{Holds, StandsAt, Writes}
use Rattle.tree_nodes.specs.Tree.{Tree, tip, fork, top, count_of, one, height, Balanced}
use Rattle.tree_nodes.proofs.Frames.{one_same, one_free, elsewhere_held}

-- the tree that stays does not use the node that is written first
pub mid_free : (high at : ℕ) (l f g : Tree) → ((k : ℕ) → count_of (rotated high at l f g) k ≤ 1) → count_of g at ≡ 0
mid_free high at l f g apart =
    let h : one high at + ((one at at + (count_of l at + count_of f at)) + count_of g at) ≤ 1 = apart at in
    let e : one at at ≡ 1 = one_same at in
    omega arith

-- what an inner node shows
pub split : (slab : Slab NodeView) (at left right k : ℕ) (hu : Bounds) (h : Tree) → StandsAt slab at h → get slab at ≡ Some (Inner left right hu k)
    → (f : Tree) × (g : Tree) × (h ≡ fork at hu k f g) × (top f ≡ left) × (top g ≡ right)
split slab at left right k hu (tip n s b) p e = let q = p.holds in let m : n ≡ at = p.is_at in cc
split slab at left right k hu (fork n hv j f g) p e =
    let q = p.holds.0 in
    let m : n ≡ at = p.is_at in
    let same : Inner (top f) (top g) hv j ≡ Inner left right hu k = cc in
    (f, g, cc, cc, cc)

pub three : (slab : Slab NodeView) (at low high left right k : ℕ) (hu : Bounds) (l f g : Tree) → Children slab at low high l (fork high hu k f g)
    → FitsByte (height l) 2 → FitsByte (height (fork high hu k f g)) 2 → Balanced (fork high hu k f g)
    → RotationParts slab high at low (top (lower f g)) (top (higher f g)) l (lower f g) (higher f g)
three slab at low high left right k hu l f g p ls hs bal =
    let e : k ≡ 1 + max (height f) (height g) = bal.0.height_is in
    let sf : FitsByte (height f) 2 = grind (arith) in
    let sg : FitsByte (height g) 2 = grind (arith) in
    let whole : (x : ℕ) → one at x + (count_of l x + (one high x + (count_of f x + count_of g x))) ≤ 1 = p.apart in
    elim (nat_lt (height f) (height g)) as (λ b. RotationParts slab high at low (top (cond b f g)) (top (cond b g f)) l (cond b f g) (cond b g f)) [
      | true ↦ record {
        room = subst IsSome (sym p.right_kept.holds.0) refl;
        below = record {
          room = p.room;
          left_kept = p.left_kept;
          right_kept = record { holds = p.right_kept.holds.1; is_at = refl };
          apart = λ x. let w =
              whole x in omega arith;
          left_small = omega arith;
          right_small = omega arith;
        };
        right_kept = record { holds = p.right_kept.holds.2; is_at = refl };
        apart = λ x. let w = whole x in omega arith;
        left_small = ls;
        mid_small = sf;
        right_small = sg;
      }
      | false ↦ record {
        room = subst IsSome (sym p.right_kept.holds.0) refl;
        below = record {
          room = p.room;
          left_kept = p.left_kept;
          right_kept = record { holds = p.right_kept.holds.2; is_at = refl };
          apart = λ x. let w =
              whole x in omega arith;
          left_small = omega arith;
          right_small = omega arith;
        };
        right_kept = record { holds = p.right_kept.holds.1; is_at = refl };
        apart = λ x. let w = whole x in omega arith;
        left_small = ls;
        mid_small = sg;
        right_small = sf;
      }
    ]

pub second : (old new : Slab NodeView) (high at low left right : ℕ) (l f g : Tree) → Writes old new (λ k. one at k) → Holds new (refitted at l f)
    → RotationParts old high at low left right l f g → Children new high at right (refitted at l f) g
second old new high at low left right l f g w there p = record {
  room = w.kept.here high p.room;
  left_kept = record { holds = there; is_at = refl };
  right_kept = record {
    holds = elsewhere_held old new (λ k. one at k) w g (λ k u. one_free at g k (mid_free high at l f g p.apart) u) p.right_kept.holds;
    is_at = p.right_kept.is_at;
  };
  apart = p.apart;
  left_small = let a = p.left_small in let b = p.mid_small in grind (arith);
  right_small = let a = p.right_small in omega arith;
}

-- the children of an inner node
pub children : (slab : Slab NodeView) (at left right k : ℕ) (hu : Bounds) (h : Tree) → StandsAt slab at h → get slab at ≡ Some (Inner left right hu k)
    → (f : Tree) × (g : Tree) × (h ≡ fork at hu k f g) × StandsAt slab left f × StandsAt slab right g
children slab at left right k hu h p e =
    let s = split slab at left right k hu h p e in
    let q : Holds slab (fork at hu k s.0 s.1) = subst (Holds slab) s.2 p.holds in
    (s.0, s.1, s.2, record { holds = q.1; is_at = s.3 }, record { holds = q.2; is_at = s.4 })

-- what is rotated
pub rotation_up : (slab : Slab NodeView) (at low high left right k : ℕ) (hu : Bounds) (l h : Tree) (r : ℕ × ℕ) → Children slab at low high l h
    → FitsByte (height l) 2 → FitsByte (height h) 2 → Balanced h → get slab high ≡ Some (Inner left right hu k)
    → ((f g : Tree) → StandsAt slab left f → StandsAt slab right g → r ≡ (top (lower f g), top (higher f g)))
    → (f : Tree) × (g : Tree) × (h ≡ fork high hu k f g) × RotationParts slab high at low r.0 r.1 l (lower f g) (higher f g)
rotation_up slab at low high left right k hu l h r p ls hs bal e picks =
    let s = children slab high left right k hu h p.right_kept e in
    let picked = picks s.0 s.1 s.3 s.4 in
    let t = three slab at low high left right k hu l s.0 s.1 (subst (λ h. Children slab at low high l h) s.2 p) ls (subst (λ h. FitsByte (height h) 2) s.2 hs)
    (subst Balanced s.2 bal) in
    (s.0, s.1, s.2, subst (λ (q : ℕ × ℕ). RotationParts slab high at low q.0 q.1 l (lower s.0 s.1) (higher s.0 s.1)) (sym picked) t)
