-- Steps of a move down a tree and up again.
use Rattle.std.proofs.Common.{◌≡◌, ℕ, ◌+◌, ◌≤◌, max, Option, None, Some, IsSome, List, ◌∷◌, map, option_map, refl, sym, ap, ◌∙◌}
use Rattle.std.proofs.Common.{subst, arith, inl, inr, ⊎_elim, ◌⊎◌}
use Rattle.std.specs.List.{sum_by}
use Rattle.slab.specs.Slab.{Slab, get, slab_len}
use Rattle.fixed_box.specs.Bounds.{Bounds, hull as union}
use Rattle.tree_nodes.specs.declared.node_view.NodeView.{NodeView}
use Rattle.tree_nodes.specs.declared.node_view.NodeView.TheVariants.{Inner}
use Rattle.tree_nodes.specs.Moved.{with_fat, leaf_moved, refitted}
use Rattle.tree_nodes.specs.Path.{Leads, ToMove}
use Rattle.tree_nodes.specs.Rotation.{Children, FitsByte}
use Rattle.tree_nodes.specs.Stored.{Holds, Sound, SoundIn, StandsAt, Writes}
use Rattle.tree_nodes.specs.Tree.{Tree, fork, top, bounds, height, count_of, one, Balanced, leaves, leaves_in, height_in}
use Rattle.tree_nodes.proofs.Detaching.{end_counted}
use Rattle.tree_nodes.proofs.Frames.{one_same, top_free, apart_held, writes_fewer}
use Rattle.tree_nodes.proofs.Heights.{low}
use Rattle.tree_nodes.proofs.Inserting.{size_leaves}
use Rattle.tree_nodes.proofs.MovedTrees.{moved_top, moved_counts, moved_size, moved_height, moved_balanced, moved_slots, unmoved, moved_leaves}
use Rattle.tree_nodes.proofs.Rotations.{children}

-- one step of a path
pub record OneStep (slab : Slab NodeView) (at left right next k : ℕ) (hu : Bounds) (node : ℕ) (rest : List ℕ) (t : Tree) : Type 0 where
  pub f : Tree
  pub g : Tree
  pub is : t ≡ fork at hu k f g
  pub left_kept : StandsAt slab left f
  pub right_kept : StandsAt slab right g
  pub left_balanced : Balanced f
  pub right_balanced : Balanced g
  pub left_low : FitsByte (height f) 2
  pub right_low : FitsByte (height g) 2
  pub apart : (x : ℕ) → one at x + (count_of f x + count_of g x) ≤ 1
  pub on : ToMove slab next node rest f ⊎ ToMove slab next node rest g

pub down : (slab : Slab NodeView) (at left right next k : ℕ) (hu : Bounds) (node : ℕ) (path rest : List ℕ) (t : Tree) → ToMove slab at node path t
    → get slab at ≡ Some (Inner left right hu k) → path ≡ next ∷ rest → OneStep slab at left right next k hu node rest t
down slab at left right next k hu node path rest t w e p =
    let c = children slab at left right k hu t w.kept e in
    let f = c.0 in
    let g = c.1 in
    let b : Balanced (fork at hu k f g) = subst Balanced c.2 w.balanced in
    let low : FitsByte k 2 = subst (λ t. FitsByte (height t) 2) c.2 w.low in
    let hi : k ≡ 1 + max (height f) (height g) = b.0.height_is in
    let fl : FitsByte (height f) 2 = grind (arith) in
    let gl : FitsByte (height g) 2 = grind (arith) in
    let apart : (x : ℕ) → one at x + (count_of f x + count_of g x) ≤ 1 = subst (λ t. (x : ℕ) → count_of t x ≤ 1) c.2 w.apart in
    let leads : ((top f ≡ next) × Leads f rest node) ⊎ ((top g ≡ next) × Leads g rest node) =
    subst (λ q. Leads (fork at hu k f g) q node) p (subst (λ t. Leads t path node) c.2 w.leads) in
    record {
      f = f;
      g = g;
      is = c.2;
      left_kept = c.3;
      right_kept = c.4;
      left_balanced = b.1;
      right_balanced = b.2;
      left_low = fl;
      right_low = gl;
      apart = apart;
      on = ⊎_elim
          (λ x. inl (record {
            kept = record { holds = c.3.holds; is_at = x.0 };
            balanced = b.1;
            low = fl;
            apart = λ y. let a = apart y in omega arith;
            leads = x.1;
          }))
          (λ x. inr (record {
            kept = record { holds = c.4.holds; is_at = x.0 };
            balanced = b.2;
            low = gl;
            apart = λ y. let a = apart y in omega arith;
            leads = x.1;
          })) leads;
    }

pub children_moved : (old new : Slab NodeView) (at left right next k : ℕ) (hu : Bounds) (node : ℕ) (rest : List ℕ) (t : Tree) (fat : Bounds)
    → ((m : ℕ) (u : Tree) → ToMove old next m rest u → StandsAt new next (with_fat m fat u))
    → ((m : ℕ) (u : Tree) → ToMove old next m rest u → Writes old new (λ x. count_of u x)) → IsSome (get old at)
    → (d : OneStep old at left right next k hu node rest t) → Children new at left right (with_fat node fat d.f) (with_fat node fat d.g)
children_moved old new at left right next k hu node rest t fat there writes some d =
    let apart : (x : ℕ) → one at x + (count_of (with_fat node fat d.f) x + count_of (with_fat node fat d.g) x) ≤ 1 = λ x. let a = d.apart x in let p =
    moved_counts node fat d.f x in let q = moved_counts node fat d.g x in omega arith in
    let hf = moved_height node fat d.f d.left_balanced in
    let hg = moved_height node fat d.g d.right_balanced in
    let fl = d.left_low in
    let gl = d.right_low in
    ⊎_elim
    (λ on.
    let used = end_counted d.f rest node on.leads in
    let z : count_of d.g node ≡ 0 = let a = d.apart node in omega arith in
    record {
      room = (writes node d.f on).kept.here at some;
      left_kept = record { holds = (there node d.f on).holds; is_at = moved_top node fat d.f ∙ d.left_kept.is_at };
      right_kept = subst (StandsAt new right) (sym (unmoved node fat d.g d.right_balanced z))
          (record { holds = apart_held old new (λ x. count_of d.f x) (writes node d.f on) d.g (λ x. let a = d.apart x in omega arith) d.right_kept.holds; is_at = d.right_kept.is_at });
      apart = apart;
      left_small = omega arith;
      right_small = omega arith;
    })
    (λ on.
    let used = end_counted d.g rest node on.leads in
    let z : count_of d.f node ≡ 0 = let a = d.apart node in omega arith in
    record {
      room = (writes node d.g on).kept.here at some;
      left_kept = subst (StandsAt new left) (sym (unmoved node fat d.f d.left_balanced z))
          (record { holds = apart_held old new (λ x. count_of d.g x) (writes node d.g on) d.f (λ x. let a = d.apart x in omega arith) d.left_kept.holds; is_at = d.left_kept.is_at });
      right_kept = record { holds = (there node d.g on).holds; is_at = moved_top node fat d.g ∙ d.right_kept.is_at };
      apart = apart;
      left_small = omega arith;
      right_small = omega arith;
    })
    d.on

-- where the bounds of the child that is next stay, the node stands as it did
pub bounds_stay : (old : Slab NodeView) (at left right next k : ℕ) (hu : Bounds) (node : ℕ) (rest : List ℕ) (t : Tree) (fat : Bounds)
    → ((m : ℕ) (u : Tree) → ToMove old next m rest u → bounds (with_fat m fat u) ≡ bounds u) → Balanced t
    → (d : OneStep old at left right next k hu node rest t)
    → refitted at (with_fat node fat d.f) (with_fat node fat d.g) ≡ fork at hu k (with_fat node fat d.f) (with_fat node fat d.g)
bounds_stay old at left right next k hu node rest t fat same bal d =
    let f = with_fat node fat d.f in
    let g = with_fat node fat d.g in
    let fits : Balanced (fork at hu k d.f d.g) = subst Balanced d.is bal in
    let both : (bounds f ≡ bounds d.f) × (bounds g ≡ bounds d.g) = ⊎_elim
    (λ on.
    let used = end_counted d.f rest node on.leads in
    let z : count_of d.g node ≡ 0 = let a = d.apart node in omega arith in
    (same node d.f on, ap bounds (unmoved node fat d.g d.right_balanced z)))
    (λ on.
    let used = end_counted d.g rest node on.leads in
    let z : count_of d.f node ≡ 0 = let a = d.apart node in omega arith in
    (ap bounds (unmoved node fat d.f d.left_balanced z), same node d.g on))
    d.on in
    let hf = moved_height node fat d.f d.left_balanced in
    let hg = moved_height node fat d.g d.right_balanced in
    ap (λ b. fork at (union b (bounds g)) (1 + max (height f) (height g)) f g) both.0
    ∙ ap (λ b. fork at (union (bounds d.f) b) (1 + max (height f) (height g)) f g) both.1
    ∙ ap (λ h. fork at h (1 + max (height f) (height g)) f g) (sym fits.0.hull_is)
    ∙ ap (λ x. fork at hu (1 + max x (height g)) f g) hf
    ∙ ap (λ x. fork at hu (1 + max (height d.f) x) f g) hg
    ∙ ap (λ x. fork at hu x f g) (sym fits.0.height_is)

pub node_stays : (old new : Slab NodeView) (at left right next k : ℕ) (hu : Bounds) (node : ℕ) (rest : List ℕ) (t : Tree) (fat : Bounds)
    → ((m : ℕ) (u : Tree) → ToMove old next m rest u → bounds (with_fat m fat u) ≡ bounds u)
    → ((m : ℕ) (u : Tree) → ToMove old next m rest u → Writes old new (λ x. count_of u x)) → get old at ≡ Some (Inner left right hu k) → Balanced t
    → (d : OneStep old at left right next k hu node rest t) → Children new at left right (with_fat node fat d.f) (with_fat node fat d.g)
    → StandsAt new at (with_fat node fat t)
node_stays old new at left right next k hu node rest t fat same writes e bal d p =
    let f = with_fat node fat d.f in
    let g = with_fat node fat d.g in
    let a = d.apart at in
    let o : one at at ≡ 1 = one_same at in
    let z : (count_of d.f at ≡ 0) × (count_of d.g at ≡ 0) = (omega arith, omega arith) in
    let still : get new at ≡ get old at = ⊎_elim (λ on. (writes node d.f on).others at z.0) (λ on. (writes node d.g on).others at z.1) d.on in
    let lf : top f ≡ left = p.left_kept.is_at in
    let rg : top g ≡ right = p.right_kept.is_at in
    let here : get new at ≡ Some (Inner (top f) (top g) hu k) = cc in
    let holds : Holds new (fork at hu k f g) = (here, p.left_kept.holds, p.right_kept.holds) in
    subst (λ x. StandsAt new at (with_fat node fat x)) (sym d.is)
    (record { holds = subst (Holds new) (sym (bounds_stay old at left right next k hu node rest t fat same bal d)) holds; is_at = refl })

pub same_bounds : (old : Slab NodeView) (at left right next k : ℕ) (hu : Bounds) (node : ℕ) (rest : List ℕ) (t : Tree) (fat : Bounds)
    → ((m : ℕ) (u : Tree) → ToMove old next m rest u → bounds (with_fat m fat u) ≡ bounds u) → Balanced t
    → (d : OneStep old at left right next k hu node rest t) → bounds (with_fat node fat t) ≡ bounds t
same_bounds old at left right next k hu node rest t fat same bal d =
    subst (λ x. bounds (with_fat node fat x) ≡ bounds x) (sym d.is) (ap bounds (bounds_stay old at left right next k hu node rest t fat same bal d))

-- what the path does not use stays
pub path_writes : (old new : Slab NodeView) (at left right next k : ℕ) (hu : Bounds) (node : ℕ) (rest : List ℕ) (t : Tree)
    → ((m : ℕ) (u : Tree) → ToMove old next m rest u → Writes old new (λ x. count_of u x)) → (d : OneStep old at left right next k hu node rest t)
    → Writes old new (λ x. count_of t x)
path_writes old new at left right next k hu node rest t writes d =
    let none : (x : ℕ) → count_of t x ≡ 0 → one at x + (count_of d.f x + count_of d.g x) ≡ 0 = λ x free. subst (λ t. count_of t x ≡ 0) d.is free in
    ⊎_elim
    (λ on. writes_fewer old new (λ x. count_of d.f x) (λ x. count_of t x) (writes node d.f on) (λ x free. let z = none x free in omega arith))
    (λ on. writes_fewer old new (λ x. count_of d.g x) (λ x. count_of t x) (writes node d.g on) (λ x free. let z = none x free in omega arith))
    d.on

-- the number that the path begins at is one of the tree's
pub start_free : (old : Slab NodeView) (at node : ℕ) (path : List ℕ) (t : Tree) → ToMove old at node path t → (x : ℕ) → count_of t x ≡ 0 → one at x ≡ 0
start_free old at node path t w x none = subst (λ n. one n x ≡ 0) w.kept.is_at (top_free t x none)

pub sound_moved : (old new : Slab NodeView) (node : ℕ) (fat : Bounds) (t : Tree) → Sound old t → Holds new (with_fat node fat t) → slab_len new ≡ slab_len old
    → Sound new (with_fat node fat t)
sound_moved old new node fat t s h len =
    let sz = moved_size node fat t in
    let a = size_leaves t in
    let b = size_leaves (with_fat node fat t) in
    let few = s.is_tree.few in
    let c = s.counted in
    record {
      holds = h;
      counted = omega arith;
      is_tree = record {
        apart = λ k. let x = s.is_tree.apart k in let y = moved_counts node fat t k in omega arith;
        slots = λ k. let x = s.is_tree.slots k in let y : sum_by (λ x. one x.slot k) (leaves (with_fat node fat t)) ≡ sum_by (λ x. one x.slot k) (leaves t) =
            moved_slots node fat t k in omega arith;
        balanced = moved_balanced node fat t s.is_tree.balanced;
        few = omega arith;
        low = low (with_fat node fat t) (moved_balanced node fat t s.is_tree.balanced) (omega arith);
      };
    }

pub moved_in : (slab : Slab NodeView) (root : Option ℕ) (o p q : Option Tree) (node : ℕ) (fat : Bounds) → SoundIn slab root o → o ≡ p
    → q ≡ option_map (with_fat node fat) p → (leaves_in q ≡ map (leaf_moved node fat) (leaves_in p)) × (height_in q ≡ height_in p)
moved_in slab root o None q node fat s e is = rw is (refl, refl)
moved_in slab None None (Some t) q node fat s e is = cc
moved_in slab None (Some u) (Some t) q node fat s e is = absurd s.0
moved_in slab (Some n) None (Some t) q node fat s e is = absurd s
moved_in slab (Some n) (Some u) (Some t) q node fat s e is =
    let same : u ≡ t = cc in
    rw is (moved_leaves node fat t, moved_height node fat t (subst Balanced same s.1.is_tree.balanced))
