-- What a slab of nodes shows changes as the slab does.
use Rattle.std.proofs.Common.{◌≡◌, ℕ, zero, suc, ◌+◌, Option, None, Some, IsSome, is_some, cond, List, [], ◌∷◌, map, set, get_or, option_map}
use Rattle.std.proofs.Common.{refl, sym, ap, ◌∙◌, subst, arith}
use Rattle.std.specs.List.{count_by}
use Rattle.std.proofs.Math.ListN.{get_or-map}
use Rattle.std.proofs.lemmas.List.Sums.{sum_by-cons}
use Rattle.slab.specs.Slab.{Slab, get, Updates, with_value}
use Rattle.slab.proofs.SlabLemmas.{Updates-with_value}
use Rattle.fixed_box.specs.Bounds.{Bounds}
use Rattle.tree_nodes.specs.declared.node.Node.{Node}
use Rattle.tree_nodes.specs.declared.node.Role.{Role}
use Rattle.tree_nodes.specs.declared.node.Role.TheVariants.{Leaf, Inner}
use Rattle.tree_nodes.specs.Resized.{with_bounds, Rebounded}
use Rattle.tree_nodes.specs.Shown.{shown, shown_as, shown_slab}
use Rattle.tree_nodes.specs.Stored.{KeepsKeys}

pub shown_at : (s : Slab Node) (k : ℕ) → get (shown_slab s) k ≡ option_map shown (get s k)
shown_at s k = get_or-map (option_map shown) s.slots k None

some_shown : (x : Option Node) → IsSome x → IsSome (option_map shown x)
some_shown None h = cc
some_shown (Some n) h = refl

some_stored : (x : Option Node) → IsSome (option_map shown x) → IsSome x
some_stored None h = cc
some_stored (Some n) h = refl

-- a node that is shown is there
pub stored : (s : Slab Node) (k : ℕ) → IsSome (get (shown_slab s) k) → IsSome (get s k)
stored s k h = some_stored (get s k) (subst IsSome (shown_at s k) h)

pub shown_updates : (s u : Slab Node) (k : ℕ) (x : Option Node) → Updates s u k x → Updates (shown_slab s) (shown_slab u) k (option_map shown x)
shown_updates s u k x h = record {
  changed = shown_at u k ∙ ap (option_map shown) h.changed;
  others = λ j ne. shown_at u j ∙ ap (option_map shown) (h.others j ne) ∙ sym (shown_at s j);
}

-- a write under a key that has a node
pub shown_written : (s : Slab Node) (k : ℕ) (n : Node) → IsSome (get s k)
    → Updates (shown_slab s) (shown_slab (with_value s k n)) k (Some (shown n))
shown_written s k n h = shown_updates s (with_value s k n) k (Some n) (Updates-with_value s k n h)

abbrev taken : {X : Type 0} → Option X → ℕ
taken x = cond (is_some x) 1 0

count_cons : {X : Type 0} (x : Option X) (xs : List (Option X)) → count_by is_some (x ∷ xs) ≡ taken x + count_by is_some xs
count_cons x xs = sum_by-cons taken x xs

shown_taken : (x : Option Node) → taken (option_map shown x) ≡ taken x
shown_taken None = refl
shown_taken (Some n) = refl

pub shown_count : (xs : List (Option Node)) → count_by is_some (map (option_map shown) xs) ≡ count_by is_some xs
shown_count [] = refl
shown_count (x ∷ xs) =
    let a = count_cons (option_map shown x) (map (option_map shown) xs) in
    let b = count_cons x xs in
    let c = shown_taken x in
    let d = shown_count xs in
    omega arith

some_taken : (x : Option Node) → IsSome x → taken x ≡ 1
some_taken None h = cc
some_taken (Some n) h = refl

set_count : (xs : List (Option Node)) (k : ℕ) (n : Node) → IsSome (get_or xs k None) → count_by is_some (set xs k (Some n)) ≡ count_by is_some xs
set_count [] k n h = refl
set_count (x ∷ xs) zero n h =
    let a = count_cons (Some n) xs in
    let b = count_cons x xs in
    let c = some_taken x h in
    let d : taken (Some n) ≡ 1 = refl in
    omega arith
set_count (x ∷ xs) (suc k) n h =
    let a = count_cons x (set xs k (Some n)) in
    let b = count_cons x xs in
    let c = set_count xs k n h in
    omega arith

set_some : (xs : List (Option Node)) (k j : ℕ) (n : Node) → IsSome (get_or xs j None) → IsSome (get_or (set xs k (Some n)) j None)
set_some [] k j n h = h
set_some (x ∷ xs) zero zero n h = refl
set_some (x ∷ xs) zero (suc j) n h = h
set_some (x ∷ xs) (suc k) zero n h = h
set_some (x ∷ xs) (suc k) (suc j) n h = set_some xs k j n h

pub written_keeps : (s : Slab Node) (k : ℕ) (n : Node) → IsSome (get s k) → KeepsKeys (shown_slab s) (shown_slab (with_value s k n))
written_keeps s k n h = record {
  here = λ j there. subst IsSome (sym (shown_at (with_value s k n) j))
      (some_shown (get (with_value s k n) j) (set_some s.slots k j n (stored s j there)));
  len = shown_count (set s.slots k (Some n)) ∙ set_count s.slots k n h ∙ sym (shown_count s.slots);
}

other_bounds : (b c : Bounds) (r : Role) → shown_as c r ≡ with_bounds c (shown_as b r)
other_bounds b c (Leaf slot) = refl
other_bounds b c (Inner left right height) = refl

-- a write of other bounds
pub shown_rebounded : (s : Slab Node) (k : ℕ) (n : Node) (b : Bounds) → get s k ≡ Some n
    → Rebounded (shown_slab s) (shown_slab (with_value s k (record { bounds = b; role = n.role }))) k b
shown_rebounded s k n b is =
    let w = shown_written s k (record { bounds = b; role = n.role }) (subst IsSome (sym is) refl) in
    record {
      there = w.changed ∙ ap Some (other_bounds n.bounds b n.role) ∙ ap (option_map (with_bounds b)) (sym (shown_at s k ∙ ap (option_map shown) is));
      others = w.others;
    }
