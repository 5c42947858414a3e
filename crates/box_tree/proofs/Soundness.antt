-- How the kept pairs stay sound while one slot is touched, and once the pairs were asked for.
use Rattle.std.proofs.Common.{◌≡◌, ◌≢◌, ℕ, ◌<◌, Bool, true, false, not, nat_lt, ◌&&◌, ◌==◌, Option, None, List, []}
use Rattle.std.proofs.Common.{length, get_or, set, refl, sym, ap, ◌∙◌, subst, ⊎_elim}
use Rattle.std.specs.Ordering.{nat_cmp}
use Rattle.std.specs.FinMap.{FinMap, get, get-empty, empty, insert, remove}
use Rattle.std.proofs.lemmas.Bool.{cases_eq, and_parts, and_from, false≢true}
use Rattle.std.proofs.lemmas.List.{get_or-set_same, get_or-set_other}
use Rattle.fixed_box.specs.declared.TheConstants.{SLOTS}
use Rattle.fixed_box.specs.Bounds.{Bounds}
use Rattle.broad_index.specs.declared.pair.Pair.{Pair}
use Rattle.broad_index.specs.Members.{is_near, both_meet}
use Rattle.broad_index.specs.Touched.{AreKept}
use Rattle.tree_nodes.specs.Tree.{Tree}
use Rattle.box_tree.specs.declared.tree_listing.TreeListing.{TreeListing}
use Rattle.box_tree.specs.Boxes.{Boxes, untouched, no_boxes}
use Rattle.slot_lists.specs.SlotMap.{map_of}
use Rattle.box_tree.specs.Ties.{BoxLists}
use Rattle.box_tree.specs.Whole.{Sound, Whole}
use Rattle.fixed_box.proofs.Numbers.{eqb_other}

abbrev pub Inserted : Type 0
Inserted = (bodies : FinMap nat_cmp Bounds) (k : ℕ) (v : Bounds) (p : Pair) → (p.a == k) ≡ false → (p.b == k) ≡ false
    → is_near (insert bodies k v) p ≡ is_near bodies p

abbrev pub Removed : Type 0
Removed = (bodies : FinMap nat_cmp Bounds) (k : ℕ) (p : Pair) → (p.a == k) ≡ false → (p.b == k) ≡ false
    → is_near (remove bodies k) p ≡ is_near bodies p

unmarked : (b : Bool) → not b ≡ true → b ≡ false
unmarked true e = absurd (false≢true e)
unmarked false e = refl

-- a slot that isn't marked after a mark isn't the marked one, and wasn't before
unmarked_before : (marks : List Bool) (slot k : ℕ) → slot < length marks → not (get_or (set marks slot true) k false) ≡ true
    → (k ≢ slot) × (not (get_or marks k false) ≡ true)
unmarked_before marks slot k lt h = ⊎_elim
    (λ s. absurd (false≢true (sym (unmarked true (subst (λ b. not b ≡ true) (get_or-set_same marks slot true false lt)
    (subst (λ j. not (get_or (set marks slot true) j false) ≡ true) s h))))))
    (λ ne. (ne, subst (λ b. not b ≡ true) (get_or-set_other marks slot k true false ne) h)) (cases_eq k slot)

-- pairs of untouched slots stay as they are
pub kept_on : (old new : FinMap nat_cmp Bounds) (marks : List Bool) (kept : List Pair) (slot : ℕ) → slot < length marks
    → ((p : Pair) → (p.a == slot) ≡ false → (p.b == slot) ≡ false → is_near new p ≡ is_near old p) → AreKept old marks kept
    → AreKept new (set marks slot true) kept
kept_on old new marks kept slot lt same are p h =
    let parts = and_parts (not (get_or (set marks slot true) p.a false)) (not (get_or (set marks slot true) p.b false)) h in
    let a = unmarked_before marks slot p.a lt parts.0 in
    let b = unmarked_before marks slot p.b lt parts.1 in
    are p (and_from (not (get_or marks p.a false)) (not (get_or marks p.b false)) a.1 b.1)
    ∙ sym (same p (eqb_other p.a slot a.0) (eqb_other p.b slot b.0))

module _ (bodies : List (Option Bounds)) (marks : List Bool) (kept : List Pair) (s : Sound bodies marks kept) where
  module _ (slot : ℕ) (small : slot < SLOTS) (len : length marks ≡ SLOTS) (bodies' : List (Option Bounds)) where
    -- after a change of one slot
    sound_changed : (m : FinMap nat_cmp Bounds) → ((p : Pair) → (p.a == slot) ≡ false → (p.b == slot) ≡ false → is_near m p ≡ is_near (map_of bodies) p)
        → map_of bodies' ≡ m → Sound bodies' (set marks slot true) kept
    sound_changed m same e = record {
      kept_rise = s.kept_rise;
      kept_are = subst (λ n. AreKept n (set marks slot true) kept) (sym e)
          (kept_on (map_of bodies) m marks kept slot (subst (λ n. slot < n) (sym len) small) same s.kept_are);
    }

    pub sound_put : Inserted → (b : Bounds) → map_of bodies' ≡ insert (map_of bodies) slot b → Sound bodies' (set marks slot true) kept
    sound_put law b e = sound_changed (insert (map_of bodies) slot b) (law (map_of bodies) slot b) e

    pub sound_taken : Removed → map_of bodies' ≡ remove (map_of bodies) slot → Sound bodies' (set marks slot true) kept
    sound_taken law e = sound_changed (remove (map_of bodies) slot) (law (map_of bodies) slot) e

no_pair : (bodies : FinMap nat_cmp Bounds) (p : Pair) → get bodies p.a ≡ None → false ≡ is_near bodies p
no_pair bodies p e = sym (ap (λ o. nat_lt p.a p.b && both_meet o (get bodies p.b)) e ∙ and_no (nat_lt p.a p.b))
  where
    and_no : (b : Bool) → (b && false) ≡ false
    and_no true = refl
    and_no false = refl

-- at the outset
pub sound_none : (bodies : List (Option Bounds)) (marks : List Bool) (kept : List Pair) → map_of bodies ≡ empty → kept ≡ []
    → Sound bodies marks kept
sound_none bodies marks kept is none = subst (λ ps. Sound bodies marks ps) (sym none) (record {
  kept_rise = refl;
  kept_are = λ p _. no_pair (map_of bodies) p (ap (λ m. get m p.a) is ∙ get-empty nat_cmp p.a);
})

-- and as clauses see it
pub same_outset : {b f : FinMap nat_cmp Bounds} {t : Option Tree} {m : List Bool} → b ≡ empty → f ≡ empty → t ≡ None → m ≡ untouched
    → ◌≡◌ {A = Boxes} (record { bodies = b; fats = f; tree = t; touched = m; looked = 0 }) no_boxes
same_outset {b} {f} {t} {m} eb ef et em =
    ap (λ x. record { bodies = x; fats = f; tree = t; touched = m; looked = 0 }) eb
    ∙ ap (λ x. record { bodies = empty; fats = x; tree = t; touched = m; looked = 0 }) ef
    ∙ ap (λ x. record { bodies = empty; fats = empty; tree = x; touched = m; looked = 0 }) et
    ∙ ap (λ x. record { bodies = empty; fats = empty; tree = None; touched = x; looked = 0 }) em

-- where the nodes aren't said to be listed
pub unlisted : {boxes : BoxLists} {marks : List Bool} {kept : List Pair}
    → Sound boxes.bodies marks kept → (listing : TreeListing) → listing.fresh ≡ false → Whole boxes marks kept listing
unlisted s listing e = record { sound = s; listed = λ h. absurd (false≢true (sym e ∙ h)) }
