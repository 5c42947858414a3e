-- As many slots have boxes as there are leaves.
use Rattle.std.proofs.Common.{◌≡◌, ℕ, suc, ◌+◌, cond, Option, None, Some, is_some, List, [], ◌∷◌, length, get_or, length-append, slice_index_or, true, refl, sym, ap, ◌∙◌, arith}
use Rattle.std.specs.List.{count_by, AllByRecursion, Contains}
use Rattle.std.specs.FinMap.{len, len-entries}
use Rattle.std.proofs.lemmas.List.Recursion.{is_count_by}
use Rattle.std.proofs.lemmas.List.Elements.{recursion_from_All, All-contains_itself}
use Rattle.fixed_box.specs.declared.TheConstants.{SLOTS}
use Rattle.fixed_box.specs.Bounds.{Bounds}
use Rattle.slot_lists.specs.SlotMap.{entries_from, map_of}
use Rattle.slot_lists.specs.SlotMapLaws.{entries_of_map}
use Rattle.tree_nodes.specs.Tree.{Tree, Leaf, leaves, leaves_in}
use Rattle.tree_search.specs.Exact.{entry_of, exact, exact_in}
use Rattle.box_tree.specs.Ties.{AreFat, Leafed}

-- how many entries a list has doesn't depend on where its slots begin
begun_anywhere : (n m : ℕ) (xs : List (Option Bounds)) → length (entries_from n xs) ≡ length (entries_from m xs)
begun_anywhere n m [] = refl
begun_anywhere n m (None ∷ xs) = begun_anywhere (n + 1) (m + 1) xs
begun_anywhere n m (Some v ∷ xs) = ap suc (begun_anywhere (n + 1) (m + 1) xs)

entries_counted : (xs : List (Option Bounds)) → length (entries_from 0 xs) ≡ count_by is_some xs
entries_counted = is_count_by (λ bs. length (entries_from 0 bs)) is_some refl step
  where
    step : (x : Option Bounds) (xs : List (Option Bounds))
        → length (entries_from 0 (x ∷ xs)) ≡ cond (is_some x) (1 + length (entries_from 0 xs)) (length (entries_from 0 xs))
    step None xs = begun_anywhere 1 0 xs
    step (Some v) xs =
        let e : length (entries_from 1 xs) ≡ length (entries_from 0 xs) = begun_anywhere 1 0 xs in
        omega arith

-- where two lists have boxes at the same slots
as_many : (n : ℕ) (xs ys : List (Option Bounds)) → length xs ≡ length ys → ((k : ℕ) → is_some (get_or xs k None) ≡ is_some (get_or ys k None))
    → length (entries_from n xs) ≡ length (entries_from n ys)
as_many n [] [] l same = refl
as_many n [] (y ∷ ys) l same = absurd (omega arith)
as_many n (x ∷ xs) [] l same = absurd (omega arith)
as_many n (None ∷ xs) (None ∷ ys) l same = as_many (n + 1) xs ys (omega arith) (λ k. same (suc k))
as_many n (None ∷ xs) (Some b ∷ ys) l same = let no = same 0 in cc
as_many n (Some a ∷ xs) (None ∷ ys) l same = let no = same 0 in cc
as_many n (Some a ∷ xs) (Some b ∷ ys) l same = ap suc (as_many (n + 1) xs ys (omega arith) (λ k. same (suc k)))

pub leaves_counted : (o : Option Tree) (bodies fats : List (Option Bounds)) → Leafed o fats → AreFat fats bodies → length bodies ≡ SLOTS
    → length (leaves_in o) ≡ len (map_of bodies)
leaves_counted o bodies fats leafed fat lb =
    leafed.counted
    ∙ sym (entries_counted fats)
    ∙ as_many 0 fats bodies (leafed.fats_len ∙ sym lb) fat.same
    ∙ sym (len-entries (map_of bodies) ∙ ap length (entries_of_map bodies))

-- ---- each leaf has one exact box

all_boxed : (bodies : List (Option Bounds)) (all xs : List Leaf) → ((x : Leaf) → Contains all x → is_some (slice_index_or bodies x.slot None) ≡ true)
    → AllByRecursion (Contains all) xs → length (exact bodies xs) ≡ length xs
all_boxed bodies all [] has h = refl
all_boxed bodies all (x ∷ xs) has h =
    let rest = all_boxed bodies all xs has h.1 in
    let one : length (entry_of x.slot (slice_index_or bodies x.slot None)) ≡ 1 = one_entry x.slot (slice_index_or bodies x.slot None) (has x h.0) in
    length-append (entry_of x.slot (slice_index_or bodies x.slot None)) (exact bodies xs) ∙ (omega arith)
  where
    one_entry : (s : ℕ) (o : Option Bounds) → is_some o ≡ true → length (entry_of s o) ≡ 1
    one_entry s None e = cc
    one_entry s (Some b) e = refl

pub exact_counted : (o : Option Tree) (bodies fats : List (Option Bounds)) → Leafed o fats → AreFat fats bodies → length bodies ≡ SLOTS
    → length (exact_in bodies o) ≡ len (map_of bodies)
exact_counted o bodies fats leafed fat lb = exact_all o bodies fats leafed fat ∙ leaves_counted o bodies fats leafed fat lb
  where
    exact_all : (o : Option Tree) (bodies fats : List (Option Bounds)) → Leafed o fats → AreFat fats bodies → length (exact_in bodies o) ≡ length (leaves_in o)
    exact_all None bodies fats leafed fat = refl
    exact_all (Some t) bodies fats leafed fat =
        all_boxed bodies (leaves t) (leaves t) (λ x c. sym (fat.same x.slot) ∙ ap is_some (leafed.fat_is x c))
        (recursion_from_All (Contains (leaves t)) (leaves t) (All-contains_itself (leaves t)))
