-- The answers of an index over the live boxes are those of the boxes themselves.
use Rattle.std.proofs.Common.{◌≡◌, ℕ, true, false, cond, ◌&&◌, List, [], ◌∷◌, ◌++◌, map, filter, Option, Some, None, refl, ap, ◌∙◌, arith, nat_eq, nat_lt}
use Rattle.std.specs.List.{filter_map, list_all, cons_option}
use Rattle.std.specs.Cmp.{first_so, second_so}
use Rattle.std.proofs.lemmas.Bool.Decides.{nat_tests}
use Rattle.fixed_box.specs.Bounds.{meets}
use Rattle.live_table.specs.declared.live.Live.{Live}
use Rattle.live_table.specs.Entries.{slot_of, live_at, rises}
use Rattle.live_table.specs.Pairing.{may}
use Rattle.live_table.specs.Table.{Table, IsTable}
use Rattle.broad_index.specs.declared.pair.Pair.{Pair}
use Rattle.broad_index.specs.declared.query.Query.{Query}
use Rattle.broad_index.specs.Near.{near_of, partners as slot_partners}
use Rattle.broad_index.specs.Found.{found_of, query_meets}
use Rattle.live_queries.specs.declared.groups.Groups.{Groups}
use Rattle.live_queries.specs.Pairs.{may_touch, partners, pairs_of, is_asked_for, hits_of}
use Rattle.broad_index.specs.Near.{near}
use Rattle.broad_index.specs.Found.{found}
use Rattle.live_table.specs.Bodies.{bodies_of, slots_with_bodies}
use Rattle.live_queries.specs.InHandles.{touching, listed, listed_of, pair_of}

filter_map-append : {A B : Type 0} (f : A → Option B) (xs ys : List A) → filter_map f (xs ++ ys) ≡ filter_map f xs ++ filter_map f ys
filter_map-append f [] ys = refl
filter_map-append f (x ∷ xs) ys = elim (f x) as (λ o. cons_option o (filter_map f (xs ++ ys)) ≡ cons_option o (filter_map f xs) ++ filter_map f ys) [
  | None ↦ filter_map-append f xs ys
  | Some y ↦ ap (λ zs. y ∷ zs) (filter_map-append f xs ys)
]

-- each of some entries is found by its slot
abbrev pub AreFound : List Live → List Live → Type 0
AreFound all [] = Unit {0}
AreFound all (e ∷ es) = (live_at (slot_of e) all ≡ Some e) × AreFound all es

later_found : (e : Live) (all es : List Live) → list_all (λ o. nat_lt (slot_of e) (slot_of o)) es ≡ true → AreFound all es → AreFound (e ∷ all) es
later_found e all [] above found = tt
later_found e all (x ∷ es) above found =
    let lt : nat_lt (slot_of e) (slot_of x) ≡ true = first_so _ _ above in
    let apart : nat_eq (slot_of e) (slot_of x) ≡ false = grind (arith, nat_tests) in
    (rw apart found.0, later_found e all es (second_so _ _ above) found.1)

same_slot : (n : ℕ) → nat_eq n n ≡ true
same_slot n = grind (arith, nat_tests)

pub all_found : (es : List Live) → rises es ≡ true → AreFound es es
all_found [] r = tt
all_found (e ∷ es) r = (rw (same_slot (slot_of e)) refl, later_found e es es (first_so _ _ r) (all_found es (second_so _ _ r)))

module _ (all : List Live) where
  partners_touch : (a : Live) (later : List Live) → live_at (slot_of a) all ≡ Some a → AreFound all later
      → filter_map (touching all) (slot_partners (slot_of a) a.body (slots_with_bodies later)) ≡ partners a later
  partners_touch a [] here found = refl
  partners_touch a (b ∷ later) here found =
      let rest : filter_map (touching all) (slot_partners (slot_of a) a.body (slots_with_bodies later)) ≡ partners a later =
      partners_touch a later here found.1 in
      let pair : touching all (record { a = slot_of a; b = slot_of b }) ≡ pair_of (Some a) (Some b) = rw (here, found.0) refl in
      elim (meets a.body b.body) as
      (λ m. filter_map (touching all) (map (λ e. record { a = slot_of a; b = e.0 })
      (cond m ((slot_of b, b.body) ∷ filter (λ e. meets a.body e.1) (slots_with_bodies later))
      (filter (λ e. meets a.body e.1) (slots_with_bodies later))))
      ≡ map (λ x. record { a = a.handle; b = x.handle }) (cond (m && may a b) (b ∷ filter (may_touch a) later) (filter (may_touch a) later))) [
        | false ↦ rest
        | true ↦ ap (λ o. cons_option o (filter_map (touching all) (slot_partners (slot_of a) a.body (slots_with_bodies later)))) pair
            ∙ elim (may a b) as (λ t. cons_option (cond t (Some (record { a = a.handle; b = b.handle })) None)
            (filter_map (touching all) (slot_partners (slot_of a) a.body (slots_with_bodies later)))
            ≡ map (λ x. record { a = a.handle; b = x.handle }) (cond t (b ∷ filter (may_touch a) later) (filter (may_touch a) later))) [
              | true ↦ ap (λ ps. record { a = a.handle; b = b.handle } ∷ ps) rest
              | false ↦ rest
            ]
      ]

  pairs_touch : (es : List Live) → AreFound all es → filter_map (touching all) (near_of (slots_with_bodies es)) ≡ pairs_of es
  pairs_touch [] found = refl
  pairs_touch (a ∷ later) found =
      filter_map-append (touching all) (slot_partners (slot_of a) a.body (slots_with_bodies later)) (near_of (slots_with_bodies later))
      ∙ ap (λ ps. ps ++ filter_map (touching all) (near_of (slots_with_bodies later))) (partners_touch a later found.0 found.1)
      ∙ ap (λ ps. partners a later ++ ps) (pairs_touch later found.1)

  hits_listed : (query : Query) (groups : Groups) (es : List Live) → AreFound all es
      → filter_map (listed all groups) (found_of (slots_with_bodies es) query) ≡ hits_of es query groups
  hits_listed query groups [] found = refl
  hits_listed query groups (e ∷ es) found =
      let rest : filter_map (listed all groups) (found_of (slots_with_bodies es) query) ≡ hits_of es query groups = hits_listed query groups es found.1 in
      elim (query_meets query e.body) as
      (λ m. filter_map (listed all groups) (map (λ x. x.0) (cond m ((slot_of e, e.body) ∷ filter (λ x. query_meets query x.1) (slots_with_bodies es))
      (filter (λ x. query_meets query x.1) (slots_with_bodies es))))
      ≡ map (λ x. x.handle) (cond (m && is_asked_for groups e) (e ∷ filter (λ x. query_meets query x.body && is_asked_for groups x) es)
      (filter (λ x. query_meets query x.body && is_asked_for groups x) es))) [
        | false ↦ rest
        | true ↦ ap (λ o. cons_option (listed_of groups o) (filter_map (listed all groups) (found_of (slots_with_bodies es) query))) found.0
            ∙ elim (is_asked_for groups e) as (λ t. cons_option (cond t (Some e.handle) None)
            (filter_map (listed all groups) (found_of (slots_with_bodies es) query))
            ≡ map (λ x. x.handle) (cond t (e ∷ filter (λ x. query_meets query x.body && is_asked_for groups x) es)
            (filter (λ x. query_meets query x.body && is_asked_for groups x) es))) [
              | true ↦ ap (λ hs. e.handle ∷ hs) rest
              | false ↦ rest
            ]
      ]

-- the pairs of an index, and what it finds
pub touching-near : (es : List Live) → rises es ≡ true → filter_map (touching es) (near_of (slots_with_bodies es)) ≡ pairs_of es
touching-near es r = pairs_touch es es (all_found es r)

pub listed-found : (es : List Live) (query : Query) (groups : Groups) → rises es ≡ true
    → filter_map (listed es groups) (found_of (slots_with_bodies es) query) ≡ hits_of es query groups
listed-found es query groups r = hits_listed es query groups es (all_found es r)

-- the same, of the index that has the live boxes
pub pairs_from_near : (t : Table) (pairs : List Pair) → IsTable t → pairs ≡ near (bodies_of t.entries)
    → filter_map (touching t.entries) pairs ≡ pairs_of t.entries
pairs_from_near t pairs is e = ap (filter_map (touching t.entries)) (e ∙ ap near_of is.mapped) ∙ touching-near t.entries is.rising

pub hits_from_found : (t : Table) (slots : List ℕ) (query : Query) (groups : Groups) → IsTable t → slots ≡ found (bodies_of t.entries) query
    → filter_map (listed t.entries groups) slots ≡ hits_of t.entries query groups
hits_from_found t slots query groups is e =
    ap (filter_map (listed t.entries groups)) (e ∙ ap (λ xs. found_of xs query) is.mapped) ∙ listed-found t.entries query groups is.rising
