-- Pairs of boxes that are live and may pair.
use Rattle.std.proofs.Common.{◌≡◌, ◌==◌, ℕ, true, false, cond, List, [], ◌∷◌, Option, Some, None, is_some, nat_lt, option_map, refl, ap, sym, subst, ◌∙◌}
use Rattle.std.specs.List.{filter_map, cons_option}
use Rattle.std.proofs.lemmas.Bool.{eqb-true, false≢true}
use Rattle.fixed_box.specs.Bounds.{Bounds}
use Rattle.live_table.specs.declared.handle.Handle.{Handle}
use Rattle.live_table.specs.declared.live.Live.{Live}
use Rattle.live_table.specs.Bodies.{slots_with_bodies}
use Rattle.live_table.specs.Entries.{slot_of, has, live_at, entered, with_body}
use Rattle.live_table.specs.Pairing.{may}
use Rattle.live_table.specs.Table.{Table, IsTable}
use Rattle.broad_index.specs.declared.pair.Pair.{Pair}
use Rattle.broad_index.specs.Near.{near_of}
use Rattle.pair_events.specs.declared.hpair.HPair.{HPair}
use Rattle.live_queries.specs.InHandles.{touching, pair_of, slots_in, AreCurrent}
use Rattle.live_queries.specs.Pairs.{pairs_of}
use Rattle.live_queries.proofs.Touches.{touching-near}

-- what is found by a slot has it
at_slot : (s : ℕ) (es : List Live) (e : Live) → live_at s es ≡ Some e → slot_of e ≡ s
at_slot s [] e h = absurd (cc)
at_slot s (x ∷ xs) e h =
    elim (slot_of x == s) as (λ t. (slot_of x == s) ≡ t → cond t (Some x) (live_at s xs) ≡ Some e → slot_of e ≡ s) [
      | true ↦ λ is this. let same : x ≡ e = cc in ap slot_of (sym same) ∙ eqb-true (slot_of x) s is
      | false ↦ λ _ later. at_slot s xs e later
    ] refl h

-- the pair of two slots has them
pub touching_slots : (es : List Live) (p : Pair) (h : HPair) → touching es p ≡ Some h → slots_in h ≡ p
touching_slots es p h is =
    elim (live_at p.a es) as (λ o. live_at p.a es ≡ o → pair_of o (live_at p.b es) ≡ Some h → slots_in h ≡ p) [
      | None ↦ λ _ none. absurd (cc)
      | Some a ↦ λ at_a.
          elim (live_at p.b es) as (λ o. live_at p.b es ≡ o → pair_of (Some a) o ≡ Some h → slots_in h ≡ p) [
            | None ↦ λ _ none. absurd (cc)
            | Some b ↦ λ at_b.
                elim (may a b) as (λ t. cond t (Some (record { a = a.handle; b = b.handle })) None ≡ Some h → slots_in h ≡ p) [
                  | false ↦ λ none. absurd (cc)
                  | true ↦ λ this.
                      let same : record { a = a.handle; b = b.handle } ≡ h = cc in
                      ap slots_in (sym same) ∙ ap (λ s. record { a = s; b = slot_of b }) (at_slot p.a es a at_a)
                      ∙ ap (λ s. record { a = p.a; b = s }) (at_slot p.b es b at_b)
                ]
          ] refl
    ] refl is

made_current : (es : List Live) (ps : List Pair) → AreCurrent es (filter_map (touching es) ps)
made_current es [] = tt
made_current es (p ∷ ps) =
    elim (touching es p) as (λ o. touching es p ≡ o → AreCurrent es (cons_option o (filter_map (touching es) ps))) [
      | None ↦ λ _. made_current es ps
      | Some h ↦ λ is. (ap (touching es) (touching_slots es p h is) ∙ is, made_current es ps)
    ] refl

pub pairs_current : (t : Table) → IsTable t → AreCurrent t.entries (pairs_of t.entries)
pairs_current t is = subst (AreCurrent t.entries) (touching-near t.entries is.rising) (made_current t.entries (near_of (slots_with_bodies t.entries)))

-- a box that may have moved
abbrev moved : Handle → Bounds → Live → Live
moved h body e = cond (has h e) (record e { body = body }) e

same_slot : (h : Handle) (body : Bounds) (e : Live) → slot_of (moved h body e) ≡ slot_of e
same_slot h body e = elim (has h e) as (λ t. slot_of (cond t (record e { body = body }) e) ≡ slot_of e) [ true ↦ refl | false ↦ refl ]

moved_at : (s : ℕ) (h : Handle) (body : Bounds) (es : List Live) → live_at s (with_body h body es) ≡ option_map (moved h body) (live_at s es)
moved_at s h body [] = refl
moved_at s h body (x ∷ xs) =
    ap (λ n. cond (n == s) (Some (moved h body x)) (live_at s (with_body h body xs))) (same_slot h body x)
    ∙ elim (slot_of x == s) as (λ t. cond t (Some (moved h body x)) (live_at s (with_body h body xs)) ≡ option_map (moved h body) (cond t (Some x) (live_at s xs))) [
      | true ↦ refl
      | false ↦ moved_at s h body xs
    ]

-- whether two boxes may pair is no matter of where they are
same_pair_of : (h : Handle) (body : Bounds) (o q : Option Live) → pair_of (option_map (moved h body) o) (option_map (moved h body) q) ≡ pair_of o q
same_pair_of h body None q = refl
same_pair_of h body (Some a) None = refl
same_pair_of h body (Some a) (Some b) =
    elim (has h a) as (λ t. pair_of (Some (cond t (record a { body = body }) a)) (Some (moved h body b)) ≡ pair_of (Some a) (Some b)) [
      | true ↦ elim (has h b) as (λ t. pair_of (Some (record a { body = body })) (Some (cond t (record b { body = body }) b)) ≡ pair_of (Some a) (Some b)) [
        | true ↦ refl
        | false ↦ refl
      ]
      | false ↦ elim (has h b) as (λ t. pair_of (Some a) (Some (cond t (record b { body = body }) b)) ≡ pair_of (Some a) (Some b)) [
        | true ↦ refl
        | false ↦ refl
      ]
    ]

moved_touching : (es : List Live) (h : Handle) (body : Bounds) (p : Pair) → touching (with_body h body es) p ≡ touching es p
moved_touching es h body p =
    ap (λ o. pair_of o (live_at p.b (with_body h body es))) (moved_at p.a h body es)
    ∙ ap (pair_of (option_map (moved h body) (live_at p.a es))) (moved_at p.b h body es)
    ∙ same_pair_of h body (live_at p.a es) (live_at p.b es)

pub moved_current : (es : List Live) (ps : List HPair) (h : Handle) (body : Bounds) → AreCurrent es ps → AreCurrent (with_body h body es) ps
moved_current es [] h body are = tt
moved_current es (p ∷ ps) h body are = (moved_touching es h body (slots_in p) ∙ are.0, moved_current es ps h body are.1)

-- a box that came is found under its own slot alone
entered_at : (s : ℕ) (live : Live) (es : List Live) → (slot_of live == s) ≡ false → live_at s (entered live es) ≡ live_at s es
entered_at s live [] other = ap (λ t. cond t (Some live) None) other
entered_at s live (e ∷ es) other =
    elim (nat_lt (slot_of e) (slot_of live)) as (λ t. live_at s (cond t (e ∷ entered live es) (live ∷ e ∷ es)) ≡ live_at s (e ∷ es)) [
      | true ↦ ap (λ o. cond (slot_of e == s) (Some e) o) (entered_at s live es other)
      | false ↦ ap (λ t. cond t (Some live) (live_at s (e ∷ es))) other
    ]

-- a slot that a live box has isn't one that none has
other_slot : (s : ℕ) (live : Live) (es : List Live) → live_at (slot_of live) es ≡ None → is_some (live_at s es) ≡ true → (slot_of live == s) ≡ false
other_slot s live es none some = elim (slot_of live == s) as (λ t. (slot_of live == s) ≡ t → t ≡ false) [
  | false ↦ λ _. refl
  | true ↦ λ same.
      let is : slot_of live ≡ s = eqb-true (slot_of live) s same in
      absurd (false≢true (sym (ap is_some (ap (λ k. live_at k es) (sym is) ∙ none)) ∙ some))
] refl

-- both boxes of a pair are live
first_live : (o q : Option Live) (p : HPair) → pair_of o q ≡ Some p → is_some o ≡ true
first_live None q p h = absurd (cc)
first_live (Some a) q p h = refl

second_live : (o q : Option Live) (p : HPair) → pair_of o q ≡ Some p → is_some q ≡ true
second_live None q p h = absurd (cc)
second_live (Some a) None p h = absurd (cc)
second_live (Some a) (Some b) p h = refl

pub entered_current : (es : List Live) (ps : List HPair) (live : Live) → live_at (slot_of live) es ≡ None → AreCurrent es ps → AreCurrent (entered live es) ps
entered_current es [] live none are = tt
entered_current es (p ∷ ps) live none are =
    let a = first_live (live_at p.a.slot es) (live_at p.b.slot es) p are.0 in
    let b = second_live (live_at p.a.slot es) (live_at p.b.slot es) p are.0 in (
      ap (λ o. pair_of o (live_at p.b.slot (entered live es))) (entered_at p.a.slot live es (other_slot p.a.slot live es none a))
          ∙ ap (pair_of (live_at p.a.slot es)) (entered_at p.b.slot live es (other_slot p.b.slot live es none b)) ∙ are.0,
      entered_current es ps live none are.1,
    )
