-- What still holds of the last frame after a box moved or came.
use Rattle.std.proofs.Common.{◌≡◌, ◌≢◌, ◌==◌, ℕ, cond, List, [], ◌∷◌, None, Some, refl, subst, sym, ap, ◌∙◌, inl, inr}
use Rattle.std.specs.List.{All, AllByRecursion}
use Rattle.std.proofs.lemmas.List.Elements.{recursion_from_All}
use Rattle.std.proofs.lemmas.Bool.Decides.{eqb_tells}
use Rattle.fixed_box.specs.Bounds.{Bounds}
use Rattle.live_table.specs.declared.handle.Handle.{Handle}
use Rattle.live_table.specs.declared.live.Live.{Live}
use Rattle.live_table.specs.Entries.{slot_of, live_at, entered, with_body}
use Rattle.live_table.specs.Table.{Table, IsTable}
use Rattle.pair_events.specs.declared.hpair.HPair.{HPair}
use Rattle.live_queries.specs.InHandles.{AreCurrent}
use Rattle.live_queries.specs.Pairs.{pairs_of}
use Rattle.box_world.specs.declared.since.Since.{Since}
use Rattle.box_world.specs.declared.since.Since.TheVariants.{Changed, Current, Same}
use Rattle.box_world.specs.Parts.{StillHolds, still_current}

abbrev pub PairsAreCurrent : Type 0
PairsAreCurrent = (t : Table) → IsTable t → AreCurrent t.entries (pairs_of t.entries)

abbrev pub MovedAreCurrent : Type 0
MovedAreCurrent =
    (es : List Live) (pairs : List HPair) (handle : Handle) (body : Bounds) → AreCurrent es pairs → AreCurrent (with_body handle body es) pairs

pub still_holds : PairsAreCurrent → MovedAreCurrent → (since : Since) (t : Table) (last : List HPair) (handle : Handle) (body : Bounds) → IsTable t
    → StillHolds since t.entries last → StillHolds (still_current since) (with_body handle body t.entries) last
still_holds pairs moved Changed t last handle body is holds = tt
still_holds pairs moved Current t last handle body is holds = moved t.entries last handle body holds
still_holds pairs moved Same t last handle body is holds =
    moved t.entries last handle body (subst (AreCurrent t.entries) (sym holds) (pairs t is))

abbrev pub EnteredAreCurrent : Type 0
EnteredAreCurrent =
    (es : List Live) (pairs : List HPair) (live : Live) → live_at (slot_of live) es ≡ None → AreCurrent es pairs → AreCurrent (entered live es) pairs

none_at : (slot : ℕ) (es : List Live) → AllByRecursion (λ e. slot_of e ≢ slot) es → live_at slot es ≡ None
none_at slot [] free = refl
none_at slot (e ∷ es) free = elim (eqb_tells (slot_of e) slot) as (λ _. cond (slot_of e == slot) (Some e) (live_at slot es) ≡ None) [
  | inl t ↦ absurd (free.0 t.1)
  | inr t ↦ ap (λ b. cond b (Some e) (live_at slot es)) t.0 ∙ none_at slot es free.1
]

pub still_holds_with : PairsAreCurrent → EnteredAreCurrent → (since : Since) (t : Table) (last : List HPair) (live : Live) → IsTable t
    → All (λ e. slot_of e ≢ slot_of live) t.entries → StillHolds since t.entries last → StillHolds (still_current since) (entered live t.entries) last
still_holds_with pairs come Changed t last live is free holds = tt
still_holds_with pairs come Current t last live is free holds =
    come t.entries last live (none_at (slot_of live) t.entries (recursion_from_All (λ e. slot_of e ≢ slot_of live) t.entries free)) holds
still_holds_with pairs come Same t last live is free holds =
    come t.entries last live (none_at (slot_of live) t.entries (recursion_from_All (λ e. slot_of e ≢ slot_of live) t.entries free))
    (subst (AreCurrent t.entries) (sym holds) (pairs t is))
