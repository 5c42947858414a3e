-- The answers of an index of slots, in handles.
use Rattle.std.specs.Prelude.{◌≡◌, ℕ, List, [], ◌∷◌, if◌then◌else◌, Option, Some, None}
use Rattle.live_table.specs.declared.handle.Handle.{Handle}
use Rattle.live_table.specs.declared.live.Live.{Live}
use Rattle.live_table.specs.Entries.{live_at}
use Rattle.live_table.specs.Pairing.{may}
use Rattle.broad_index.specs.declared.pair.Pair.{Pair}
use Rattle.pair_events.specs.declared.hpair.HPair.{HPair}
use Rattle.live_queries.specs.declared.groups.Groups.{Groups}
use Rattle.live_queries.specs.Pairs.{is_asked_for}

-- two live boxes as a pair, where they may pair
abbrev pub pair_of : Option Live → Option Live → Option HPair
pair_of None b = None
pair_of (Some a) None = None
pair_of (Some a) (Some b) = if may a b then Some (record { a = a.handle; b = b.handle }) else None

-- the pair of two slots
abbrev pub touching : List Live → Pair → Option HPair
touching entries pair = pair_of (live_at pair.a entries) (live_at pair.b entries)

-- the slots of a pair
abbrev pub slots_in : HPair → Pair
slots_in pair = record { a = pair.a.slot; b = pair.b.slot }

-- Each of some pairs is that of its slots: both boxes are live, and may pair.
abbrev pub AreCurrent : List Live → List HPair → Type 0
AreCurrent entries [] = Unit {0}
AreCurrent entries (pair ∷ pairs) = (touching entries (slots_in pair) ≡ Some pair) × AreCurrent entries pairs

-- a live box by its handle, where it is in one of the groups that are asked for
abbrev pub listed_of : Groups → Option Live → Option Handle
listed_of groups None = None
listed_of groups (Some entry) = if is_asked_for groups entry then Some entry.handle else None

-- the box of a slot
abbrev pub listed : List Live → Groups → ℕ → Option Handle
listed entries groups slot = listed_of groups (live_at slot entries)
