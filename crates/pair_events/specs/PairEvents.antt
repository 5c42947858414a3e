-- What has changed between the pairs of two frames.
use Rattle.std.specs.Prelude.{Bool, true, false, not, ◌&&◌, ◌||◌, ◌==◌, nat_lt, List, [], ◌∷◌, ◌++◌, map, filter, if◌then◌else◌}
use Rattle.std.specs.List.{list_any, list_all}
use Rattle.slot_lists.specs.Rising.{rises_by}
use Rattle.live_table.specs.declared.handle.Handle.{Handle}
use Rattle.pair_events.specs.declared.hpair.HPair.{HPair}
use Rattle.pair_events.specs.declared.told.Told.{Told}
use Rattle.pair_events.specs.declared.told.Event.{Event}
use Rattle.pair_events.specs.declared.told.Event.TheVariants.{Begin, Stay, Over}

-- A handle is a slot and a generation.
abbrev pub same_handle : Handle → Handle → Bool
same_handle h k = h.slot == k.slot && h.generation == k.generation

-- A pair is two handles, so the generation counts.
abbrev pub same_pair : HPair → HPair → Bool
same_pair p q = same_handle p.a q.a && same_handle p.b q.b

-- whether the pair is among them
abbrev pub has : List HPair → HPair → Bool
has pairs p = list_any (same_pair p) pairs

-- each present pair in order: it stays where it was there before, and begins where it wasn't
abbrev pub kept_or_begun : List HPair → List HPair → List Told
kept_or_begun before now = map (λ p. record { event = if has before p then Stay else Begin; pair = p }) now

-- each former pair in order that isn't there any more
abbrev pub ended : List HPair → List HPair → List Told
ended before now = map (λ p. record { event = Over; pair = p }) (filter (λ p. not (has now p)) before)

-- what is told of a frame
abbrev pub events : List HPair → List HPair → List Told
events before now = kept_or_begun before now ++ ended before now

-- Those of some pairs, in order, that others haven't: of the present ones those that began, of the former ones those that are over.
abbrev pub missing : List HPair → List HPair → List HPair
missing pairs others = filter (λ p. not (has others p)) pairs

-- the pairs that began are told, and then those that are over
abbrev pub changes : List HPair → List HPair → List Told
changes began over = map (λ p. record { event = Begin; pair = p }) began ++ map (λ p. record { event = Over; pair = p }) over

-- What is told of a frame's pairs, of which some began, and of those that are over: each pair stays that isn't the next one that began.
abbrev pub told_of : List HPair → List HPair → List HPair → List Told
told_of [] began over = map (λ p. record { event = Over; pair = p }) over
told_of (p ∷ pairs) [] over = record { event = Stay; pair = p } ∷ told_of pairs [] over
told_of (p ∷ pairs) (b ∷ began) over =
    if same_pair p b then record { event = Begin; pair = p } ∷ told_of pairs began over
    else record { event = Stay; pair = p } ∷ told_of pairs (b ∷ began) over

abbrev pub changes_by : Event → Bool
changes_by Begin = true
changes_by Stay = false
changes_by Over = true

-- an event of a pair that didn't stay
abbrev pub is_change : Told → Bool
is_change told = changes_by told.event

-- by the first slot, and then by the second
abbrev pub precedes : HPair → HPair → Bool
precedes p q = nat_lt p.a.slot q.a.slot || (p.a.slot == q.a.slot && nat_lt p.b.slot q.b.slot)

-- each pair stands before all later ones
abbrev pub rises : List HPair → Bool
rises pairs = rises_by precedes pairs

-- the pairs rise, and in each the first slot is the lower one
abbrev pub is_in_order : List HPair → Bool
is_in_order pairs = list_all (λ p. nat_lt p.a.slot p.b.slot) pairs && rises pairs
