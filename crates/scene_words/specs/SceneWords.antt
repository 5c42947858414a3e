-- What a line of a scene says: a command, or the first fault.
use Rattle.std.specs.Prelude.{ℕ, ℤ, Bool, true, false, ◌||◌, ◌==◌, List, [], ◌∷◌, filter, if◌then◌else◌, Option, Some, None, Result, Ok}
use Rattle.std.specs.Prelude.{Err}
use Rattle.std.specs.List.{slice_split, before_first}
use Rattle.fixed_box.specs.declared.point.Point.{Point}
use Rattle.fixed_box.specs.Bounds.{Bounds}
use Rattle.fixed_box.specs.Point.{is_at_most}
use Rattle.live_table.specs.declared.group.Group.{Group}
use Rattle.live_table.specs.declared.handle.Handle.{Handle}
use Rattle.live_table.specs.declared.masks.Masks.{Masks}
use Rattle.ray_slabs.specs.Vector.{widened}
use Rattle.scene_words.specs.declared.command.Command.{Command}
use Rattle.scene_words.specs.declared.command.Command.TheVariants.{Blank, Header, Add, Move, Mask, Remove, Frame, BoxQ, PointQ, RayQ, SegQ, Cast, Near, Mark}
use Rattle.scene_words.specs.declared.command.Command.TheVariants.{Back}
use Rattle.scene_words.specs.declared.line_fault.LineFault.{LineFault}
use Rattle.scene_words.specs.declared.line_fault.LineFault.TheVariants as fault
use Rattle.scene_words.specs.declared.verb.Verb.{Verb}
use Rattle.scene_words.specs.declared.verb.Verb.TheVariants as verb
use Rattle.scene_words.specs.declared.version.Version.{Version}
use Rattle.scene_words.specs.Tails.{Tail, tail_of, counted}
use Rattle.scene_words.specs.Values.{number_of_word, handle_of_word, mask_of_word, owner_of_word, want_of_word}
use Rattle.scene_words.specs.Verbs.{verb_of, since, reaches, allows, version_of}

-- space and tab
abbrev pub is_blank : ℕ → Bool
is_blank b = b == 32 || b == 9

-- the sign at which a comment begins
abbrev pub is_hash : ℕ → Bool
is_hash b = b == 35

-- whether a piece between blanks is a word
abbrev pub is_word : List ℕ → Bool
is_word [] = false
is_word (b ∷ bs) = true

-- the longest runs of bytes other than blanks, before the first hash
abbrev pub words : List ℕ → List (List ℕ)
words line = filter is_word (slice_split is_blank (before_first is_hash line))

-- reading goes on where it hasn't failed
infixl 10 ◌>>=◌
abbrev pub ◌>>=◌ : {A B : Type 0} → Result A LineFault → (A → Result B LineFault) → Result B LineFault
(Ok x) >>= f = f x
(Err e) >>= f = Err e

-- the value of the first word, and the words after it. Where there is none, their number was wrong.
abbrev pub first_as : {A : Type 0} → (List ℕ → Result A LineFault) → List (List ℕ) → Result (A × List (List ℕ)) LineFault
first_as value [] = Err fault.Count
first_as value (word ∷ more) = value word >>= λ x. Ok (x, more)

-- a number, a handle or a mask at the front
abbrev pub number_at : List (List ℕ) → Result (ℤ × List (List ℕ)) LineFault
number_at = first_as number_of_word

abbrev pub handle_at : List (List ℕ) → Result (Handle × List (List ℕ)) LineFault
handle_at = first_as handle_of_word

abbrev pub mask_at : List (List ℕ) → Result (ℕ × List (List ℕ)) LineFault
mask_at = first_as mask_of_word

abbrev pub want_at : List (List ℕ) → Result (ℕ × List (List ℕ)) LineFault
want_at = first_as want_of_word

-- a mask that may be left out
abbrev pub mask_or : ℕ → List (List ℕ) → Result (ℕ × List (List ℕ)) LineFault
mask_or default [] = Ok (default, [])
mask_or default (word ∷ more) = mask_at (word ∷ more)

-- three numbers, from left to right
unfoldable pub point_at : List (List ℕ) → Result (Point × List (List ℕ)) LineFault
point_at ws = number_at ws >>= λ x. number_at x.1 >>= λ y. number_at y.1 >>= λ z. Ok (record { x = x.0; y = y.0; z = z.0 }, z.1)

-- the box between two corners
abbrev pub box_between : Point → Point → Result Bounds LineFault
box_between lo hi = if is_at_most lo hi then Ok (record { lo = lo; hi = hi }) else Err fault.Inverted

-- the group that a new box is in, where none is named
abbrev pub first_group : ℕ
first_group = 1

-- the mask of all 32 groups
abbrev pub every_group : ℕ
every_group = 4294967295

-- what a new box is, then what it sees
abbrev pub masks_of : List (List ℕ) → Result Masks LineFault
masks_of ws = mask_or first_group ws >>= λ groups. mask_or every_group groups.1 >>= λ seen. Ok (record { is = groups.0; sees = seen.0 })

-- whose it is, and whether it is fixed. It is nobody's where no owner is named.
abbrev pub group_of : Option (List ℕ) → Bool → Result Group LineFault
group_of None fixed = Ok (record { owner = 0; fixed = fixed })
group_of (Some word) fixed = owner_of_word word >>= λ owner. Ok (record { owner = owner; fixed = fixed })

-- the masks and the group of a new box
abbrev pub labels_of : Tail → Result (Masks × Group) LineFault
labels_of t = masks_of t.plain >>= λ masks. group_of t.owner t.flagged >>= λ group. Ok (masks, group)

-- `add`: two corners, then the masks and the group
unfoldable pub add_of : Version → List (List ℕ) → Result Command LineFault
add_of version ws = point_at ws >>= λ lo. point_at lo.1 >>= λ hi. labels_of (tail_of verb.Add version hi.1) >>= λ labels.
    box_between lo.0 hi.0 >>= λ bounds. Ok (Add bounds labels.0 labels.1)

-- `move`: a handle, then two corners
unfoldable pub move_of : List (List ℕ) → Result Command LineFault
move_of ws = handle_at ws >>= λ name. point_at name.1 >>= λ lo. point_at lo.1 >>= λ hi. box_between lo.0 hi.0 >>= λ bounds. Ok (Move name.0 bounds)

-- `mask`: a handle, then what the box is, then what it sees
unfoldable pub mask_of : List (List ℕ) → Result Command LineFault
mask_of ws = handle_at ws >>= λ name. mask_at name.1 >>= λ groups. mask_at groups.1 >>= λ seen. Ok (Mask name.0 (record { is = groups.0; sees = seen.0 }))

-- `remove`: a handle
abbrev pub remove_of : List (List ℕ) → Result Command LineFault
remove_of ws = handle_at ws >>= λ name. Ok (Remove name.0)

-- `box`: two corners, then the groups that are asked for
unfoldable pub box_of : List (List ℕ) → Result Command LineFault
box_of ws = point_at ws >>= λ lo. point_at lo.1 >>= λ hi. mask_or every_group hi.1 >>= λ groups. box_between lo.0 hi.0 >>= λ bounds. Ok
    (BoxQ bounds groups.0)

-- `point`: a point, then the groups
unfoldable pub point_of : List (List ℕ) → Result Command LineFault
point_of ws = point_at ws >>= λ p. mask_or every_group p.1 >>= λ groups. Ok (PointQ p.0 groups.0)

-- the groups that a ray asks for, and whether it lists them by entry
abbrev pub listing_of : Tail → Result (ℕ × Bool) LineFault
listing_of t = mask_or every_group t.plain >>= λ groups. Ok (groups.0, t.flagged)

-- `ray`: its start, then its direction, then what it lists
unfoldable pub ray_of : Version → List (List ℕ) → Result Command LineFault
ray_of version ws = point_at ws >>= λ start. point_at start.1 >>= λ along. listing_of (tail_of verb.Ray version along.1) >>= λ listing.
    Ok (RayQ (record { from = widened start.0; dir = widened along.0 }) listing.0 listing.1)

-- `seg`: its two ends, then the groups
unfoldable pub seg_of : List (List ℕ) → Result Command LineFault
seg_of ws = point_at ws >>= λ p. point_at p.1 >>= λ q. mask_or every_group q.1 >>= λ groups. Ok (SegQ (record { a = widened p.0; b = widened q.0 }) groups.0)

-- `cast`: two corners, then the way, then the groups
unfoldable pub cast_of : List (List ℕ) → Result Command LineFault
cast_of ws = point_at ws >>= λ lo. point_at lo.1 >>= λ hi. point_at hi.1 >>= λ way. mask_or every_group way.1 >>= λ groups.
    box_between lo.0 hi.0 >>= λ bounds. Ok (Cast (record { body = bounds; by = way.0 }) groups.0)

-- `near`: a point, then how many, then the groups
unfoldable pub near_of : List (List ℕ) → Result Command LineFault
near_of ws = point_at ws >>= λ p. want_at p.1 >>= λ want. mask_or every_group want.1 >>= λ groups. Ok (Near p.0 want.0 groups.0)

-- the version's word
abbrev pub header_for : Option Version → Result Command LineFault
header_for None = Err fault.Header
header_for (Some version) = Ok (Header version)

-- `scene`: the word of any version, alone
abbrev pub header_of : List (List ℕ) → Result Command LineFault
header_of [] = Err fault.Header
header_of (word ∷ []) = header_for (version_of word)
header_of (word ∷ next ∷ more) = Err fault.Header

-- what so many words as are allowed say
abbrev pub further_of : Version → Verb → List (List ℕ) → Result Command LineFault
further_of version verb.Scene ws = header_of ws
further_of version verb.Add ws = add_of version ws
further_of version verb.Move ws = move_of ws
further_of version verb.Mask ws = mask_of ws
further_of version verb.Remove ws = remove_of ws
further_of version verb.Frame ws = Ok Frame
further_of version verb.Box ws = box_of ws
further_of version verb.Point ws = point_of ws
further_of version verb.Ray ws = ray_of version ws
further_of version verb.Seg ws = seg_of ws
further_of version verb.Cast ws = cast_of ws
further_of version verb.Near ws = near_of ws
further_of version verb.Mark ws = Ok Mark
further_of version verb.Back ws = Ok Back

-- the number of words comes before what they say
abbrev pub by_count : Version → Verb → List (List ℕ) → Result Command LineFault
by_count version v ws = if allows v (counted v version ws) then further_of version v ws else Err fault.Count

-- by the first word, where the version has it
abbrev pub by_verb : Version → Option Verb → List (List ℕ) → Result Command LineFault
by_verb version None ws = Err fault.Word
by_verb version (Some v) ws = if reaches (since v) version then by_count version v ws else Err fault.Word

-- what words say, the first of which is the command's
unfoldable pub command_of : Version → List (List ℕ) → Result Command LineFault
command_of version [] = Ok Blank
command_of version (word ∷ more) = by_verb version (verb_of word) more

-- What a line says under a version of the format, or the first fault.
abbrev pub command : Version → List ℕ → Result Command LineFault
command version line = command_of version (words line)
