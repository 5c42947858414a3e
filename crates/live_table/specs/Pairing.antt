-- Which boxes may pair.
use Rattle.std.specs.Prelude.{Bool, not, ◌&&◌, ◌==◌, bit_and}
use Rattle.live_table.specs.declared.group.Group.{Group}
use Rattle.live_table.specs.declared.live.Live.{Live}
use Rattle.live_table.specs.declared.masks.Masks.{Masks}

-- each of two boxes sees a group that the other is in
abbrev pub both_see : Masks → Masks → Bool
both_see a b = not (bit_and a.is b.sees == 0) && not (bit_and b.is a.sees == 0)

-- Somebody owns both. Owner 0 is nobody.
abbrev pub one_owner : Group → Group → Bool
one_owner a b = a.owner == b.owner && not (a.owner == 0)

-- Two boxes may pair where each sees the other, nobody owns both, and they aren't both fixed.
abbrev pub may : Live → Live → Bool
may a b = both_see a.masks b.masks && not (one_owner a.group b.group) && not (a.group.fixed && b.group.fixed)
