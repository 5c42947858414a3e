-- Which pairs of live boxes there are, whatever the order in which they are listed.
use Rattle.std.specs.Prelude.{◌≡◌, ◌<◌, true, List}
use Rattle.std.specs.List.{Contains}
use Rattle.live_table.specs.declared.live.Live.{Live}
use Rattle.live_table.specs.Entries.{slot_of}
use Rattle.pair_events.specs.declared.hpair.HPair.{HPair}
use Rattle.live_queries.specs.Pairs.{may_touch}

-- Two live boxes that meet and may pair, by their handles, that of the lower slot first.
pub record IsPairOf (entries : List Live) (pair : HPair) : Type 0 where
  pub first : Live
  pub second : Live
  pub first_lives : Contains entries first
  pub second_lives : Contains entries second
  pub lower : slot_of first < slot_of second
  pub touch : may_touch first second ≡ true
  pub is : pair ≡ record { a = first.handle; b = second.handle }
