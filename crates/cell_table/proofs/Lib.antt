mod EachLemmas
mod KeptLemmas
mod ListedLemmas
mod RingLemmas
mod RowLemmas
mod TurnedRings
