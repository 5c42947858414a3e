mod BucketLemmas
mod ColumnLemmas
mod CopyLemmas
mod GridLemmas
mod HullLemmas
mod MapLemmas
mod PoolLemmas
mod StandingLemmas
