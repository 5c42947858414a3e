mod BucketLemmas
mod CutLemmas
mod DueLemmas
mod HitLemmas
mod PairLemmas
mod PartnerLemmas
mod RunLemmas
mod VisitLemmas
