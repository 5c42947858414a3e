mod ExchangeLemmas
mod LinkLemmas
pub mod NodeLemmas
mod PushLemmas
mod PutLemmas
mod UnlinkLemmas
