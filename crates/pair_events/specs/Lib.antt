pub mod MissingLaws
pub mod PairEvents
