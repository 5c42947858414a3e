pub mod JobOutcome
pub mod JobWords
