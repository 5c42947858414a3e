mod OptionWords
mod TaskOutcomes
