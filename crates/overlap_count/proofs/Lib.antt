mod DigitLemmas
mod PairLemmas
mod SetLemmas
mod SpreadLemmas
mod TableLemmas
