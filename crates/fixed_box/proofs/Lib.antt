pub mod Bools
pub mod BoxLaws
pub mod Corners
mod DigitRuns
mod Levels
pub mod Lists
pub mod Numbers
mod PutsThen
mod RoundTrip
mod Shown
mod Spaced
