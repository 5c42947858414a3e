pub mod Links
pub mod NodeLaws
pub mod NodeList
