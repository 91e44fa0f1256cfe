pub mod Checks
pub mod Dialects
pub mod DigitPlaces
pub mod FullFacts
pub mod Laws
pub mod NamesInText
pub mod NodesCounted
