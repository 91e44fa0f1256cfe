pub mod Characters
pub mod Checks
pub mod DigitPlaces
pub mod Hashes
pub mod Hexadecimal
pub mod Laws
pub mod NamesInText
pub mod NodesCounted
