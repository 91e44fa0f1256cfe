pub mod Items
pub mod ListTexts
pub mod Texts
