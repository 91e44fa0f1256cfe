pub mod Items
pub mod Literals
pub mod TreeText
pub mod Words
