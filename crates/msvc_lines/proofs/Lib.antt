pub mod LineRun
pub mod LineTexts
pub mod Pieces
pub mod SymbolRun
pub mod Texts
