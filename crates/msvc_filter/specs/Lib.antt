pub mod Choices
pub mod Colors
pub mod FilterRuns
pub mod Filtered
pub mod Shown
pub mod SliceWriters
pub mod SymbolBounds
pub mod WordStates
