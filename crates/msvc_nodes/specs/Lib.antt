pub mod BaseTypes
pub mod Decided
pub mod EachName
pub mod Equality
pub mod Errors
pub mod NodeView
pub mod PlainOperators
pub mod Trees
