pub mod Contexts
pub mod Decisions
pub mod NodeLists
pub mod NodeViews
pub mod TreeSizes
