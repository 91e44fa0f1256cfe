pub mod EqualityLemmas
pub mod Kept
pub mod Lists
pub mod NodeLaws
pub mod NodeLists
pub mod Ownable
pub mod Seen
pub mod Views
