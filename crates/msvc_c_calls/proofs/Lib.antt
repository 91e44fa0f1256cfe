mod Cuts
pub mod Filters
pub mod Found
pub mod Rejected
