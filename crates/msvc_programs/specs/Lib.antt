pub mod Faults
pub mod Filters
pub mod Programs
