pub mod InputRun
pub mod Prints
