pub mod Demangled
pub mod Failures
pub mod Grammars
pub mod Steps
