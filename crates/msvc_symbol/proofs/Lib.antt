pub mod Demangled
pub mod Failed
pub mod Lawful
