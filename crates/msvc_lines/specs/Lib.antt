pub mod Answers
pub mod Arguments
pub mod LineRuns
pub mod Lines
pub mod Reports
