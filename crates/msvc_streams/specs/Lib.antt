pub mod Faults
pub mod Polled
pub mod Runs
pub mod Streams
pub mod Taking
