pub mod CallSequence
pub mod FirstByte
pub mod LastLine
pub mod Polling
pub mod WholeLines
