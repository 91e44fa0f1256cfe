pub mod PlainWords
pub mod BehindTable
