pub mod Agreeing
pub mod Dropped
