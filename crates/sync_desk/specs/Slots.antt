pub mod Endings
pub mod Refusals
pub mod Waiting
