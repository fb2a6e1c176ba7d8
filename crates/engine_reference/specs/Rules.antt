pub mod Changes
pub mod Hashing
