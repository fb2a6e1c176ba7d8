pub mod Presence
pub mod Residents
pub mod Words
