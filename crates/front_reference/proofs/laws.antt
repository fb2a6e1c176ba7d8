pub mod Close
pub mod Staying
pub mod Kept
