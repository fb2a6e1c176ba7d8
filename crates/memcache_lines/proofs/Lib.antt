pub mod Splits
pub mod Digits
pub mod Returns
pub mod Searches
