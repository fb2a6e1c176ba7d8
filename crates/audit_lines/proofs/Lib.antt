pub mod Digits
pub mod Cuts
pub mod Returns
pub mod Lines
pub mod Values
pub mod Words
