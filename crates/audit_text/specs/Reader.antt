pub mod Entries
pub mod Fields
pub mod Fits
pub mod Gathered
pub mod Gathering
pub mod Inputs
pub mod Items
pub mod Lines
