pub mod Pairs
pub mod Keyed
pub mod Fronts
