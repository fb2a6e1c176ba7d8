pub mod Known
pub mod Slots
pub mod Seeing
pub mod Holds
pub mod Weights
