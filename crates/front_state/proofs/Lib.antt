pub mod Steady
mod Accessed
mod Beginning
mod Covered
mod Halves
pub mod Seen
