mod Parts
pub mod Lasts
