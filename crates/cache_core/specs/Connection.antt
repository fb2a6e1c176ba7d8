pub mod Fed
pub mod Fits
pub mod Parts
pub mod Shown
pub mod Taken
