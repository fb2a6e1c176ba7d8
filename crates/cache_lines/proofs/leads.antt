pub mod Leading
pub mod Settling
pub mod Waits
