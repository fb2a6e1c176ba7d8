pub mod Timers
pub mod Pending
pub mod Whole
