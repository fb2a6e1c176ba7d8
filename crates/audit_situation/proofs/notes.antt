pub mod Weighing
pub mod Judging
pub mod Passing
