pub mod Doings
pub mod Showing
pub mod Judging
