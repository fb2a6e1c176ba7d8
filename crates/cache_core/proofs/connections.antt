pub mod Getting
pub mod Listed
pub mod Matching
pub mod Streaks
pub mod Saying
