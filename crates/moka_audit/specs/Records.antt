pub mod Auditing
pub mod Due
pub mod Tidy
pub mod Verdicts
