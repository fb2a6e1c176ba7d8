pub mod Looked
pub mod HeldAfter
pub mod Answered
pub mod Options
