pub mod Failures
pub mod Sent
pub mod Sources
pub mod Watched
