pub mod Ending
pub mod Stopping
pub mod Twice
pub mod Calling
pub mod Gathered
pub mod Telling
pub mod Scripting
