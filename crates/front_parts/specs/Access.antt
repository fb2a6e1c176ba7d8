pub mod Answering
pub mod Entries
pub mod Selecting
