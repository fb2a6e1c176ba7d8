pub mod Calls
pub mod Turning
pub mod Making
pub mod Told
pub mod Indexing
