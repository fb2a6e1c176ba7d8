pub mod Identifying
pub mod Keeping
pub mod Storing
