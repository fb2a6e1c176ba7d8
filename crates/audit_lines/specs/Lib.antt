pub mod Unread
pub mod Next
pub mod Request
