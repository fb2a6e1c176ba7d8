pub mod Alone
pub mod Apart
pub mod Closed
pub mod Keys
pub mod Sending
pub mod Tidy
