pub mod Calling
pub mod Changing
pub mod Ordered
pub mod Settling
