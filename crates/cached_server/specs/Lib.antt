pub mod Script
pub mod Lines
pub mod Outbox
pub mod Loads
