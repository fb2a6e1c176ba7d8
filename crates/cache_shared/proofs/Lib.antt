pub mod Configured
pub mod Guarding
pub mod Performing
pub mod Stepping
pub mod Moving
pub mod Causes
