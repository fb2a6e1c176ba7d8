pub mod Around
pub mod Tables
pub mod Moving
pub mod Putting
