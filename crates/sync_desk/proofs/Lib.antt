pub mod Removing
pub mod Preparing
pub mod Refusing
pub mod Telling
pub mod Computing
