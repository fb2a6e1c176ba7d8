pub mod RunsKeep
pub mod Keeping
pub mod Afterwards
pub mod Shown
pub mod Passing
pub mod Taking
