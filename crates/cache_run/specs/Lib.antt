pub mod Devices
pub mod Driver
pub mod Worlds
pub mod Happened
pub mod Connected
pub mod Loading
pub mod Lent
pub mod Runs
