pub mod Goings
pub mod LoadsSettled
pub mod Pairs
pub mod SetApart
pub mod Turning
pub mod Wiring
