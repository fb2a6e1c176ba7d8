pub mod Apart
pub mod Counted
pub mod Lines
pub mod Loads
pub mod Turns
pub mod Wires
