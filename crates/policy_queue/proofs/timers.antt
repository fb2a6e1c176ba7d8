pub mod Spreads
pub mod Shifts
pub mod Comings
pub mod Arrays
pub mod Wheels
pub mod Advance
pub mod Draining
