pub mod Fronts
pub mod Points
pub mod Just
pub mod Sweeping
pub mod Showing
