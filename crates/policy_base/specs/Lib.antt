pub mod Region
pub mod Info
pub mod Operations
pub mod Cells
pub mod Counts
