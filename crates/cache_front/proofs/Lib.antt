pub mod Blocks
pub mod parts
pub mod kept
pub mod whole
