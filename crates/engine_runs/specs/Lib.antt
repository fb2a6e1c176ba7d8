pub mod Deciding
pub mod Contesting
pub mod Displacing
pub mod Fronts
pub mod Stretches
pub mod Covered
pub mod Tables
