pub mod Weights
pub mod Deeds
pub mod Scenes
pub mod After
