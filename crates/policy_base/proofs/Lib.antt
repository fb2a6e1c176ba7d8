pub mod Names
pub mod Sound
pub mod Nibbles
pub mod Steps
pub mod Own
