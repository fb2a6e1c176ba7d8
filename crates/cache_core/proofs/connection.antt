pub mod Pieces
pub mod Putting
mod Reruns
