pub mod Newly
