pub mod Deques
