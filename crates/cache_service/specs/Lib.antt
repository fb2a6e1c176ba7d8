pub mod Served
pub mod Cutting
pub mod Asked
pub mod Exchanged
pub mod Telling
pub mod Sitting
pub mod Words
