pub mod Firsts
pub mod Told
pub mod Drawn
