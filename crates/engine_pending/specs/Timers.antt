pub mod Awaited
pub mod Firsts
