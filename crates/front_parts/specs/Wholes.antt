pub mod Firsts
pub mod Covering
