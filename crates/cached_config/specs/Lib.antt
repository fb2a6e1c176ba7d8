pub mod Good
pub mod Said
