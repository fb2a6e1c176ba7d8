pub mod Exchanges
pub mod Interludes
