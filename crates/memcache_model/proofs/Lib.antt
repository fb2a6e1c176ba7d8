pub mod Fronts
mod Leasing
