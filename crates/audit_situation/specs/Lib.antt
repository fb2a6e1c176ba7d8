pub mod Held
pub mod Notes
pub mod Actions
pub mod Listings
pub mod Standings
pub mod States
