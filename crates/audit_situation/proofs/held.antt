pub mod Keyed
pub mod Pushing
pub mod Listing
pub mod Weighing
pub mod Opening
pub mod Keeping
pub mod Lending
