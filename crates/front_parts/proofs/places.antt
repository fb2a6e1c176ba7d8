pub mod Lists
pub mod Eaches
pub mod Found
pub mod HeldKey
pub mod Turned
pub mod Newness
pub mod Indexed
pub mod Searching
