pub mod Keys
pub mod Numbers
pub mod Pending
pub mod Standings
