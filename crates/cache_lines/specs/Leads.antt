pub mod Laws
pub mod Leads
pub mod Waiters
