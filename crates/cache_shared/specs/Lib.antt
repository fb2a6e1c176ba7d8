pub mod Events
pub mod Histories
pub mod Intakes
pub mod Marks
pub mod Seats
pub mod Looked
pub mod Recordings
pub mod Taken
