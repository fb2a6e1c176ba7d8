pub mod Spaces
pub mod Calls
pub mod Services
pub mod Throughout
pub mod Played
pub mod Journals
pub mod Cursors
pub mod Recorded
