pub mod Throughout
pub mod Journaling
pub mod Reaching
pub mod Reading
pub mod Placing
pub mod Gaining
