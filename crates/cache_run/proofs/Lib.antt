pub mod Happening
pub mod Dropping
pub mod Accounting
pub mod Led
pub mod Leading
pub mod Driving
