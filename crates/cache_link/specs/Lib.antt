pub mod Patience
pub mod Reports
pub mod Dialogues
pub mod Served
