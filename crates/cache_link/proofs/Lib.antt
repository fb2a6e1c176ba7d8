pub mod Closing
pub mod Dialogues
pub mod Hearing
pub mod Patience
pub mod Serving
pub mod Several
