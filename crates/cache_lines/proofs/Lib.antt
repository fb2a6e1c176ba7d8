mod AnsweredLine
pub mod Drawn
pub mod Gathering
pub mod HeldFeeds
pub mod LineRuns
mod NotesTaken
pub mod Placing
pub mod ReadyEnds
pub mod WholeLines
