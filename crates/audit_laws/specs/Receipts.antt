pub mod Laws
pub mod Answers
pub mod Receipts
